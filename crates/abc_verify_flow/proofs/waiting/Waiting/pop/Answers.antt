use Rattle.std.proofs.Common.{◌≡◌, [], List, MatchOption, ℕ, subst}
use Rattle.abc_verify_flow.specs.Waits.{IsLowestTaken}
use Rattle.abc_verify_flow.proofs.Waits.{popped}
use Rattle.abc_verify_flow.proofs.waiting.Waiting.pop.Goals as goal

pub returns : goal.returns
returns c =
    subst (λ (xs : List ℕ). MatchOption c.pop_first.result (xs ≡ []) (λ k. IsLowestTaken k xs c.pop_first.new.self.keys)) c.self.view_is
    (popped c.pop_first.result c.self.inside.marked.keys c.pop_first.new.self.keys c.pop_first.ensures.removal c.pop_first.ensures.all_above c.pop_first.ensures.variant)

use Rattle.std.proofs.Common.{List, ℕ, ap, ◌∙◌}
use Rattle.std.specs.BTreeSet.{insert_key}
use Rattle.std.specs.Ordering.{nat_cmp}
use Rattle.abc_verify_flow.proofs.Waits.{added}
use Rattle.abc_verify_flow.proofs.waiting.Waiting.add.Goals as goal

pub returns : goal.returns
returns c = added c.args.place c.args.self.now c.insert.new.self.keys (c.in_ok-insert.ensures.keys ∙ ap (λ (xs : List ℕ). insert_key nat_cmp xs c.args.place) c.self.view_is)

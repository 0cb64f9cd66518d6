use Rattle.std.proofs.Common.{ℕ, List, ap, ◌∙◌}
use Rattle.abc_verify_flow.specs.Kept.{known_at}
use Rattle.abc_verify_flow.proofs.Numbers.{blank_known}
use Rattle.abc_verify_flow.proofs.states.States.renew.Goals as goal

pub returns : goal.returns
returns c = ap (λ (ns : List ℕ). known_at ns c.forget.new.known) c.renew.ensures ∙ blank_known c.args.count c.forget.new.known

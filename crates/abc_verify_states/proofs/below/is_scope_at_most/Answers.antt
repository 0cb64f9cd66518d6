use Rattle.abc_verify_states.proofs.Pairs.{clash}
use Rattle.abc_verify_states.proofs.below.is_scope_at_most.Goals as goal

pub returns-then-not-is_same_flag : goal.returns-then-not-is_same_flag
returns-then-not-is_same_flag g c = (λ no. absurd cc, λ le. absurd (clash c.is_same_flag.result (c.is_same_flag.ensures.1 le.flag) c.if-not-is_same_flag.true))

pub returns : goal.returns
returns g c = (λ yes. record { kind = c.is_at_most.ensures.0 yes; flag = c.is_same_flag.ensures.0 c.if-not-is_same_flag.false }, λ le. c.is_at_most.ensures.1 le.kind)

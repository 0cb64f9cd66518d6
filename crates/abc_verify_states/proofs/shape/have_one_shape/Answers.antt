use Rattle.abc_verify_states.proofs.Pairs.{clash}
use Rattle.abc_verify_states.proofs.shape.have_one_shape.Goals as goal

pub returns-then-not-has_same_depth : goal.returns-then-not-has_same_depth
returns-then-not-has_same_depth c = (λ no. absurd cc, λ s. absurd (clash c.has_same_depth.result (c.has_same_depth.ensures.1 s.stack) c.if-not-has_same_depth.true))

pub returns-then-not-has_same_count : goal.returns-then-not-has_same_count
returns-then-not-has_same_count c = (λ no. absurd cc, λ s. absurd (clash c.has_same_count.result (c.has_same_count.ensures.1 s.locals) c.if-not-has_same_count.true))

pub returns : goal.returns
returns c = (λ yes. record { stack = c.has_same_depth.ensures.0 c.if-not-has_same_depth.false; scopes = c.have_same_flags.ensures.0 yes; locals = c.has_same_count.ensures.0 c.if-not-has_same_count.false }, λ s. c.have_same_flags.ensures.1 s.scopes)

use Rattle.abc_verify_typing.specs.Typing.{HasOneFlag}
use Rattle.abc_verify_typing.proofs.Lists.{Each2-length}
use Rattle.abc_verify_states.proofs.Pairs.{clash}
use Rattle.abc_verify_states.proofs.shape.have_same_flags.Goals as goal

pub have_flags-requires : goal.have_flags-requires
have_flags-requires c = c.has_same_count.ensures.0 c.if-not-has_same_count.false

pub returns-then-not-has_same_count : goal.returns-then-not-has_same_count
returns-then-not-has_same_count c = (λ no. absurd cc, λ pairs. absurd (clash c.has_same_count.result (c.has_same_count.ensures.1 (Each2-length HasOneFlag _ _ pairs)) c.if-not-has_same_count.true))

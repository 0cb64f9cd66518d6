use Rattle.abc_verify_states.proofs.Pairs.{clash, shape_scopes}
use Rattle.abc_verify_states.proofs.below.is_state_at_most.Goals as goal

pub is_stack_at_most-requires : goal.is_stack_at_most-requires
is_stack_at_most-requires g c = c.requires.stack

pub are_scopes_at_most-requires : goal.are_scopes_at_most-requires
are_scopes_at_most-requires g c = shape_scopes _ _ c.requires

pub are_locals_at_most-requires : goal.are_locals_at_most-requires
are_locals_at_most-requires g c = c.requires.locals

pub returns-then-not-is_stack_at_most : goal.returns-then-not-is_stack_at_most
returns-then-not-is_stack_at_most g c = (λ no. absurd cc, λ le. absurd (clash c.is_stack_at_most.result (c.is_stack_at_most.ensures.1 le.stack) c.if-not-is_stack_at_most.true))

pub returns-then-not-are_scopes_at_most : goal.returns-then-not-are_scopes_at_most
returns-then-not-are_scopes_at_most g c = (λ no. absurd cc, λ le. absurd (clash c.are_scopes_at_most.result (c.are_scopes_at_most.ensures.1 le.scopes) c.if-not-are_scopes_at_most.true))

pub returns : goal.returns
returns g c = (λ yes. record { stack = c.is_stack_at_most.ensures.0 c.if-not-is_stack_at_most.false; scopes = c.are_scopes_at_most.ensures.0 c.if-not-are_scopes_at_most.false; locals = c.are_locals_at_most.ensures.0 yes }, λ le. c.are_locals_at_most.ensures.1 le.locals)

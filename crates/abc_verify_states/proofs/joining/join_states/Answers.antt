use Rattle.abc_verify_states.proofs.Pairs.{shape_scopes}
use Rattle.abc_verify_states.proofs.joining.join_states.Goals as goal

pub join_stacks-requires : goal.join_stacks-requires
join_stacks-requires g c = c.requires.stack

pub join_scopes-requires : goal.join_scopes-requires
join_scopes-requires g c = record { sized = shape_scopes _ _ c.requires; flags = c.requires.scopes }

pub join_locals-requires : goal.join_locals-requires
join_locals-requires g c = c.requires.locals

pub returns : goal.returns
returns g c = record { stack = c.in_ok-join_stacks.ensures; scopes = c.in_ok-join_scopes.ensures; locals = c.in_ok-join_locals.ensures }

use Rattle.std.proofs.Common.{subst, sym}
use Rattle.abc_objects.specs.Stands.{IsObjectOrNone}
use Rattle.abc_run_names.proofs.Delegates.{delegate_there}
use Rattle.abc_run_names.proofs.positions.next_along.Goals as goal

pub first_along-requires-clause-inside : goal.first_along-requires-clause-inside
first_along-requires-clause-inside c = subst (IsObjectOrNone c.args.arena.now) (sym c.delegate.ensures) (delegate_there c.args.linked.now c.args.arena.now c.requires.over c.args.o c.requires.object)

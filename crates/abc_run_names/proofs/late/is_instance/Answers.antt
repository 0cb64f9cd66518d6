use Rattle.std.proofs.Common.{subst}
use Rattle.abc_objects.specs.Values.{Exists}
use Rattle.abc_run_names.proofs.late.is_instance.Goals as goal

pub prototype_of-requires-clause-inside : goal.prototype_of-requires-clause-inside
prototype_of-requires-clause-inside c = subst (Exists c.args.linked.now c.args.s.now.arena) c.in-Obj.is c.requires.class

use Rattle.std.proofs.Common.{subst, sym}
use Rattle.abc_objects.specs.Stands.{IsObjectOrNone}
use Rattle.abc_objects.specs.Values.{Exists}
use Rattle.abc_run_names.proofs.Delegates.{delegate_there}
use Rattle.abc_run_names.proofs.late.delegate_of.Goals as goal

pub delegate-requires : goal.delegate-requires
delegate-requires c = subst (Exists c.args.linked.now c.args.s.now.arena) c.in-Obj.is c.requires.value

pub returns-in-Obj-clause-there : goal.returns-in-Obj-clause-there
returns-in-Obj-clause-there c =
    let l = c.args.linked.now in
    let h = c.args.s.now.arena in
    subst (IsObjectOrNone h) (sym c.delegate.ensures) (delegate_there l h c.requires.over c.in-Obj.o (subst (Exists l h) c.in-Obj.is c.requires.value))

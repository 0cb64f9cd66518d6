use Rattle.std.proofs.Common.{◌≡◌, ◌∙◌, Some, ap, subst}
use Rattle.abc_heap_values.specs.declared.values.Value.{Value}
use Rattle.abc_objects.specs.Stands.{IsObjectOrNone, object_if_any, prototype_of as prototype_in}
use Rattle.abc_objects.proofs.Made.{prototype_is}
use Rattle.abc_run_state.proofs.prototypes.first_held.Goals as goal

pub returns-in-Obj-clause-there : goal.returns-in-Obj-clause-there
returns-in-Obj-clause-there c =
    let l = c.args.linked.now in
    let h = c.args.s.now.arena in
    let o = c.args.o.0 in
    let is : prototype_in h o ≡ Some c.in-Obj.prototype = ap object_if_any (c.slot.ensures ∙ ap (λ (v : Value). Some v) c.in-Obj.is) in
    subst (IsObjectOrNone h) is (prototype_is l h o c.requires.over)

use Rattle.std.proofs.Common.{◌↔◌, IsTrue, ℕ, subst, sym}
use Rattle.abc_heap_values.specs.declared.values.Value.{Value}
use Rattle.abc_objects.specs.Values.{Exists}
use Rattle.abc_link_names.specs.Tree.{IsBelow}
use Rattle.abc_ops.specs.Types.{IsObjectOf}
use Rattle.abc_ops.proofs.types.is_object_of.Goals as goal

pub layout-requires : goal.layout-requires
layout-requires c = subst (Exists c.args.l.now c.args.a.now) c.in-Obj.is c.requires.value

pub returns-in-Obj : goal.returns-in-Obj
returns-in-Obj c =
    let l = c.args.l.now in
    subst (λ (v : Value). IsTrue c.is_below.result ↔ IsObjectOf l c.args.a.now c.args.layout.0 v) (sym c.in-Obj.is)
    (subst (λ (n : ℕ). IsTrue c.is_below.result ↔ IsBelow l n c.args.layout.0) c.layout.ensures c.is_below.ensures)

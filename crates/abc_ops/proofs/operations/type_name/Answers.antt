use Rattle.std.proofs.Common.{subst}
use Rattle.abc_heap_values.specs.declared.values.Value.{Value}
use Rattle.abc_objects.specs.Values.{Exists}
use Rattle.abc_ops.proofs.operations.type_name.Goals as goal

pub what-requires : goal.what-requires
what-requires c = subst (λ (v : Value). Exists c.requires.0 c.args.a.now v) c.in-Obj.is c.requires.1

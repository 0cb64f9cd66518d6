use Rattle.std.proofs.Common.{◌≡◌, ℕ, subst}
use Rattle.abc_heap_values.specs.declared.values.ObjId.{ObjId}
use Rattle.abc_heap_store.specs.Heap.{Heap}
use Rattle.abc_link_names.specs.Linked.{LinkedFile}
use Rattle.abc_link_names.specs.declared.types.Owner.{Owner}
use Rattle.abc_objects.specs.declared.found.Found.{Found}
use Rattle.abc_objects.specs.declared.found.Found.TheVariants.{Method}
use Rattle.abc_objects.specs.declared.name.Name.{Name}
use Rattle.abc_lookup.specs.NoTraits.{IsFoundFirst}
use Rattle.abc_lookup.proofs.at_once.first_method.Goals as goal

of_some : (l : LinkedFile) (h : Heap) (o : ObjId) (n : Name) (x : Found) (owner : Owner) (m : ℕ) → x ≡ Method owner m → IsFoundFirst l h o n x → (w : Owner) × IsFoundFirst l h o n (Method w m)
of_some l h o n x owner m e f = (owner, subst (IsFoundFirst l h o n) e f)

pub returns-in-Method : goal.returns-in-Method
returns-in-Method c = of_some c.args.l.now c.args.a.now c.args.o c.args.name.now c.first_of_traits-found.result _ c.in-Method.method c.in-Method.is c.first_of_traits-found.ensures

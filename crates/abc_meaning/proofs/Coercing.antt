-- What is computed of coercion is what it answers and leaves.
use Rattle.std.proofs.Common.{◌≡◌, Bool, true, false, refl, sym, ap, ◌∙◌}
use Rattle.std.specs.Prelude.{◌↔◌, IsTrue}
use Rattle.std.specs.declared.result.Result.{Result}
use Rattle.abc_heap_values.specs.declared.values.Value.{Value}
use Rattle.abc_heap_store.specs.Heap.{Heap}
use Rattle.abc_ops.specs.Coercions.{CoercionKeeps, value_kept_by}
use Rattle.abc_ops.specs.Left.{LeavesHeap}
use Rattle.abc_ops.specs.declared.end.OpEnd.{OpEnd}
use Rattle.abc_link_names.specs.Linked.{IsLinkedFile, LinkedFile}
use Rattle.abc_link_names.specs.declared.types.Ty.{Ty}
use Rattle.abc_link_names.specs.declared.types.Ty.TheVariants as types
use Rattle.abc_meaning.specs.TypeLaws.{ComputesCoercion}
use Rattle.abc_meaning.specs.Ops.{value_kept}
use Rattle.abc_meaning.specs.Types.{is_of_type}
use Rattle.abc_meaning.proofs.TypeTests.{decides_types}

-- tests of one fact are equal
same_test : {P : Type 0} (a b : Bool) → (IsTrue a ↔ P) → (IsTrue b ↔ P) → a ≡ b
same_test true true f g = refl
same_test true false f g = sym (g.1 (f.0 refl))
same_test false true f g = f.1 (g.0 refl)
same_test false false f g = refl

keeps_so : (l : LinkedFile) (old new : Heap) (t : Ty) (v : Value) (result : Result Value OpEnd) → IsLinkedFile l → CoercionKeeps l old t v result → new ≡ old → LeavesHeap (value_kept l old t v) result new
keeps_so l old new t v result f k same = (k.kept ∙ ap (λ b. value_kept_by b v) (same_test k.is (is_of_type l old t v) k.tells (decides_types l old t v f)), same)

pub computes_coercion : ComputesCoercion
computes_coercion l old new types.Any v result f c = c
computes_coercion l old new types.Void v result f c = c
computes_coercion l old new types.Object v result f c = c
computes_coercion l old new types.Int v result f c = c
computes_coercion l old new types.UInt v result f c = c
computes_coercion l old new types.Number v result f c = c
computes_coercion l old new types.Boolean v result f c = c
computes_coercion l old new types.Text v result f c = c
computes_coercion l old new types.Space v result f c = keeps_so l old new types.Space v result f c.0 c.1
computes_coercion l old new (types.Of x) v result f c = keeps_so l old new (types.Of x) v result f c.0 c.1
computes_coercion l old new (types.Interface k) v result f c = keeps_so l old new (types.Interface k) v result f c.0 c.1

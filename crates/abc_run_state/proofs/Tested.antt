-- A test of types that code makes is the one of the meaning.
use Rattle.std.proofs.Common.{◌≡◌, Bool, true, false, refl, sym}
use Rattle.std.specs.Prelude.{◌↔◌, IsTrue}
use Rattle.abc_heap_values.specs.declared.values.Value.{Value}
use Rattle.abc_heap_store.specs.Heap.{Heap}
use Rattle.abc_ops.specs.Types.{IsOf}
use Rattle.abc_link_names.specs.Linked.{IsLinkedFile, LinkedFile}
use Rattle.abc_link_names.specs.declared.types.Ty.{Ty}
use Rattle.abc_meaning.specs.Types.{is_of_type}
use Rattle.abc_meaning.proofs.TypeTests.{decides_types}

same_test : {P : Type 0} (a b : Bool) → (IsTrue a ↔ P) → (IsTrue b ↔ P) → a ≡ b
same_test true true f g = refl
same_test true false f g = sym (g.1 (f.0 refl))
same_test false true f g = f.1 (g.0 refl)
same_test false false f g = refl

pub type_tested : (l : LinkedFile) (h : Heap) (t : Ty) (v : Value) (is : Bool) → IsLinkedFile l → (IsTrue is ↔ IsOf l h t v) → is ≡ is_of_type l h t v
type_tested l h t v is k tells = same_test {P = IsOf l h t v} is (is_of_type l h t v) tells (decides_types l h t v k)

-- Strict equality, and equality of namespaces, are equivalences.
use Rattle.std.proofs.Common.{◌≡◌, ℕ, List, Bool, true, false, refl, ap}
use Rattle.std.proofs.lemmas.Slice.Eq.{bytes_eq-Decides}
use Rattle.std.specs.Cmp.{IsEquivalence, int_eq_equiv, nat_eq_equiv, signed_Decides, unsigned_Decides}
use Rattle.std.specs.Cmp.Lexicographic.{nat_list_eq_equiv}
use Rattle.std.specs.Str.{bytes_eq}
use Rattle.abc_heap_values.specs.declared.values.Span.{Span}
use Rattle.abc_heap_values.specs.declared.values.Value.{Value}
use Rattle.abc_heap_values.specs.declared.values.Value.TheVariants as values
use Rattle.abc_heap_values.specs.Equality.{same_truth, same_values}

-- ---- values

truth_refl : (a : Bool) → same_truth a (values.Bool a) ≡ true
truth_refl true = refl
truth_refl false = refl

truth_symm : (a b : Bool) → same_truth a (values.Bool b) ≡ same_truth b (values.Bool a)
truth_symm true true = refl
truth_symm true false = refl
truth_symm false true = refl
truth_symm false false = refl

truth_is : (a b : Bool) → same_truth a (values.Bool b) ≡ true → a ≡ b
truth_is true true e = refl
truth_is true false e = cc
truth_is false true e = cc
truth_is false false e = refl

same_refl : (text : Span → List ℕ) (same : ℕ → ℕ → Bool) → IsEquivalence same → (x : Value) → same_values text same x x ≡ true
same_refl text same s values.Undefined = refl
same_refl text same s values.Null = refl
same_refl text same s (values.Num n) = int_eq_equiv.refl n
same_refl text same s (values.Bool b) = truth_refl b
same_refl text same s (values.Text t) = nat_list_eq_equiv.refl (text t)
same_refl text same s (values.Space a) = s.refl a
same_refl text same s (values.Obj o) = nat_eq_equiv.refl o.0

same_symm : (text : Span → List ℕ) (same : ℕ → ℕ → Bool) → IsEquivalence same → (x y : Value) → same_values text same x y ≡ same_values text same y x
same_symm text same s values.Undefined values.Undefined = refl
same_symm text same s values.Undefined y = refl
same_symm text same s values.Null values.Null = refl
same_symm text same s values.Null y = refl
same_symm text same s (values.Num n) (values.Num m) = int_eq_equiv.symm n m
same_symm text same s (values.Num n) y = refl
same_symm text same s (values.Bool a) (values.Bool b) = truth_symm a b
same_symm text same s (values.Bool a) y = refl
same_symm text same s (values.Text t) (values.Text u) = nat_list_eq_equiv.symm (text t) (text u)
same_symm text same s (values.Text t) y = refl
same_symm text same s (values.Space a) (values.Space b) = s.symm a b
same_symm text same s (values.Space a) y = refl
same_symm text same s (values.Obj o) (values.Obj p) = nat_eq_equiv.symm o.0 p.0
same_symm text same s (values.Obj o) y = refl

-- the same namespace is equal to the same ones
space_congr : (text : Span → List ℕ) (same : ℕ → ℕ → Bool) → IsEquivalence same → (a b : ℕ) (z : Value) → same a b ≡ true → same_values text same (values.Space a) z ≡ same_values text same (values.Space b) z
space_congr text same s a b (values.Space c) e = s.congr a b c e
space_congr text same s a b z e = refl

text_congr : (text : Span → List ℕ) (same : ℕ → ℕ → Bool) (t u : Span) (z : Value) → text t ≡ text u → same_values text same (values.Text t) z ≡ same_values text same (values.Text u) z
text_congr text same t u (values.Text w) e = ap (λ bytes. bytes_eq bytes (text w)) e
text_congr text same t u z e = refl

object_congr : (text : Span → List ℕ) (same : ℕ → ℕ → Bool) (o p : ℕ) (z : Value) → o ≡ p → same_values text same (values.Obj (record { 0 = o })) z ≡ same_values text same (values.Obj (record { 0 = p })) z
object_congr text same o p z e = ap (λ k. same_values text same (values.Obj (record { 0 = k })) z) e

same_congr : (text : Span → List ℕ) (same : ℕ → ℕ → Bool) → IsEquivalence same → (x y z : Value) → same_values text same x y ≡ true → same_values text same x z ≡ same_values text same y z
same_congr text same s values.Undefined values.Undefined z e = refl
same_congr text same s values.Undefined y z e = cc
same_congr text same s values.Null values.Null z e = refl
same_congr text same s values.Null y z e = cc
same_congr text same s (values.Num n) (values.Num m) z e = ap (λ k. same_values text same (values.Num k) z) ((signed_Decides n m).0 e)
same_congr text same s (values.Num n) y z e = cc
same_congr text same s (values.Bool a) (values.Bool b) z e = ap (λ k. same_values text same (values.Bool k) z) (truth_is a b e)
same_congr text same s (values.Bool a) y z e = cc
same_congr text same s (values.Text t) (values.Text u) z e = text_congr text same t u z ((bytes_eq-Decides (text t) (text u)).0 e)
same_congr text same s (values.Text t) y z e = cc
same_congr text same s (values.Space a) (values.Space b) z e = space_congr text same s a b z e
same_congr text same s (values.Space a) y z e = cc
same_congr text same s (values.Obj o) (values.Obj p) z e = object_congr text same o.0 p.0 z ((unsigned_Decides o.0 p.0).0 e)
same_congr text same s (values.Obj o) y z e = cc

pub same_values_equivalence : (text : Span → List ℕ) (same : ℕ → ℕ → Bool) → IsEquivalence same → IsEquivalence (same_values text same)
same_values_equivalence text same s = record { refl = same_refl text same s; symm = same_symm text same s; congr = same_congr text same s }

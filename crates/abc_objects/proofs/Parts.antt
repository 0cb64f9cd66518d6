-- Lists in parts, and what is made of a list of numbers or of classes.
use Rattle.std.proofs.Common.{◌≡◌, ℕ, zero, suc, ◌+◌, ◌<◌, List, [], ◌∷◌, ◌++◌, Some, length, map, refl, ap, ◌∙◌, subst, arith}
use Rattle.std.specs.List.{concat, range_with_len}
use Rattle.std.specs.Prelude.{slice_get}
use Rattle.std.proofs.lemmas.Option.{slice_get_within}
use Rattle.std.proofs.Common.{length-append, inl, inr}
use Rattle.abc_base.specs.Names.{host_classes}
use Rattle.abc_base.specs.declared.names.HostClass.{HostClass}
use Rattle.abc_base.specs.declared.names.HostClass.TheVariants as hosts
use Rattle.abc_heap_values.proofs.Parts.{slice_get_left}
use Rattle.abc_link_names.specs.Places.{host_number}
use Rattle.abc_objects.proofs.Kept.{in_either}

pub left_at : {X : Type 0} (xs ys : List X) (i : ℕ) (x : X) → slice_get xs i ≡ Some x → slice_get (xs ++ ys) i ≡ Some x
left_at xs ys i x e = slice_get_left xs ys i (slice_get_within xs i x e) ∙ e

pub right_at : {X : Type 0} (xs ys : List X) (i j : ℕ) → j ≡ length xs + i → slice_get (xs ++ ys) j ≡ slice_get ys i
right_at [] ys i j q = let z : j ≡ i = omega arith in ap (slice_get ys) z
right_at (x ∷ xs) ys i zero q = absurd (omega arith)
right_at (x ∷ xs) ys i (suc j) q = right_at xs ys i j (omega arith)

-- what holds of each element of a list, by its number from n on
abbrev pub From : {X : Type 0} → (ℕ → X → Type 0) → ℕ → List X → Type 0
From {X = X} Q n xs = (k : ℕ) (x : X) → slice_get xs k ≡ Some x → Q (n + k) x

pub from_both : {X : Type 0} (Q : ℕ → X → Type 0) (n m : ℕ) (xs ys : List X) → m ≡ n + length xs → From Q n xs → From Q m ys → From Q n (xs ++ ys)
from_both Q n m xs ys e a b = λ k x q. elim (in_either xs ys k x q) [
  | inl r ↦ a k x r.1
  | inr r ↦ let z : m + r.0 ≡ n + k = omega (arith, r.1) in subst (λ i. Q i x) z (b r.0 x r.2)
]

-- ---- a function of numbers

pub at_range : {X : Type 0} (f : ℕ → X) (a n k : ℕ) (x : X) → slice_get (map f (range_with_len a n)) k ≡ Some x → (k < n) × (f (a + k) ≡ x)
at_range f a zero k x e = absurd cc
at_range f a (suc n) zero x e = let q : f a ≡ x = cc in let z : a + zero ≡ a = omega arith in (omega arith, ap f z ∙ q)
at_range f a (suc n) (suc k) x e =
    let r = at_range f (a + 1) n k x e in
    let z : a + suc k ≡ (a + 1) + k = omega arith in
    (omega (arith, r.0), ap f z ∙ r.1)

pub range_at : {X : Type 0} (f : ℕ → X) (a n k : ℕ) → k < n → slice_get (map f (range_with_len a n)) k ≡ Some (f (a + k))
range_at f a zero k b = absurd (omega arith)
range_at f a (suc n) zero b = let z : a ≡ a + zero = omega arith in ap (λ i. Some (f i)) z
range_at f a (suc n) (suc k) b = let z : (a + 1) + k ≡ a + suc k = omega arith in range_at f (a + 1) n k (omega arith) ∙ ap (λ i. Some (f i)) z

-- ---- a function of the classes of the host

abbrev Numbered : ℕ → List HostClass → Type 0
Numbered n [] = Unit {0}
Numbered n (c ∷ cs) = (host_number c ≡ n) × Numbered (n + 1) cs

at_class_in : {X : Type 0} (f : HostClass → X) (cs : List HostClass) (n k : ℕ) (x : X) → Numbered n cs → slice_get (map f cs) k ≡ Some x → (c : HostClass) × (host_number c ≡ n + k) × (f c ≡ x)
at_class_in f [] n k x w e = absurd cc
at_class_in f (c ∷ cs) n zero x w e = let q : f c ≡ x = cc in (c, omega (arith, w.0), q)
at_class_in f (c ∷ cs) n (suc k) x w e = let r = at_class_in f cs (n + 1) k x w.1 e in (r.0, omega (arith, r.1), r.2)

classes_numbered : Numbered 0 host_classes
classes_numbered = (refl, (refl, (refl, (refl, (refl, (refl, (refl, (refl, (refl, (refl, (refl, (refl, (refl, (refl, tt))))))))))))))

pub at_class : {X : Type 0} (f : HostClass → X) (k : ℕ) (x : X) → slice_get (map f host_classes) k ≡ Some x → (c : HostClass) × (host_number c ≡ k) × (f c ≡ x)
at_class f k x e = let r = at_class_in f host_classes 0 k x classes_numbered e in (r.0, omega (arith, r.1), r.2)

pub class_at : {X : Type 0} (f : HostClass → X) (c : HostClass) → slice_get (map f host_classes) (host_number c) ≡ Some (f c)
class_at f hosts.Object = refl
class_at f hosts.Class = refl
class_at f hosts.Function = refl
class_at f hosts.Namespace = refl
class_at f hosts.Str = refl
class_at f hosts.Int = refl
class_at f hosts.UInt = refl
class_at f hosts.Number = refl
class_at f hosts.Boolean = refl
class_at f hosts.Error = refl
class_at f hosts.TypeError = refl
class_at f hosts.ReferenceError = refl
class_at f hosts.ArgumentError = refl
class_at f hosts.Array = refl

-- ---- texts one after the other

pub concat_both : (a b : List (List ℕ)) → length (concat (a ++ b)) ≡ length (concat a) + length (concat b)
concat_both [] b = omega arith
concat_both (t ∷ ts) b = omega (arith, concat_both ts b, length-append t (concat (ts ++ b)), length-append t (concat ts))

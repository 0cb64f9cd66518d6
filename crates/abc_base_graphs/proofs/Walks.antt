-- The laws of ways.
use Rattle.std.proofs.Common.{◌≡◌, ℕ, zero, suc, ◌≤◌, List, [], ◌∷◌, refl, sym, ap, subst, ◌∙◌, arith}
use Rattle.std.specs.Prelude.{Some, None}
use Rattle.std.specs.declared.option.Option.{Option}
use Rattle.abc_base_graphs.specs.Ways.{places_along, way, IsFalling, IsWay, IsPlaceBelow}

pub falls_below : (next : ℕ → Option ℕ) → IsFalling next → (x n : ℕ) → x ≤ n → (o : Option ℕ) → next x ≡ o → IsPlaceBelow o n
falls_below next f x n h None e = tt
falls_below next f x n h (Some y) e = let lt = f.falls x y e in omega (arith, lt)

-- more steps than places make no difference
enough : (next : ℕ → Option ℕ) → IsFalling next → (n m : ℕ) (at : Option ℕ) → IsPlaceBelow at n → IsPlaceBelow at m → places_along next n at ≡ places_along next m at
enough next f zero zero at h k = refl
enough next f zero (suc m) None h k = refl
enough next f zero (suc m) (Some x) h k = absurd (omega arith)
enough next f (suc n) zero None h k = refl
enough next f (suc n) zero (Some x) h k = absurd (omega arith)
enough next f (suc n) (suc m) None h k = refl
enough next f (suc n) (suc m) (Some x) h k =
    ap (λ xs. x ∷ xs) (enough next f n m (next x) (falls_below next f x n (omega arith) (next x) refl) (falls_below next f x m (omega arith) (next x) refl))

pub way_none : (next : ℕ → Option ℕ) → way next None ≡ []
unfolding way
way_none next = refl

rest : (next : ℕ → Option ℕ) → IsFalling next → (x : ℕ) (o : Option ℕ) → next x ≡ o → places_along next x o ≡ way next o
unfolding way
rest next f zero None e = refl
rest next f (suc x) None e = refl
rest next f x (Some y) e = let lt = f.falls x y e in enough next f x (suc y) (Some y) lt (omega arith)

-- a way goes on by the way from where the link leads
pub way_some : (next : ℕ → Option ℕ) → IsFalling next → (x : ℕ) → way next (Some x) ≡ x ∷ way next (next x)
unfolding way
way_some next f x = ap (λ xs. x ∷ xs) (rest next f x (next x) refl)

-- a step of a walk stays within the list
pub step_in : (next : ℕ → Option ℕ) → IsFalling next → (x n : ℕ) (at : Option ℕ) → at ≡ Some x → IsPlaceBelow at n → (to : Option ℕ) → to ≡ next x → IsPlaceBelow to n
step_in next f x n None e h to is = cc
step_in next f x n (Some y) e h to is =
    let q : y ≡ x = cc in
    falls_below next f x n (omega arith) to (sym is)

way_below : (next : ℕ → Option ℕ) → IsFalling next → (n : ℕ) (at : Option ℕ) → IsPlaceBelow at n → IsWay next at (way next at)
way_below next f n None h = subst (IsWay next None) (sym (way_none next)) refl
way_below next f zero (Some x) h = absurd (omega arith)
way_below next f (suc n) (Some x) h = subst (IsWay next (Some x)) (sym (way_some next f x)) (refl, way_below next f n (next x) (falls_below next f x n (omega arith) (next x) refl))

-- the way is a way, and the only one
pub is_way : (next : ℕ → Option ℕ) → IsFalling next → (at : Option ℕ) → IsWay next at (way next at)
is_way next f None = way_below next f 0 None tt
is_way next f (Some x) = way_below next f (suc x) (Some x) (omega arith)

pub only_way : (next : ℕ → Option ℕ) → IsFalling next → (at : Option ℕ) (xs : List ℕ) → IsWay next at xs → xs ≡ way next at
only_way next f at [] e = sym (way_none next) ∙ ap (way next) (sym e)
only_way next f at (x ∷ xs) e = ap (λ ys. x ∷ ys) (only_way next f (next x) xs e.1) ∙ sym (way_some next f x) ∙ ap (way next) (sym e.0)

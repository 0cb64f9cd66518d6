-- Laws of Each and Each2.
use Rattle.std.proofs.Common.{◌≡◌, ℕ, zero, suc, ◌<◌, List, [], ◌∷◌, ◌++◌, Some, length, take, drop, set, get_or, reverse, refl, sym, ap, subst, arith, ◌⊎◌, inl, inr}
use Rattle.std.specs.Prelude.{slice_get}
use Rattle.std.proofs.lemmas.List.{reverse-append}
use Rattle.abc_verify_typing.specs.Lists.{Each, Each2}

pub Each2-length : {X Y : Type 0} (R : X → Y → Type 0) (xs : List X) (ys : List Y) → Each2 R xs ys → length xs ≡ length ys
Each2-length R [] [] h = refl
Each2-length R (x ∷ xs) (y ∷ ys) h = ap suc (Each2-length R xs ys h.1)
Each2-length R [] (y ∷ ys) h = absurd h
Each2-length R (x ∷ xs) [] h = absurd h

pub Each2-self : {X : Type 0} (R : X → X → Type 0) → ((x : X) → R x x) → (xs : List X) → Each2 R xs xs
Each2-self R r [] = tt
Each2-self R r (x ∷ xs) = (r x, Each2-self R r xs)

pub Each2-trans : {X : Type 0} (R : X → X → Type 0) → ((x y z : X) → R x y → R y z → R x z) → (xs ys zs : List X) → Each2 R xs ys → Each2 R ys zs → Each2 R xs zs
Each2-trans R t [] [] [] p q = tt
Each2-trans R t (x ∷ xs) (y ∷ ys) (z ∷ zs) p q = (t x y z p.0 q.0, Each2-trans R t xs ys zs p.1 q.1)
Each2-trans R t [] [] (z ∷ zs) p q = absurd q
Each2-trans R t [] (y ∷ ys) zs p q = absurd p
Each2-trans R t (x ∷ xs) [] zs p q = absurd p
Each2-trans R t (x ∷ xs) (y ∷ ys) [] p q = absurd q

pub Each2-take : {X Y : Type 0} (R : X → Y → Type 0) (n : ℕ) (xs : List X) (ys : List Y) → Each2 R xs ys → Each2 R (take n xs) (take n ys)
Each2-take R zero xs ys h = tt
Each2-take R (suc n) [] [] h = tt
Each2-take R (suc n) (x ∷ xs) (y ∷ ys) h = (h.0, Each2-take R n xs ys h.1)
Each2-take R (suc n) [] (y ∷ ys) h = absurd h
Each2-take R (suc n) (x ∷ xs) [] h = absurd h

pub Each2-drop : {X Y : Type 0} (R : X → Y → Type 0) (n : ℕ) (xs : List X) (ys : List Y) → Each2 R xs ys → Each2 R (drop n xs) (drop n ys)
Each2-drop R zero xs ys h = h
Each2-drop R (suc n) [] [] h = tt
Each2-drop R (suc n) (x ∷ xs) (y ∷ ys) h = Each2-drop R n xs ys h.1
Each2-drop R (suc n) [] (y ∷ ys) h = absurd h
Each2-drop R (suc n) (x ∷ xs) [] h = absurd h

pub Each2-append : {X Y : Type 0} (R : X → Y → Type 0) (xs : List X) (ys : List Y) (us : List X) (vs : List Y) → Each2 R xs ys → Each2 R us vs → Each2 R (xs ++ us) (ys ++ vs)
Each2-append R [] [] us vs h k = k
Each2-append R (x ∷ xs) (y ∷ ys) us vs h k = (h.0, Each2-append R xs ys us vs h.1 k)
Each2-append R [] (y ∷ ys) us vs h k = absurd h
Each2-append R (x ∷ xs) [] us vs h k = absurd h

pub Each2-set : {X Y : Type 0} (R : X → Y → Type 0) (n : ℕ) (xs : List X) (ys : List Y) (x : X) (y : Y) → Each2 R xs ys → R x y → Each2 R (set xs n x) (set ys n y)
Each2-set R n [] [] a b h r = tt
Each2-set R zero (x ∷ xs) (y ∷ ys) a b h r = (r, h.1)
Each2-set R (suc n) (x ∷ xs) (y ∷ ys) a b h r = (h.0, Each2-set R n xs ys a b h.1 r)
Each2-set R n [] (y ∷ ys) a b h r = absurd h
Each2-set R n (x ∷ xs) [] a b h r = absurd h

pub Each2-get : {X Y : Type 0} (R : X → Y → Type 0) (n : ℕ) (xs : List X) (ys : List Y) (d : X) (e : Y) → Each2 R xs ys → R d e → R (get_or xs n d) (get_or ys n e)
Each2-get R n [] [] d e h r = r
Each2-get R zero (x ∷ xs) (y ∷ ys) d e h r = h.0
Each2-get R (suc n) (x ∷ xs) (y ∷ ys) d e h r = Each2-get R n xs ys d e h.1 r
Each2-get R n [] (y ∷ ys) d e h r = absurd h
Each2-get R n (x ∷ xs) [] d e h r = absurd h

pub Each-at : {X : Type 0} (P : X → Type 0) (xs : List X) (k : ℕ) (x : X) → Each P xs → slice_get xs k ≡ Some x → P x
Each-at P [] k x h e = cc
Each-at P (y ∷ ys) zero x h e = let q : y ≡ x = cc in subst P q h.0
Each-at P (y ∷ ys) (suc k) x h e = Each-at P ys k x h.1 e

pub Each2-map : {X Y : Type 0} (R S : X → Y → Type 0) → ((x : X) (y : Y) → R x y → S x y) → (xs : List X) (ys : List Y) → Each2 R xs ys → Each2 S xs ys
Each2-map R S f [] [] h = tt
Each2-map R S f (x ∷ xs) (y ∷ ys) h = (f x y h.0, Each2-map R S f xs ys h.1)
Each2-map R S f [] (y ∷ ys) h = absurd h
Each2-map R S f (x ∷ xs) [] h = absurd h

-- what is read after a write
pub slice_get-set : {X : Type 0} (xs : List X) (i j : ℕ) (x y z : X) → slice_get xs i ≡ Some z → slice_get xs j ≡ Some y → (slice_get (set xs i x) j ≡ Some y) ⊎ ((slice_get (set xs i x) j ≡ Some x) × (i ≡ j))
slice_get-set (a ∷ xs) zero zero x y z f e = inr (refl, refl)
slice_get-set (a ∷ xs) zero (suc j) x y z f e = inl e
slice_get-set (a ∷ xs) (suc i) zero x y z f e = inl e
slice_get-set (a ∷ xs) (suc i) (suc j) x y z f e = elim (slice_get-set xs i j x y z f e) [ inl h ↦ inl h | inr h ↦ inr (h.0, ap suc h.1) ]
slice_get-set [] i j x y z f e = absurd cc

pub slice_get-push : {X : Type 0} (xs ys : List X) (j : ℕ) (y : X) → slice_get xs j ≡ Some y → slice_get (xs ++ ys) j ≡ Some y
slice_get-push (a ∷ xs) ys zero y e = e
slice_get-push (a ∷ xs) ys (suc j) y e = slice_get-push xs ys j y e
slice_get-push [] ys j y e = absurd cc

pub slice_get-last : {X : Type 0} (xs : List X) (x : X) → slice_get (xs ++ x ∷ []) (length xs) ≡ Some x
slice_get-last [] x = refl
slice_get-last (a ∷ xs) x = slice_get-last xs x

pub slice_get-pushed : {X : Type 0} (xs : List X) (x y : X) (j : ℕ) → slice_get (xs ++ x ∷ []) j ≡ Some y → (slice_get xs j ≡ Some y) ⊎ (x ≡ y)
slice_get-pushed [] x y zero e = inr cc
slice_get-pushed [] x y (suc j) e = absurd cc
slice_get-pushed (a ∷ xs) x y zero e = inl e
slice_get-pushed (a ∷ xs) x y (suc j) e = slice_get-pushed xs x y j e

pub slice_get-some : {X : Type 0} (xs : List X) (j : ℕ) → j < length xs → (x : X) × (slice_get xs j ≡ Some x)
slice_get-some (x ∷ xs) zero b = (x, refl)
slice_get-some (x ∷ xs) (suc j) b = slice_get-some xs j (omega arith)
slice_get-some [] j b = absurd (omega arith)

pub Each2-left : {X Y : Type 0} (R : X → Y → Type 0) (P : Y → Type 0) → ((x : X) (y : Y) → R x y → P y) → (xs : List X) (ys : List Y) → Each2 R xs ys → Each P ys
Each2-left R P f [] [] h = tt
Each2-left R P f (x ∷ xs) (y ∷ ys) h = (f x y h.0, Each2-left R P f xs ys h.1)
Each2-left R P f [] (y ∷ ys) h = absurd h
Each2-left R P f (x ∷ xs) [] h = absurd h

pub Each-append : {X : Type 0} (P : X → Type 0) (xs ys : List X) → Each P xs → Each P ys → Each P (xs ++ ys)
Each-append P [] ys h k = k
Each-append P (x ∷ xs) ys h k = (h.0, Each-append P xs ys h.1 k)

pub Each-reverse : {X : Type 0} (P : X → Type 0) (xs : List X) → Each P xs → Each P (reverse xs)
Each-reverse P [] h = tt
Each-reverse P (x ∷ xs) h = subst (Each P) (sym (reverse-append (x ∷ []) xs)) (Each-append P (reverse xs) (x ∷ []) (Each-reverse P xs h.1) (h.0, tt))

pub slice_get-was : {X : Type 0} (xs : List X) (i j : ℕ) (x y : X) → slice_get (set xs i x) j ≡ Some y → (slice_get xs j ≡ Some y) ⊎ (x ≡ y)
slice_get-was (a ∷ xs) zero zero x y e = inr cc
slice_get-was (a ∷ xs) zero (suc j) x y e = inl e
slice_get-was (a ∷ xs) (suc i) zero x y e = inl e
slice_get-was (a ∷ xs) (suc i) (suc j) x y e = slice_get-was xs i j x y e
slice_get-was [] i j x y e = inl e

pub Each-map : {X : Type 0} (P Q : X → Type 0) → ((x : X) → P x → Q x) → (xs : List X) → Each P xs → Each Q xs
Each-map P Q f [] h = tt
Each-map P Q f (x ∷ xs) h = (f x h.0, Each-map P Q f xs h.1)

pub Each2-at : {X Y : Type 0} (R : X → Y → Type 0) (xs : List X) (ys : List Y) (n : ℕ) (d : X) → n < length xs → Each2 R xs ys → (y : Y) × (slice_get ys n ≡ Some y) × R (get_or xs n d) y
Each2-at R (x ∷ xs) (y ∷ ys) zero d b h = (y, refl, h.0)
Each2-at R (x ∷ xs) (y ∷ ys) (suc n) d b h = Each2-at R xs ys n d (omega arith) h.1
Each2-at R (x ∷ xs) [] n d b h = absurd h
Each2-at R [] ys n d b h = absurd (omega arith)

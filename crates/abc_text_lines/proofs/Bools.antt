-- Tests.
use Rattle.std.proofs.Common.{◌≡◌, ◌⊎◌, inl, inr, Bool, true, false, cond, ◌&&◌, ◌||◌, not, refl}

pub split_bool : (b : Bool) → (b ≡ true) ⊎ (b ≡ false)
split_bool true = inl refl
split_bool false = inr refl

pub if_is : {A : Type 0} (b : Bool) (x y r : A) → cond b x y ≡ r → ((b ≡ true) × (x ≡ r)) ⊎ ((b ≡ false) × (y ≡ r))
if_is true x y r e = inl (refl, e)
if_is false x y r e = inr (refl, e)

pub not_true : (b : Bool) → not b ≡ true → b ≡ false
not_true true e = absurd cc
not_true false e = refl

pub and_true : (a b : Bool) → (a && b) ≡ true → (a ≡ true) × (b ≡ true)
and_true true b e = (refl, e)
and_true false b e = absurd cc

pub or_true : (a : Bool) → (a || true) ≡ true
or_true true = refl
or_true false = refl

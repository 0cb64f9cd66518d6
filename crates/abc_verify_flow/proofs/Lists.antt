-- Lists that are compared or copied place by place.
use Rattle.std.proofs.Common.{◌≡◌, ℕ, zero, suc, ◌+◌, ◌≤◌, ◌<◌, List, [], ◌∷◌, ◌++◌, Some, length, set, take, get_or, sym, ap, ◌∙◌, subst, arith}
use Rattle.std.specs.Prelude.{slice_get}
use Rattle.std.proofs.lemmas.List.{take_more}
use Rattle.std.proofs.lemmas.List.Edits.{paste_more}
use Rattle.std.proofs.Math.Seq.{paste}
use Rattle.abc_link_names.specs.Kinds.{IsAtMost, IsJoin}
use Rattle.abc_link_names.specs.Linked.{LinkedFile}
use Rattle.abc_link_names.specs.declared.types.Kind.{Kind}
use Rattle.abc_verify_typing.specs.Lists.{Each2}
use Rattle.abc_verify_typing.proofs.Lists.{Each2-append}

-- a kind whose join with another is the other
pub joined_below : (p : LinkedFile) (a b j : Kind) → IsJoin p b a j → j ≡ b → IsAtMost p a b
joined_below p a b j h e = subst (λ (k : Kind). IsAtMost p a k) e h.right

-- ---- two lists

-- a list as far as it was read, by what was read last
pub read_more : {X : Type 0} (xs : List X) (i : ℕ) (x : X) → slice_get xs i ≡ Some x → take (i + 1) xs ≡ take i xs ++ x ∷ []
read_more {X} xs i x e = let z : i + 1 ≡ suc i = omega arith in ap (λ (n : ℕ). take n xs) z ∙ go xs i e
  where
    go : (ys : List X) (k : ℕ) → slice_get ys k ≡ Some x → take (suc k) ys ≡ take k ys ++ x ∷ []
    go [] k f = absurd cc
    go (y ∷ ys) zero f = let q : y ≡ x = cc in ap (λ (z : X). z ∷ []) q
    go (y ∷ ys) (suc k) f = ap (λ (zs : List X). y ∷ zs) (go ys k f)

pub taken_more : {X : Type 0} (xs : List X) (i : ℕ) (d x : X) → i < length xs → x ≡ get_or xs i d → take (i + 1) xs ≡ take i xs ++ x ∷ []
taken_more {X} xs i d x lt e = take_more xs i d lt ∙ ap (λ (y : X). take i xs ++ y ∷ []) (sym e)

module _ {X : Type 0} (R : X → X → Type 0) (xs ys : List X) where
  pub each_next : (i : ℕ) (x y : X) → take (i + 1) xs ≡ take i xs ++ x ∷ [] → take (i + 1) ys ≡ take i ys ++ y ∷ [] → Each2 R (take i xs) (take i ys) → R x y → Each2 R (take (i + 1) xs) (take (i + 1) ys)
  each_next i x y p q h r =
      subst (λ (us : List X). Each2 R us (take (i + 1) ys)) (sym p) (
      subst (λ (us : List X). Each2 R (take i xs ++ x ∷ []) us) (sym q) (
      Each2-append R (take i xs) (take i ys) (x ∷ []) (y ∷ []) h (r, tt)
      ))

pub each_along : {X : Type 0} (R : X → X → Type 0) (xs ys us vs : List X) → Each2 R xs ys → xs ≡ us → ys ≡ vs → Each2 R us vs
each_along {X} R xs ys us vs h p q = subst (λ (zs : List X). Each2 R us zs) q (subst (λ (zs : List X). Each2 R zs ys) p h)

-- ---- a list over a part of another

module _ {X : Type 0} (old xs : List X) where
  pub pasted_next : (now new : List X) (at i : ℕ) (d : X) → at + length xs ≤ length old → i < length xs → now ≡ paste old at xs i → new ≡ set now (at + i) (get_or xs i d) → new ≡ paste old at xs (i + 1)
  pasted_next now new at i d le lt e f = f ∙ ap (λ (ys : List X). set ys (at + i) (get_or xs i d)) e ∙ paste_more old at xs i d (omega (arith, le, lt)) lt

-- A layout far above each, one after the other.
use Rattle.std.proofs.Common.{◌≡◌, ℕ, zero, suc, ◌+◌, List, [], ◌∷◌, ◌++◌, Some, length, refl, sym, subst, ap, arith, ◌⊎◌, inl, inr}
use Rattle.std.specs.Prelude.{slice_get}
use Rattle.std.proofs.lemmas.List.{length-append}
use Rattle.abc_link_names.specs.Linked.{LinkedFile, above}
use Rattle.abc_link_names.specs.Tree.{IsBelow}
use Rattle.abc_link_names.proofs.Tree.{below_self, below_trans, below_up}
use Rattle.abc_link.specs.Ladders.{AreRungs}
use Rattle.abc_link.specs.declared.ladder.Rung.{Rung}

pub rung_there : (l : LinkedFile) (rungs : List Rung) (i : ℕ) (r : Rung) → AreRungs l rungs → slice_get rungs i ≡ Some r → IsBelow l i r.far
rung_there l rungs i r h e = h i r e

pub at_itself : (l : LinkedFile) (i : ℕ) → IsBelow l i i
at_itself l i = below_self l i

pub one_up : (l : LinkedFile) (i y : ℕ) → y ≡ above l i → IsBelow l i y
one_up l i y e = subst (λ (n : ℕ). IsBelow l i n) (sym e) (below_up l i (above l i) (below_self l (above l i)))

pub two_up : (l : LinkedFile) (i y near middle : ℕ) → y ≡ above l i → IsBelow l y near → IsBelow l near middle → IsBelow l i middle
two_up l i y near middle e a b = below_trans l i y middle (one_up l i y e) (below_trans l y near middle a b)

-- as many as there are layouts below one
pub record AreFirst (l : LinkedFile) (rungs : List Rung) (n : ℕ) : Type 0 where
  pub long : length rungs ≡ n
  pub climbs : AreRungs l rungs

pub no_rungs : (l : LinkedFile) → AreFirst l [] 0
no_rungs l = record { long = refl; climbs = λ i r e. absurd cc }

pushed_there : {X : Type 0} (xs : List X) (i : ℕ) (x y : X) → slice_get (xs ++ x ∷ []) i ≡ Some y → (slice_get xs i ≡ Some y) ⊎ ((i ≡ length xs) × (y ≡ x))
pushed_there [] zero x y e = inr (refl, (let q : x ≡ y = cc in sym q))
pushed_there [] (suc i) x y e = absurd cc
pushed_there (a ∷ xs) zero x y e = inl e
pushed_there (a ∷ xs) (suc i) x y e = elim (pushed_there xs i x y e) [ inl f ↦ inl f | inr f ↦ inr (ap suc f.0, f.1) ]

pub more_rungs : (l : LinkedFile) (rungs : List Rung) (n : ℕ) (r : Rung) → AreFirst l rungs n → IsBelow l n r.far → AreFirst l (rungs ++ r ∷ []) (n + 1)
more_rungs l rungs n r h w = record {
  long = let e : length (rungs ++ r ∷ []) ≡ length rungs + 1 = length-append rungs (r ∷ []) in let f = h.long in omega arith;
  climbs = λ i t e. elim (pushed_there rungs i r t e) [ inl f ↦ h.climbs i t f | inr f ↦ (let q : i ≡ n = let z = f.0 in let y = h.long in omega arith in subst (λ (j : ℕ). IsBelow l j t.far) (sym q) (subst (λ (x : Rung). IsBelow l n x.far) (sym f.1) w)) ];
}

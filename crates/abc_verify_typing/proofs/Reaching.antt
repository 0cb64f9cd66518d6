-- The test of a layout by its steps up.
use Rattle.std.proofs.Common.{◌≡◌, ℕ, zero, suc, ◌-◌, ◌≤◌, ◌<◌, ◌≢◌, refl, sym, ap, ◌∙◌, arith, eqb-true, eq-eqb, Bool, true, false, nat_eq, ◌||◌}
use Rattle.abc_link_names.specs.Linked.{IsLinkedFile, LinkedFile, above}
use Rattle.abc_link_names.specs.Tree.{IsBelow}
use Rattle.abc_link_names.proofs.Tree.{above_le, below_le, below_next, below_up}
use Rattle.abc_verify_typing.specs.Rules.{reaches}

-- what the test finds is below
pub below_reached : (p : LinkedFile) (k l m : ℕ) → reaches p k l m ≡ true → IsBelow p l m
below_reached p zero l m e = record { steps = 0; climb = eqb-true l m e }
below_reached p (suc k) l m e = go (below_reached p k (above p l) m) (nat_eq l m) refl e
  where
    go : (reaches p k (above p l) m ≡ true → IsBelow p (above p l) m) → (b : Bool) → nat_eq l m ≡ b → (b || reaches p k (above p l) m) ≡ true → IsBelow p l m
    go more true is e = record { steps = 0; climb = eqb-true l m is }
    go more false is e = below_up p l m (more e)

pub reaches_here : (p : LinkedFile) (k l m : ℕ) → l ≡ m → reaches p k l m ≡ true
reaches_here p zero l m e = eq-eqb l m e
reaches_here p (suc k) l m e = ap (λ b. b || reaches p k (above p l) m) (eq-eqb l m e)

pub reaches_end : (p : LinkedFile) (k l m : ℕ) → k ≡ 0 → reaches p k l m ≡ nat_eq l m
reaches_end p k l m e = ap (λ n. reaches p n l m) e

pub reaches_step : (p : LinkedFile) (k l m : ℕ) → 0 < k → l ≢ m → reaches p k l m ≡ reaches p (k - 1) (above p l) m
reaches_step p zero l m b ne = absurd (omega arith)
reaches_step p (suc k) l m b ne = let e : suc k - 1 ≡ k = omega arith in go (nat_eq l m) refl ∙ ap (λ n. reaches p n (above p l) m) (sym e)
  where
    go : (b : Bool) → nat_eq l m ≡ b → (b || reaches p k (above p l) m) ≡ reaches p k (above p l) m
    go true is = absurd (ne (eqb-true l m is))
    go false is = refl

-- the test of being below finds what is below
pub reached : (p : LinkedFile) → IsLinkedFile p → (fuel l m : ℕ) → l ≤ fuel → IsBelow p l m → reaches p fuel l m ≡ true
reached p t zero l m h b = let q = below_le p t l m b in eq-eqb l m (let z = above_le p t l in zeroes l m h q)
  where
    zeroes : (l m : ℕ) → l ≤ 0 → m ≤ l → l ≡ m
    zeroes l m h q = omega arith
reached p t (suc fuel) l m h b = go (λ ne. let z = above_le p t l in reached p t fuel (above p l) m (omega arith) (below_next p l m b ne)) (nat_eq l m) refl
  where
    go : ((l ≡ m → ⊥) → reaches p fuel (above p l) m ≡ true) → (e : Bool) → nat_eq l m ≡ e → (nat_eq l m || reaches p fuel (above p l) m) ≡ true
    go rec true is = ap (λ (x : Bool). x || reaches p fuel (above p l) m) is
    go rec false is = ap (λ (x : Bool). x || reaches p fuel (above p l) m) is ∙ rec (λ e. let w = eq-eqb l m e in absurd cc)

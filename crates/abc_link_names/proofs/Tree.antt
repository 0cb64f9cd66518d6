-- Going up the tree of layouts.
use Rattle.std.proofs.Common.{◌≡◌, ℕ, zero, suc, ◌+◌, ◌-◌, ◌≤◌, ◌<◌, ◌≢◌, Some, None, refl, ap, ◌∙◌, arith, unwrap_or}
use Rattle.std.specs.declared.option.Option.{Option}
use Rattle.abc_base_graphs.specs.Ways.{IsFalling}
use Rattle.abc_link_names.specs.Linked.{IsLinkedFile, LinkedFile, above, base_layout}
use Rattle.abc_link_names.specs.Tree.{IsBelow, up}
use Rattle.abc_link_names.proofs.Finding.{falling}

-- what stands above a layout has a lower number, but for the first
pub above_le : (l : LinkedFile) → IsLinkedFile l → (x : ℕ) → above l x ≤ x - 1
above_le l t x = go (base_layout l x) refl
  where
    go : (o : Option ℕ) → base_layout l x ≡ o → unwrap_or o 0 ≤ x - 1
    go None e = omega arith
    go (Some y) e = let h = (falling l.file l.parts t.numbering).falls x y e in omega arith

pub up_more : (l : LinkedFile) (j k x : ℕ) → up l (j + k) x ≡ up l k (up l j x)
up_more l zero k x = let e : 0 + k ≡ k = omega arith in ap (λ n. up l n x) e
up_more l (suc j) k x = let e : suc j + k ≡ suc (j + k) = omega arith in ap (λ n. up l n x) e ∙ up_more l j k (above l x)

pub up_le : (l : LinkedFile) → IsLinkedFile l → (k x : ℕ) → up l k x ≤ x
up_le l t zero x = omega arith
up_le l t (suc k) x = let a = up_le l t k (above l x) in let b = above_le l t x in omega arith

pub below_self : (l : LinkedFile) (x : ℕ) → IsBelow l x x
below_self l x = record { steps = 0; climb = refl }

pub below_trans : (l : LinkedFile) (x y z : ℕ) → IsBelow l x y → IsBelow l y z → IsBelow l x z
below_trans l x y z a b = record { steps = a.steps + b.steps; climb = up_more l a.steps b.steps x ∙ ap (up l b.steps) a.climb ∙ b.climb }

pub below_le : (l : LinkedFile) → IsLinkedFile l → (x y : ℕ) → IsBelow l x y → y ≤ x
below_le l t x y b = let e = b.climb in let a = up_le l t b.steps x in omega arith

pub below_up : (l : LinkedFile) (x y : ℕ) → IsBelow l (above l x) y → IsBelow l x y
below_up l x y b = record { steps = suc b.steps; climb = b.climb }

-- all but the layout itself is above what it stands under
pub below_next : (l : LinkedFile) (x y : ℕ) → IsBelow l x y → x ≢ y → IsBelow l (above l x) y
below_next l x y b ne = go b.steps b.climb
  where
    go : (k : ℕ) → up l k x ≡ y → IsBelow l (above l x) y
    go zero e = absurd (ne e)
    go (suc k) e = record { steps = k; climb = e }

pub below_antisym : (l : LinkedFile) → IsLinkedFile l → (x y : ℕ) → IsBelow l x y → IsBelow l y x → x ≡ y
below_antisym l t x y a b = let p = below_le l t x y a in let q = below_le l t y x b in omega arith

-- of two layouts, what is above both is above what the one with the higher number stands under
pub below_both : (l : LinkedFile) → IsLinkedFile l → (x y n : ℕ) → y < x → IsBelow l x n → IsBelow l y n → IsBelow l (above l x) n
below_both l t x y n h a b = let q = below_le l t y n b in let ne : x ≢ n = omega arith in below_next l x n a ne

pub below_above : (l : LinkedFile) (x y : ℕ) → IsBelow l x y → IsBelow l x (above l y)
below_above l x y a = below_trans l x y (above l y) a (record { steps = 1; climb = refl })

-- Filled positions.
use Rattle.std.proofs.Common.{◌≡◌, ℕ, zero, suc, ◌+◌, ◌<◌, ◌≤◌, true, false, List, [], ◌∷◌, Option, Some, None, length, drop, refl, sym, ap, ◌∙◌, arith}
use Rattle.std.specs.Prelude.{slice_get, is_some}
use Rattle.std.proofs.lemmas.Option.{slice_get_within}
use Rattle.abc_heap_values.specs.declared.values.Span.{Span}
use Rattle.abc_heap_values.specs.declared.values.Value.{Value}
use Rattle.abc_heap_store.specs.Gaps.{AreEmpty}
use Rattle.abc_heap_store.specs.Properties.{first_filled, next_filled, at_position, present_property}

next : (k : ℕ) → suc k ≡ k + 1
next k = omega arith

drop_some : (ps : List (Option (Span × Value))) (k : ℕ) → k < length ps → (x : Option (Span × Value)) × (drop k ps ≡ x ∷ drop (suc k) ps) × (present_property (slice_get ps k) ≡ x)
drop_some (p ∷ ps) zero b = (p, refl, refl)
drop_some (p ∷ ps) (suc k) b = drop_some ps k (omega arith)
drop_some [] k b = absurd (omega arith)

pub drop_past : (ps : List (Option (Span × Value))) (k : ℕ) → length ps ≤ k → next_filled ps k ≡ None
drop_past ps k b = ap (first_filled k) (gone ps k b)
  where
    gone : (ps : List (Option (Span × Value))) (k : ℕ) → length ps ≤ k → drop k ps ≡ []
    gone [] zero b = refl
    gone [] (suc k) b = refl
    gone (p ∷ ps) zero b = absurd (omega arith)
    gone (p ∷ ps) (suc k) b = gone ps k (omega arith)

pub next_here : (ps : List (Option (Span × Value))) (k : ℕ) → k < length ps → is_some (at_position ps (k + 1)) ≡ true → next_filled ps k ≡ Some (k + 1)
next_here ps k b s =
    let t : is_some (at_position ps (suc k)) ≡ true = ap (λ m. is_some (at_position ps m)) (next k) ∙ s in
    let d = drop_some ps k b in
    ap (first_filled k) d.1 ∙ go d.0 (sym (ap is_some d.2) ∙ t)
  where
    go : (x : Option (Span × Value)) → is_some x ≡ true → first_filled k (x ∷ drop (suc k) ps) ≡ Some (k + 1)
    go (Some p) e = refl
    go None e = absurd cc

pub next_past : (ps : List (Option (Span × Value))) (k : ℕ) → k < length ps → is_some (at_position ps (k + 1)) ≡ false → next_filled ps k ≡ next_filled ps (k + 1)
next_past ps k b s =
    let t : is_some (at_position ps (suc k)) ≡ false = ap (λ m. is_some (at_position ps m)) (next k) ∙ s in
    let d = drop_some ps k b in
    let n : suc k ≡ k + 1 = omega arith in
    ap (first_filled k) d.1 ∙ (go d.0 (sym (ap is_some d.2) ∙ t) ∙ ap (λ m. first_filled (k + 1) (drop m ps)) n)
  where
    go : (x : Option (Span × Value)) → is_some x ≡ false → first_filled k (x ∷ drop (suc k) ps) ≡ first_filled (k + 1) (drop (suc k) ps)
    go None e = refl
    go (Some p) e = absurd cc

pub next_run : (ps : List (Option (Span × Value))) (k n : ℕ) → AreEmpty ps k n → next_filled ps k ≡ next_filled ps (k + n)
next_run ps k zero a = let z : k ≡ k + 0 = omega arith in ap (next_filled ps) z
next_run ps k (suc n) a =
    let e = a k (omega arith) (omega arith) in
    let none : is_some (at_position ps (k + 1)) ≡ false = ap (λ m. is_some (at_position ps m)) (sym (next k)) ∙ ap (λ x. is_some (present_property x)) e in
    let m : (k + 1) + n ≡ k + suc n = omega arith in
    next_past ps k (slice_get_within ps k None e) none ∙ (next_run ps (k + 1) n (λ j b d. a j (omega arith) (omega arith)) ∙ ap (next_filled ps) m)

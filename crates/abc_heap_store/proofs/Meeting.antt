-- A walk meets each filled position, in rising order.
use Rattle.std.proofs.Common.{◌≡◌, ℕ, zero, suc, ◌+◌, Bool, true, false, List, [], ◌∷◌, Option, Some, None, length, take, drop, refl, sym, ap, ◌∙◌, arith}
use Rattle.std.specs.Prelude.{if◌then◌else◌}
use Rattle.std.proofs.lemmas.Bool.{lt-ltb, le-ltb}
use Rattle.abc_heap_values.specs.declared.values.Span.{Span}
use Rattle.abc_heap_values.specs.declared.values.Value.{Value}
use Rattle.abc_heap_store.specs.What.{is_array}
use Rattle.abc_heap_store.specs.Properties.{first_filled, next_filled, next_element}
use Rattle.abc_heap_store.specs.Walks.{goes_on_from, walk_positions, filled_above, counted_above, MeetsEachPosition}

drop_on : (k : ℕ) (all ps : List (Option (Span × Value))) (p : Option (Span × Value)) → drop k all ≡ p ∷ ps → drop (k + 1) all ≡ ps
drop_on k all ps p e = let n : k + 1 ≡ suc k = omega arith in ap (λ m. drop m all) n ∙ go k all e
  where
    go : (k : ℕ) (all : List (Option (Span × Value))) → drop k all ≡ p ∷ ps → drop (suc k) all ≡ ps
    go zero (q ∷ all) e = cc
    go (suc k) (q ∷ all) e = go k all e
    go zero [] e = absurd cc
    go (suc k) [] e = absurd cc

meets_filled : (all ps : List (Option (Span × Value))) (n k : ℕ) → drop k all ≡ ps → walk_positions (next_filled all) n k ≡ take n (filled_above k ps)
meets_filled all ps zero k e = refl
meets_filled all [] (suc n) k e = ap (λ qs. goes_on_from (first_filled k qs) (walk_positions (next_filled all) n)) e
meets_filled all (None ∷ ps) (suc n) k e =
    let d = drop_on k all ps None e in
    ap (λ qs. goes_on_from (first_filled k qs) (walk_positions (next_filled all) n)) e ∙ (ap (λ qs. goes_on_from (first_filled (k + 1) qs) (walk_positions (next_filled all) n)) (sym d) ∙ meets_filled all ps (suc n) (k + 1) d)
meets_filled all (Some p ∷ ps) (suc n) k e = ap (λ qs. goes_on_from (first_filled k qs) (walk_positions (next_filled all) n)) e ∙ ap (λ ms. (k + 1) ∷ ms) (meets_filled all ps n (k + 1) (drop_on k all ps (Some p) e))

meets_counted : (count rest n k : ℕ) → k + rest ≡ count → walk_positions (next_element count) n k ≡ take n (counted_above k rest)
meets_counted count rest zero k e = refl
meets_counted count zero (suc n) k e = ap (λ b. goes_on_from (if b then Some (k + 1) else None) (walk_positions (next_element count) n)) (le-ltb k count (omega (arith, e)))
meets_counted count (suc rest) (suc n) k e =
    ap (λ b. goes_on_from (if b then Some (k + 1) else None) (walk_positions (next_element count) n)) (lt-ltb k count (omega (arith, e)))
    ∙ ap (λ ms. (k + 1) ∷ ms) (meets_counted count rest n (k + 1) (omega (arith, e)))

pub meets_each_position : MeetsEachPosition
meets_each_position ob n = go (is_array ob.what)
  where
    go : (b : Bool) → walk_positions (λ k. if b then next_element (length ob.elements) k else next_filled ob.properties k) n 0 ≡ take n (if b then counted_above 0 (length ob.elements) else filled_above 0 ob.properties)
    go true = meets_counted (length ob.elements) (length ob.elements) n 0 (omega arith)
    go false = meets_filled ob.properties ob.properties n 0 refl

-- Walks over an object, position by position.
use Rattle.std.specs.Prelude.{◌≡◌, ℕ, zero, suc, ◌+◌, List, [], ◌∷◌, length, take, Option, Some, None, if◌then◌else◌}
use Rattle.abc_heap_values.specs.declared.values.Span.{Span}
use Rattle.abc_heap_values.specs.declared.values.Value.{Value}
use Rattle.abc_heap_store.specs.What.{is_array}
use Rattle.abc_heap_store.specs.Heap.{Object}
use Rattle.abc_heap_store.specs.Properties.{walked_next}

abbrev pub goes_on_from : Option ℕ → (ℕ → List ℕ) → List ℕ
goes_on_from None f = []
goes_on_from (Some p) f = p ∷ f p

-- the first n positions that a walk meets from position k on, each asked for from the one before it
abbrev pub walk_positions : (ℕ → Option ℕ) → ℕ → ℕ → List ℕ
walk_positions next zero k = []
walk_positions next (suc n) k = goes_on_from (next k) (λ p. walk_positions next n p)

-- the filled positions above k, where the list has the places from k on
abbrev pub filled_above : ℕ → List (Option (Span × Value)) → List ℕ
filled_above k [] = []
filled_above k (None ∷ ps) = filled_above (k + 1) ps
filled_above k (Some p ∷ ps) = (k + 1) ∷ filled_above (k + 1) ps

-- the n positions above k
abbrev pub counted_above : ℕ → ℕ → List ℕ
counted_above k zero = []
counted_above k (suc n) = (k + 1) ∷ counted_above (k + 1) n

-- an array's positions, or the filled ones of another object
abbrev pub positions : Object → List ℕ
positions ob = if is_array ob.what then counted_above 0 (length ob.elements) else filled_above 0 ob.properties

-- a walk from 0 on meets these, in their order, and no more
abbrev pub MeetsEachPosition : Type 0
MeetsEachPosition = (ob : Object) (n : ℕ) → walk_positions (walked_next ob) n 0 ≡ take n (positions ob)

-- Texts, as spans (profile: docs/MACHINE.md, "Heap and room").
use Rattle.std.specs.Prelude.{◌≡◌, ℕ, zero, suc, ◌+◌, ◌≤◌, List, [], ◌++◌, length, take, drop, get_or}
use Rattle.abc_heap_values.specs.declared.values.Span.{Span}
use Rattle.abc_heap_store.specs.Heap.{Heap}

-- a string of the pool, whose string 0 is empty
abbrev pub pool_text : List (List ℕ) → ℕ → List ℕ
pool_text pool zero = []
pool_text pool (suc i) = get_or pool i []

-- a part in which texts are, by its number: 0 the fixed texts, 1 the texts made, and from 2 on the strings of the pool
abbrev pub part_of_text : List ℕ → List ℕ → List (List ℕ) → ℕ → List ℕ
part_of_text fixed made pool zero = fixed
part_of_text fixed made pool (suc zero) = made
part_of_text fixed made pool (suc (suc i)) = pool_text pool i

-- the bytes of a span
abbrev pub text_in : List ℕ → List ℕ → List (List ℕ) → Span → List ℕ
text_in fixed made pool s = take s.len (drop s.start (part_of_text fixed made pool s.part))

-- the span ends within its part
abbrev pub IsTextIn : List ℕ → List ℕ → List (List ℕ) → Span → Type 0
IsTextIn fixed made pool s = s.start + s.len ≤ length (part_of_text fixed made pool s.part)

-- the span lies in its part
abbrev pub IsText : List (List ℕ) → Heap → Span → Type 0
IsText pool h s = IsTextIn h.fixed h.made pool s

-- the bytes of a span, in a heap over a file whose strings are `pool`
abbrev pub text_of : List (List ℕ) → Heap → Span → List ℕ
text_of pool h s = text_in h.fixed h.made pool s

-- a text is made, after all others, where there is room for it
pub record IsTextMade (old : Heap) (new : Heap) (s : Span) (bytes : List ℕ) : Type 0 where
  pub span : s ≡ record { part = 1; start = length old.made; len = length bytes }
  pub fits : length old.made + length bytes ≤ old.limits.text
  pub heap : new ≡ record old { made = old.made ++ bytes }

-- Texts that are the whole of a string of the file.
use Rattle.std.specs.Prelude.{◌≡◌, ℕ, ◌-◌, ◌≤◌, List, length}
use Rattle.abc_heap_values.specs.declared.values.Span.{Span}
use Rattle.abc_heap_store.specs.Texts.{pool_text}

-- the span is that of a string, from its start to its end
pub record IsWholeString (pool : List (List ℕ)) (s : Span) : Type 0 where
  pub of_file : 2 ≤ s.part
  pub start : s.start ≡ 0
  pub end : s.len ≡ length (pool_text pool (s.part - 2))

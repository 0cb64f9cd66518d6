-- Texts that a machine can tell, and that they stay.
use Rattle.std.specs.Prelude.{◌≡◌, ℕ, List, ◌++◌}
use Rattle.abc_heap_store.specs.Heap.{Heap}
use Rattle.abc_heap_store.specs.Texts.{IsText, text_of}
use Rattle.abc_heap_values.specs.declared.values.Span.{Span}
use Rattle.abc_machine.specs.Machines.{Opened}

-- what is made stands behind the texts that were there
pub record TextsGrow (old new : Heap) : Type 0 where
  pub fixed : new.fixed ≡ old.fixed
  pub made : (more : List ℕ) × (new.made ≡ old.made ++ more)

-- a span is a text of the file or of the heap, and its bytes
abbrev pub CanTell : Opened → Span → Type 0
CanTell m s = IsText m.linked.file.strings m.world.heap s

-- the bytes of a text of the file or of the machine's heap
abbrev pub told_text : Opened → Span → List ℕ
told_text m s = text_of m.linked.file.strings m.world.heap s

-- each text that could be told can be told still, with the same bytes
pub record KeepsTexts (old new : Opened) : Type 0 where
  pub there : (s : Span) → CanTell old s → CanTell new s
  pub same : (s : Span) → CanTell old s → told_text new s ≡ told_text old s

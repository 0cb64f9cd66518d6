-- A text that is the whole of a string of the file.
use Rattle.std.proofs.Common.{◌≡◌, ℕ, zero, suc, ◌-◌, ◌≤◌, List, [], drop, get_or, length, take, refl, ap, ◌∙◌, arith}
use Rattle.std.proofs.lemmas.List.{take_all}
use Rattle.abc_heap_values.specs.declared.values.Span.{Span}
use Rattle.abc_heap_store.specs.Heap.{Heap}
use Rattle.abc_heap_store.specs.Texts.{part_of_text, pool_text, text_of}
use Rattle.abc_base_graphs.specs.Texts.{texts_of}
use Rattle.abc_lookup.specs.WholeStrings.{IsWholeString}

pool_is : (pool : List (List ℕ)) (i : ℕ) → pool_text pool i ≡ get_or (texts_of pool) i []
pool_is pool zero = refl
pool_is pool (suc i) = refl

pub whole_string : (pool : List (List ℕ)) (h : Heap) (s : Span) → IsWholeString pool s → text_of pool h s ≡ get_or (texts_of pool) (s.part - 2) []
whole_string pool h s is =
    let i = s.part - 2 in
    let part : s.part ≡ suc (suc i) = omega (arith, is.of_file) in
    let end : length (pool_text pool i) ≤ s.len = omega (arith, is.end) in
    ap (λ p. take s.len (drop s.start (part_of_text h.fixed h.made pool p))) part
    ∙ ap (λ k. take s.len (drop k (pool_text pool i))) is.start
    ∙ take_all s.len (pool_text pool i) end
    ∙ pool_is pool i

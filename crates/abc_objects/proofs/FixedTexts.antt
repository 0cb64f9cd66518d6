-- The fixed texts stand where their spans say.
use Rattle.std.proofs.Common.{◌≡◌, ℕ, List, take, drop, refl, ap}
use Rattle.abc_heap_store.specs.Heap.{Heap}
use Rattle.abc_heap_store.specs.Texts.{text_of}
use Rattle.abc_link_names.specs.Linked.{LinkedFile}
use Rattle.abc_objects.specs.declared.fixed.FixedText.{FixedText}
use Rattle.abc_objects.specs.declared.fixed.FixedText.TheVariants as fixed
use Rattle.abc_objects.specs.Fixed.{fixed_span, fixed_name}
use Rattle.abc_objects.specs.Stands.{StandsOver}

pub fixed_read : (l : LinkedFile) (h : Heap) (t : FixedText) → StandsOver l h → text_of l.file.strings h (fixed_span t) ≡ fixed_name t
fixed_read l h fixed.Empty s = refl
fixed_read l h fixed.Undefined s = ap (λ (f : List ℕ). take 9 (drop 0 f)) s.fixed.1
fixed_read l h fixed.Null s = ap (λ (f : List ℕ). take 4 (drop 9 f)) s.fixed.1
fixed_read l h fixed.True s = ap (λ (f : List ℕ). take 4 (drop 13 f)) s.fixed.1
fixed_read l h fixed.False s = ap (λ (f : List ℕ). take 5 (drop 17 f)) s.fixed.1
fixed_read l h fixed.Number s = ap (λ (f : List ℕ). take 6 (drop 22 f)) s.fixed.1
fixed_read l h fixed.Boolean s = ap (λ (f : List ℕ). take 7 (drop 28 f)) s.fixed.1
fixed_read l h fixed.Str s = ap (λ (f : List ℕ). take 6 (drop 35 f)) s.fixed.1
fixed_read l h fixed.Object s = ap (λ (f : List ℕ). take 6 (drop 41 f)) s.fixed.1
fixed_read l h fixed.Function s = ap (λ (f : List ℕ). take 8 (drop 47 f)) s.fixed.1
fixed_read l h fixed.Message s = ap (λ (f : List ℕ). take 7 (drop 55 f)) s.fixed.1

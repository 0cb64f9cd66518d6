-- What the arena's calls on texts leave, as steps.
use Rattle.std.proofs.Common.{◌≡◌, ℕ, ◌+◌, ◌<◌, ◌≤◌, List, ◌++◌, length, drop, Bool, true, false, nat_le, sym, ap, subst, arith, length-take, length-drop, length-append}
use Rattle.std.proofs.lemmas.Bool.Decides.{nat_tests}
use Rattle.std.specs.declared.result.Result.{Result}
use Rattle.std.specs.declared.result.Result.TheVariants.{Ok, Err}
use Rattle.abc_heap_values.specs.declared.values.Span.{Span}
use Rattle.abc_heap_store.specs.Heap.{Heap, IsFull}
use Rattle.abc_heap_store.specs.Texts.{IsText, IsTextMade, part_of_text, text_of}
use Rattle.abc_heap_store.specs.declared.records.Full.{Full}
use Rattle.abc_heap_store.specs.declared.records.Limit.TheVariants as limits
use Rattle.abc_ops.specs.Left.{LeavesHeap, text_made, text_made_if}
use Rattle.abc_ops.specs.declared.end.OpEnd.{OpEnd}
use Rattle.abc_ops.specs.declared.end.OpEnd.TheVariants as ends

le_true : (a b : ℕ) → a ≤ b → nat_le a b ≡ true
le_true a b h = grind (arith, nat_tests)

le_false : (a b : ℕ) → b < a → nat_le a b ≡ false
le_false a b h = grind (arith, nat_tests)

-- a text that was made
pub made_is : (old new : Heap) (s : Span) (bytes : List ℕ) → IsTextMade old new s bytes → LeavesHeap (text_made old bytes) (Ok s) new
made_is old new s bytes m =
    let answer : Span → Result Span OpEnd = λ x. Ok x in
    let P : Bool → Type 0 = λ b. LeavesHeap (text_made_if b old bytes) (Ok s) new in
    subst P (sym (le_true (length old.made + length bytes) old.limits.text m.fits)) (ap answer m.span, m.heap)

-- a text for which there is no room
pub full_is : (old new : Heap) (bytes : List ℕ) (need : ℕ) (e : Full) → length bytes ≡ need → IsFull old new (length old.made) need old.limits.text limits.Text e → LeavesHeap (text_made old bytes) (Err (ends.Full e.0)) new
full_is old new bytes need e len f =
    let answer : Full → Result Span OpEnd = λ x. Err (ends.Full x.0) in
    let P : Bool → Type 0 = λ b. LeavesHeap (text_made_if b old bytes) (Err (ends.Full e.0)) new in
    let over : old.limits.text < length old.made + length bytes = omega (arith, f.1, len) in
    subst P (sym (le_false (length old.made + length bytes) old.limits.text over)) (ap answer f.0, f.2)

-- the bytes of a text are as many as its span says
pub length_of_text : (pool : List (List ℕ)) (h : Heap) (s : Span) → IsText pool h s → length (text_of pool h s) ≡ s.len
length_of_text pool h s t =
    let part = part_of_text h.fixed h.made pool s.part in
    omega (arith, t, length-take s.len (drop s.start part), length-drop s.start part)

pub length_of_both : (pool : List (List ℕ)) (h : Heap) (a b : Span) → IsText pool h a → IsText pool h b → length (text_of pool h a ++ text_of pool h b) ≡ a.len + b.len
length_of_both pool h a b p q = omega (arith, length-append (text_of pool h a) (text_of pool h b), length_of_text pool h a p, length_of_text pool h b q)

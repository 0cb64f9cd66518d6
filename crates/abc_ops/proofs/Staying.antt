-- After each operation the arena still stands over its file, and what was answered is there.
use Rattle.std.proofs.Common.{◌≡◌, ℕ, zero, suc, ◌+◌, ◌≤◌, List, length, Bool, true, false, nat_le, refl, sym, ap, subst, arith, length-append}
use Rattle.std.specs.Prelude.{IfOk}
use Rattle.std.specs.Fmt.{signed_decimal}
use Rattle.std.specs.declared.result.Result.{Result}
use Rattle.std.specs.declared.result.Result.TheVariants.{Ok, Err}
use Rattle.abc_heap_values.specs.declared.values.Span.{Span}
use Rattle.abc_heap_values.specs.declared.values.Value.{Value}
use Rattle.abc_heap_values.specs.declared.values.Value.TheVariants as values
use Rattle.abc_heap_values.specs.Numbers.{IsInRange}
use Rattle.abc_heap_values.specs.Reads.{IsReadable}
use Rattle.abc_heap_store.specs.Heap.{Heap}
use Rattle.abc_heap_store.specs.Texts.{IsText}
use Rattle.abc_link_names.specs.Pool.{space}
use Rattle.abc_link_names.specs.Linked.{LinkedFile}
use Rattle.abc_objects.specs.Fixed.{fixed_bytes, fixed_span}
use Rattle.abc_objects.specs.Stands.{StandsOver}
use Rattle.abc_objects.specs.Starts.{string_span}
use Rattle.abc_objects.specs.Values.{Exists}
use Rattle.abc_objects.specs.declared.fixed.FixedText.{FixedText}
use Rattle.abc_objects.specs.declared.fixed.FixedText.TheVariants as fixed
use Rattle.abc_objects.specs.Growing.{Grows}
use Rattle.abc_objects.proofs.Grown.{grows_self}
use Rattle.abc_objects.proofs.Kept.{made_grows, over_made}
use Rattle.abc_ops.specs.Conversions.{spelling}
use Rattle.abc_ops.specs.Left.{LeavesHeap, Left, followed_by, then_with, text_made, text_made_if}
use Rattle.abc_ops.specs.declared.end.OpEnd.{OpEnd}

-- the arena still stands over the file, it only grew, and the text that was answered is there
pub record StaysWithText (l : LinkedFile) (old new : Heap) (result : Result Span OpEnd) : Type 0 where
  pub over : StandsOver l new
  pub grows : Grows old new
  pub there : IfOk result (IsText l.file.strings new)

-- what holds of the step holds of what the code answered and left
pub stays_left : (l : LinkedFile) (old new : Heap) (step : Left Span) (r : Result Span OpEnd) → LeavesHeap step r new → StaysWithText l old step.heap step.answer → StaysWithText l old new r
stays_left l old new step r e s =
    subst (λ (h : Heap). StaysWithText l old h r) (sym e.1) (subst (λ (q : Result Span OpEnd). StaysWithText l old step.heap q) (sym e.0) s)

-- ---- texts

-- a fixed text is there
fixed_longer : (l : LinkedFile) (h : Heap) (n : ℕ) → StandsOver l h → n ≤ 62 → n ≤ length h.fixed
fixed_longer l h n s le = omega (arith, le, ap length s.fixed.1, length-append fixed_bytes s.fixed.0)

pub fixed_there : (l : LinkedFile) (h : Heap) (t : FixedText) → StandsOver l h → IsText l.file.strings h (fixed_span t)
fixed_there l h fixed.Empty s = fixed_longer l h 0 s (omega arith)
fixed_there l h fixed.Undefined s = fixed_longer l h 9 s (omega arith)
fixed_there l h fixed.Null s = fixed_longer l h 13 s (omega arith)
fixed_there l h fixed.True s = fixed_longer l h 17 s (omega arith)
fixed_there l h fixed.False s = fixed_longer l h 22 s (omega arith)
fixed_there l h fixed.Number s = fixed_longer l h 28 s (omega arith)
fixed_there l h fixed.Boolean s = fixed_longer l h 35 s (omega arith)
fixed_there l h fixed.Str s = fixed_longer l h 41 s (omega arith)
fixed_there l h fixed.Object s = fixed_longer l h 47 s (omega arith)
fixed_there l h fixed.Function s = fixed_longer l h 55 s (omega arith)
fixed_there l h fixed.Message s = fixed_longer l h 62 s (omega arith)

-- and so is a string of the pool
pub string_there : (pool : List (List ℕ)) (h : Heap) (i : ℕ) → IsText pool h (string_span pool i)
string_there pool h zero = omega arith
string_there pool h (suc i) = omega arith

made_if_stays : (l : LinkedFile) (h : Heap) (b : Bool) (bytes : List ℕ) → StandsOver l h → StaysWithText l h (text_made_if b h bytes).heap (text_made_if b h bytes).answer
made_if_stays l h true bytes s = record { over = over_made l h bytes s; grows = made_grows h bytes; there = omega (arith, length-append h.made bytes) }
made_if_stays l h false bytes s = record { over = s; grows = grows_self h; there = tt }

pub made_stays : (l : LinkedFile) (h : Heap) (bytes : List ℕ) → StandsOver l h → StaysWithText l h (text_made h bytes).heap (text_made h bytes).answer
made_stays l h bytes s = made_if_stays l h (nat_le (length h.made + length bytes) h.limits.text) bytes s

pub spelled_stays : (l : LinkedFile) (h : Heap) (v : Value) → StandsOver l h → Exists l h v → StaysWithText l h (spelling l h v).heap (spelling l h v).answer
spelled_stays l h values.Undefined s e = record { over = s; grows = grows_self h; there = fixed_there l h fixed.Undefined s }
spelled_stays l h values.Null s e = record { over = s; grows = grows_self h; there = fixed_there l h fixed.Null s }
spelled_stays l h (values.Num n) s e = made_stays l h (signed_decimal n) s
spelled_stays l h (values.Bool true) s e = record { over = s; grows = grows_self h; there = fixed_there l h fixed.True s }
spelled_stays l h (values.Bool false) s e = record { over = s; grows = grows_self h; there = fixed_there l h fixed.False s }
spelled_stays l h (values.Text t) s e = record { over = s; grows = grows_self h; there = e }
spelled_stays l h (values.Space n) s e = record { over = s; grows = grows_self h; there = string_there l.file.strings h (space l.file n).name }
spelled_stays l h (values.Obj o) s e = record { over = s; grows = grows_self h; there = tt }

-- a heap that is the same
pub grows_itself : (old new : Heap) → new ≡ old → Grows old new
grows_itself old new e = subst (λ (h : Heap). Grows old h) (sym e) (grows_self old)

-- ---- steps one after the other

pub then_ok : {A B : Type 0} (step : Left A) (x : A) (g : Heap) (f : Heap → A → Left B) (r : Result B OpEnd) (k : Heap) → LeavesHeap step (Ok x) g → LeavesHeap (f g x) r k → LeavesHeap (then_with step f) r k
then_ok {A = A} step x g f r k e p =
    subst (λ (q : Result A OpEnd). LeavesHeap (followed_by step.heap q f) r k) e.0 (subst (λ (h : Heap). LeavesHeap (followed_by h (Ok x) f) r k) e.1 p)

pub then_err : {A B : Type 0} (step : Left A) (x : OpEnd) (g : Heap) (f : Heap → A → Left B) → LeavesHeap step (Err x) g → LeavesHeap (then_with step f) (Err x) g
then_err {A = A} step x g f e =
    subst (λ (q : Result A OpEnd). LeavesHeap (followed_by step.heap q f) (Err x) g) e.0 (subst (λ (h : Heap). LeavesHeap (followed_by h (Err x) f) (Err x) g) e.1 (refl, refl))

-- ---- values that are there

pub in_range_there : (l : LinkedFile) (h : Heap) (v : Value) → Exists l h v → IsInRange v
in_range_there l h values.Undefined e = tt
in_range_there l h values.Null e = tt
in_range_there l h (values.Num n) e = e
in_range_there l h (values.Bool b) e = tt
in_range_there l h (values.Text s) e = tt
in_range_there l h (values.Space n) e = tt
in_range_there l h (values.Obj o) e = tt

pub readable_there : (l : LinkedFile) (h : Heap) (v : Value) → Exists l h v → IsReadable (λ (s : Span). IsText l.file.strings h s) v
readable_there l h values.Undefined e = tt
readable_there l h values.Null e = tt
readable_there l h (values.Num n) e = tt
readable_there l h (values.Bool b) e = tt
readable_there l h (values.Text s) e = e
readable_there l h (values.Space n) e = tt
readable_there l h (values.Obj o) e = tt

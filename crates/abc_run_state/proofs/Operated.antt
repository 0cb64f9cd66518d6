-- What operations answer, in the words of the meaning.
use Rattle.std.proofs.Common.{◌≡◌, refl, sym, ap, ◌∙◌}
use Rattle.std.specs.Prelude.{Ok, Err}
use Rattle.std.specs.declared.result.Result.{Result}
use Rattle.abc_heap_values.specs.declared.values.Span.{Span}
use Rattle.abc_heap_values.specs.declared.values.Value.{Value}
use Rattle.abc_heap_values.specs.declared.values.Value.TheVariants as values
use Rattle.abc_heap_store.specs.Heap.{Heap}
use Rattle.abc_ops.specs.Coercions.{Coerces}
use Rattle.abc_ops.specs.Left.{LeavesHeap, Left, as_value}
use Rattle.abc_ops.specs.declared.end.OpEnd.{OpEnd}
use Rattle.abc_ops.specs.declared.end.OpEnd.TheVariants as ends
use Rattle.abc_link_names.specs.Linked.{IsLinkedFile, LinkedFile}
use Rattle.abc_link_names.specs.declared.types.Ty.{Ty}
use Rattle.abc_run_state.specs.Outer.{at_heap}
use Rattle.abc_run_state.specs.Stops.{part_outcome, stop_of_end, why}
use Rattle.abc_run_state.specs.declared.state.Stop.{Stop}
use Rattle.abc_meaning.specs.Ops.{coerce_to, operates, outcome, stop_of}
use Rattle.abc_meaning.specs.World.{Outcome, Stopped, Went, World}
use Rattle.abc_meaning.proofs.Coercing.{computes_coercion}

pub why_of_end : (e : OpEnd) → stop_of e ≡ why (stop_of_end e)
why_of_end (ends.Profile fault) = refl
why_of_end (ends.Full limit) = refl
why_of_end (ends.Throw c) = refl

-- ---- an operation, by what it answers

pub operated_ok : {X : Type 0} (f : Heap → Left X) (w : World) (x : X) (h : Heap) → LeavesHeap (f w.heap) (Ok x) h → operates f w ≡ Went (at_heap h w) x
operated_ok f w x h e = ap (λ a. outcome (at_heap (f w.heap).heap w) a) (sym e.0) ∙ ap (λ k. Went (at_heap k w) x) (sym e.1)

pub operated_err : {X : Type 0} (f : Heap → Left X) (w : World) (end : OpEnd) (h : Heap) → LeavesHeap (f w.heap) (Err end) h → operates f w ≡ Stopped (at_heap h w) (why (stop_of_end end))
operated_err f w end h e = ap (λ a. outcome (at_heap (f w.heap).heap w) a) (sym e.0) ∙ ap (λ k. Stopped (at_heap k w) (stop_of end)) (sym e.1) ∙ ap (λ y. Stopped (at_heap h w) y) (why_of_end end)

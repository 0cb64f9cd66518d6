-- Room that is taken, or that is not there.
use Rattle.std.proofs.Common.{◌≡◌, ℕ, ◌+◌, ◌≤◌, ◌<◌, Bool, true, false, nat_le, length, sym, ap, ◌∙◌, arith, if◌then◌else◌}
use Rattle.std.proofs.lemmas.Bool.Decides.{nat_tests}
use Rattle.abc_heap_store.specs.Heap.{HasRoomFor, Heap, IsFull, IsFullOf, PassesLimit, cells_used}
use Rattle.abc_heap_store.specs.declared.records.Full.{Full}
use Rattle.abc_heap_store.specs.declared.records.Limit.{Limit}
use Rattle.abc_heap_store.specs.declared.records.Limit.TheVariants as limits
use Rattle.abc_run_state.specs.Outer.{at_heap}
use Rattle.abc_meaning.specs.World.{Fills, Run, Stopped, Went, World, and_then, changes, pure, room, room_for_cells, room_for_objects, stop, ◌>>◌}

le_true : (a b : ℕ) → a ≤ b → nat_le a b ≡ true
le_true a b h = grind (arith, nat_tests)

le_false : (a b : ℕ) → b < a → nat_le a b ≡ false
le_false a b h = grind (arith, nat_tests)

-- ---- one count

decided : Bool → Limit → Run (Unit {0})
decided b which = if b then pure tt else stop (Fills which)

room_there : (which : Limit) (used need limit : ℕ) (w : World) → used + need ≤ limit → room which used need limit w ≡ Went w tt
unfolding decided
room_there which used need limit w h = ap (λ b. decided b which w) (le_true (used + need) limit h)

room_gone : (which : Limit) (used need limit : ℕ) (w : World) → limit < used + need → room which used need limit w ≡ Stopped w (Fills which)
unfolding decided
room_gone which used need limit w h = ap (λ b. decided b which w) (le_false (used + need) limit h)

-- ---- objects and then cells

pub made_ok : {X : Type 0} (w : World) (objects cells : ℕ) (m : Run X) → HasRoomFor w.heap objects cells → (room_for_objects objects >> (room_for_cells cells >> m)) w ≡ m w
made_ok w objects cells m h =
    ap (λ o. and_then o (λ u. room_for_cells cells >> m)) (room_there limits.Objects (length w.heap.objects) objects w.heap.limits.objects w h.0)
    ∙ ap (λ o. and_then o (λ u. m)) (room_there limits.Cells (cells_used w.heap) cells w.heap.limits.cells w h.1)

full_of : {X : Type 0} (w : World) (objects cells : ℕ) (m : Run X) (which : Limit) → PassesLimit w.heap objects cells which → (room_for_objects objects >> (room_for_cells cells >> m)) w ≡ Stopped w (Fills which)
full_of w objects cells m limits.Objects h = ap (λ o. and_then o (λ u. room_for_cells cells >> m)) (room_gone limits.Objects (length w.heap.objects) objects w.heap.limits.objects w h)
full_of w objects cells m limits.Cells h =
    ap (λ o. and_then o (λ u. room_for_cells cells >> m)) (room_there limits.Objects (length w.heap.objects) objects w.heap.limits.objects w h.0)
    ∙ ap (λ o. and_then o (λ u. m)) (room_gone limits.Cells (cells_used w.heap) cells w.heap.limits.cells w h.1)
full_of w objects cells m limits.Text h = absurd h
full_of w objects cells m limits.Frames h = absurd h
full_of w objects cells m limits.Stack h = absurd h

pub made_full : {X : Type 0} (w : World) (objects cells : ℕ) (m : Run X) (new : Heap) (e : Full) → IsFullOf w.heap new objects cells e → (room_for_objects objects >> (room_for_cells cells >> m)) w ≡ Stopped (at_heap new w) (Fills e.0)
made_full w objects cells m new e h = full_of w objects cells m e.0 h.1 ∙ ap (λ k. Stopped (at_heap k w) (Fills e.0)) (sym h.0)

-- ---- cells alone

pub cells_ok : {X : Type 0} (w : World) (cells : ℕ) (m : Run X) → cells_used w.heap + cells ≤ w.heap.limits.cells → (room_for_cells cells >> m) w ≡ m w
cells_ok w cells m h = ap (λ o. and_then o (λ u. m)) (room_there limits.Cells (cells_used w.heap) cells w.heap.limits.cells w h)

pub cells_full : {X : Type 0} (w : World) (cells : ℕ) (m : Run X) (new : Heap) (e : Full) → IsFull w.heap new (cells_used w.heap) cells w.heap.limits.cells limits.Cells e → (room_for_cells cells >> m) w ≡ Stopped (at_heap new w) (Fills e.0)
cells_full w cells m new e h =
    ap (λ o. and_then o (λ u. m)) (room_gone limits.Cells (cells_used w.heap) cells w.heap.limits.cells w h.1)
    ∙ ap (λ k. Stopped (at_heap k w) (Fills limits.Cells)) (sym h.2)
    ∙ ap (λ (f : Full). Stopped (at_heap new w) (Fills f.0)) (sym h.0)

-- ---- what is changed then

pub changes_to : {X : Type 0} (f : Heap → Heap) (x : Heap → X) (w : World) (new : Heap) (o : X) → new ≡ f w.heap → o ≡ x w.heap → changes f x w ≡ Went (at_heap new w) o
changes_to f x w new o h e = ap (λ k. Went (at_heap k w) (x w.heap)) (sym h) ∙ ap (λ y. Went (at_heap new w) y) (sym e)

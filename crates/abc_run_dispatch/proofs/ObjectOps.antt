-- What instructions on objects do, by their opcodes.
use Rattle.std.proofs.Common.{◌≡◌, ℕ, List, [], ◌∷◌, refl, ap, ◌∙◌}
use Rattle.std.specs.Prelude.{slice_get}
use Rattle.abc_meaning.specs.At.{ActCase, gives_pushed, goes, next_frame, number_here, after_pushes}
use Rattle.abc_meaning.specs.Late.{on_slot, reads_slot, writes_slot}
use Rattle.abc_meaning.specs.Table.{act_of, acts}
use Rattle.abc_heap_values.specs.declared.values.ObjId.{ObjId}
use Rattle.abc_heap_values.specs.declared.values.Value.{Value}
use Rattle.abc_heap_values.specs.declared.values.Value.TheVariants as values
use Rattle.abc_heap_store.specs.Heap.{Object}
use Rattle.abc_run_names.specs.Late.{keeps_late, tests_instance, tests_late, tests_name}
use Rattle.abc_run_names.specs.Numbered.{on_numbered, reads_numbered, writes_numbered}
use Rattle.abc_run_names.specs.Walked.{pushes_name, pushes_next, pushes_value}
use Rattle.abc_run_values.proofs.Armed.{Armed, armed, one_taken, taking, two_taken}
use Rattle.abc_run_values.proofs.Doing.{Does}
use Rattle.abc_run_values.proofs.Opened.{here_of}
use Rattle.abc_run_values.specs.Ready.{CanRun}
use Rattle.abc_link_names.specs.Linked.{LinkedFile}
use Rattle.abc_verify_typing.specs.Rows.{Shape, row_at, table_of_rows}
use Rattle.abc_verify_typing.specs.declared.row.Need.TheVariants as needed
use Rattle.abc_frames.specs.Frame.{Frame, after_drop, newest}
use Rattle.abc_run_state.specs.Operands.{operand_at}
use Rattle.abc_run_state.specs.Outer.{Outer, setting_in, world}
use Rattle.abc_run_state.specs.declared.state.State.{State}
use Rattle.abc_file_types.specs.declared.code.Instr.TheVariants.{One, Plain}
use Rattle.abc_meaning.specs.Members.{write_slot}
use Rattle.abc_meaning.specs.Setting.{Setting}
use Rattle.abc_meaning.specs.World.{Outcome, Run, World, and_then, some}

-- ---- a slot by its number

slot_same : {X : Type 0} (p : Setting) (a : ActCase) (n : ℕ) (v : Value) (f : ObjId → Object → ℕ → Run X) (w : World) → a.setting ≡ p → number_here a ≡ n → on_slot a v f w ≡ on_numbered p n v f w
slot_same p a n (values.Obj o) f w e q = ap (λ (x : Setting). on_numbered x (number_here a) (values.Obj o) f w) e ∙ ap (λ (k : ℕ). on_numbered p k (values.Obj o) f w) q
slot_same p a n values.Null f w e q = refl
slot_same p a n values.Undefined f w e q = refl
slot_same p a n (values.Num z) f w e q = refl
slot_same p a n (values.Bool b) f w e q = refl
slot_same p a n (values.Text t) f w e q = refl
slot_same p a n (values.Space k) f w e q = refl

reads_same : (p : Setting) (a : ActCase) (n : ℕ) (v : Value) (f : Frame) (w : World) → a.setting ≡ p → number_here a ≡ n → and_then (on_slot a v (λ o ob k. some (slice_get ob.slots k)) w) (λ x. goes (after_pushes (x ∷ []) (after_drop 1 f))) ≡ and_then (on_numbered p n v (λ o ob k. some (slice_get ob.slots k)) w) (λ x. goes (after_pushes (x ∷ []) (after_drop 1 f)))
reads_same p a n v f w e q = ap (λ (o : Outcome Value). and_then o (λ x. goes (after_pushes (x ∷ []) (after_drop 1 f)))) (slot_same p a n v (λ o ob k. some (slice_get ob.slots k)) w e q)

writes_same : (p : Setting) (a : ActCase) (n : ℕ) (r v : Value) (f : Frame) (w : World) → a.setting ≡ p → number_here a ≡ n → and_then (on_slot a r (λ o ob k. write_slot a.setting o k v) w) (λ u. goes (next_frame (after_drop 2 f))) ≡ and_then (on_numbered p n r (λ o ob k. write_slot p o k v) w) (λ u. goes (next_frame (after_drop 2 f)))
writes_same p a n r v f w e q = ap (λ (o : Outcome (Unit {0})). and_then o (λ u. goes (next_frame (after_drop 2 f)))) (slot_same p a n r (λ o ob k. write_slot a.setting o k v) w e q ∙ ap (λ (x : Setting). on_numbered p n r (λ o ob k. write_slot x o k v) w) e)

abbrev one_here : State → List Value
one_here s = operand_at 0 (newest s.frames) ∷ []

abbrev two_here : State → List Value
two_here s = operand_at 0 (newest s.frames) ∷ operand_at 1 (newest s.frames) ∷ []

reads_as : (l : LinkedFile) (out : Outer) (s : State) (n : ℕ) (row : Shape) → Armed (setting_in l out) s.frames (One 0x6C n) (world s out) row (gives_pushed reads_slot) 1 1 (one_here s) → Does l out s (One 0x6C n) 1 1 (reads_numbered (setting_in l out) n (newest s.frames))
reads_as l out s n row a =
    let p = setting_in l out in
    let f = newest s.frames in
    record { ready = a.ready; does = a.does ∙ reads_same p (taking p (here_of p a.routine f (One 0x6C n) row) f 1 (one_here s)) n (operand_at 0 f) f (world s out) refl refl }

writes_as : (l : LinkedFile) (out : Outer) (s : State) (n : ℕ) (row : Shape) → Armed (setting_in l out) s.frames (One 0x6D n) (world s out) row writes_slot 2 0 (two_here s) → Does l out s (One 0x6D n) 2 0 (writes_numbered (setting_in l out) n (newest s.frames))
writes_as l out s n row a =
    let p = setting_in l out in
    let f = newest s.frames in
    record { ready = a.ready; does = a.does ∙ writes_same p (taking p (here_of p a.routine f (One 0x6D n) row) f 2 (two_here s)) n (operand_at 1 f) (operand_at 0 f) f (world s out) refl refl }

-- ---- by the opcodes

pub op_1E : (l : LinkedFile) (out : Outer) (s : State) → CanRun l out s (Plain 0x1E) → Does l out s (Plain 0x1E) 2 1 (pushes_name (newest s.frames))
unfolding row_at table_of_rows act_of acts
op_1E l out s can = let a = armed l out s (Plain 0x1E) _ _ 2 1 ((operand_at 0 (newest s.frames)) ∷ (operand_at 1 (newest s.frames)) ∷ []) can refl refl (two_taken _ _ _ needed.Index needed.Value refl refl tt tt) refl in record { ready = a.ready; does = a.does }

pub op_1F : (l : LinkedFile) (out : Outer) (s : State) → CanRun l out s (Plain 0x1F) → Does l out s (Plain 0x1F) 2 1 (pushes_next (newest s.frames))
unfolding row_at table_of_rows act_of acts
op_1F l out s can = let a = armed l out s (Plain 0x1F) _ _ 2 1 ((operand_at 0 (newest s.frames)) ∷ (operand_at 1 (newest s.frames)) ∷ []) can refl refl (two_taken _ _ _ needed.Index needed.Value refl refl tt tt) refl in record { ready = a.ready; does = a.does }

pub op_23 : (l : LinkedFile) (out : Outer) (s : State) → CanRun l out s (Plain 0x23) → Does l out s (Plain 0x23) 2 1 (pushes_value (newest s.frames))
unfolding row_at table_of_rows act_of acts
op_23 l out s can = let a = armed l out s (Plain 0x23) _ _ 2 1 ((operand_at 0 (newest s.frames)) ∷ (operand_at 1 (newest s.frames)) ∷ []) can refl refl (two_taken _ _ _ needed.Index needed.Value refl refl tt tt) refl in record { ready = a.ready; does = a.does }

pub op_87 : (l : LinkedFile) (out : Outer) (s : State) → CanRun l out s (Plain 0x87) → Does l out s (Plain 0x87) 2 1 (keeps_late (setting_in l out) (newest s.frames))
unfolding row_at table_of_rows act_of acts
op_87 l out s can = let a = armed l out s (Plain 0x87) _ _ 2 1 ((operand_at 0 (newest s.frames)) ∷ (operand_at 1 (newest s.frames)) ∷ []) can refl refl (two_taken _ _ _ needed.Value needed.Value refl refl tt tt) refl in record { ready = a.ready; does = a.does }

pub op_B1 : (l : LinkedFile) (out : Outer) (s : State) → CanRun l out s (Plain 0xB1) → Does l out s (Plain 0xB1) 2 1 (tests_instance (setting_in l out) (newest s.frames))
unfolding row_at table_of_rows act_of acts
op_B1 l out s can = let a = armed l out s (Plain 0xB1) _ _ 2 1 ((operand_at 0 (newest s.frames)) ∷ (operand_at 1 (newest s.frames)) ∷ []) can refl refl (two_taken _ _ _ needed.Value needed.Value refl refl tt tt) refl in record { ready = a.ready; does = a.does }

pub op_B3 : (l : LinkedFile) (out : Outer) (s : State) → CanRun l out s (Plain 0xB3) → Does l out s (Plain 0xB3) 2 1 (tests_late (setting_in l out) (newest s.frames))
unfolding row_at table_of_rows act_of acts
op_B3 l out s can = let a = armed l out s (Plain 0xB3) _ _ 2 1 ((operand_at 0 (newest s.frames)) ∷ (operand_at 1 (newest s.frames)) ∷ []) can refl refl (two_taken _ _ _ needed.Value needed.Value refl refl tt tt) refl in record { ready = a.ready; does = a.does }

pub op_B4 : (l : LinkedFile) (out : Outer) (s : State) → CanRun l out s (Plain 0xB4) → Does l out s (Plain 0xB4) 2 1 (tests_name (setting_in l out) (newest s.frames))
unfolding row_at table_of_rows act_of acts
op_B4 l out s can = let a = armed l out s (Plain 0xB4) _ _ 2 1 ((operand_at 0 (newest s.frames)) ∷ (operand_at 1 (newest s.frames)) ∷ []) can refl refl (two_taken _ _ _ needed.Value needed.Value refl refl tt tt) refl in record { ready = a.ready; does = a.does }

pub op_6C : (l : LinkedFile) (out : Outer) (s : State) (n : ℕ) → CanRun l out s (One 0x6C n) → Does l out s (One 0x6C n) 1 1 (reads_numbered (setting_in l out) n (newest s.frames))
unfolding row_at table_of_rows act_of acts
op_6C l out s n can = reads_as l out s n _ (armed l out s (One 0x6C n) _ _ 1 1 (one_here s) can refl refl (one_taken _ _ _ needed.Slotted refl refl tt) refl)

pub op_6D : (l : LinkedFile) (out : Outer) (s : State) (n : ℕ) → CanRun l out s (One 0x6D n) → Does l out s (One 0x6D n) 2 0 (writes_numbered (setting_in l out) n (newest s.frames))
unfolding row_at table_of_rows act_of acts
op_6D l out s n can = writes_as l out s n _ (armed l out s (One 0x6D n) _ _ 2 0 (two_here s) can refl refl (two_taken _ _ _ needed.Value needed.Slotted refl refl tt tt) refl)

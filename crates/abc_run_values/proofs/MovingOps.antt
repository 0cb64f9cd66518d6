-- What plain instructions that move values do, by their opcodes.
use Rattle.std.proofs.Common.{◌≡◌, ◌-◌, ◌<◌, [], ◌∷◌, length, take, true, false, refl, sym, subst}
use Rattle.std.proofs.lemmas.Bool.{ltb-true}
use Rattle.abc_meaning.specs.At.{goes, next_frame, after_pushes}
use Rattle.abc_meaning.specs.Simple.{returns, pushes_scope}
use Rattle.abc_meaning.specs.Table.{act_of, acts}
use Rattle.abc_base.specs.declared.names.Fault.TheVariants as faults
use Rattle.abc_heap_values.specs.declared.values.Value.{Value}
use Rattle.abc_heap_values.specs.declared.values.Value.TheVariants.{Null, Undefined, Bool as Truth}
use Rattle.abc_run_values.proofs.Armed.{armed, none_taken, one_taken, two_taken}
use Rattle.abc_run_values.proofs.Doing.{Does, scopes_fit}
use Rattle.abc_run_values.specs.Reads.{reads_local}
use Rattle.abc_run_values.specs.Ready.{CanRun}
use Rattle.abc_link_names.specs.Linked.{LinkedFile}
use Rattle.abc_verify_typing.specs.Rows.{row_at, table_of_rows}
use Rattle.abc_verify_typing.specs.declared.row.Need.TheVariants as needed
use Rattle.abc_frames.specs.Frame.{after_drop, newest, newest_size, with_local}
use Rattle.abc_run_state.specs.Operands.{operand_at}
use Rattle.abc_run_state.specs.Outer.{Outer, setting_in}
use Rattle.abc_run_state.specs.declared.state.State.{State}
use Rattle.abc_file_types.specs.declared.code.Instr.TheVariants.{Plain}
use Rattle.abc_meaning.specs.World.{Throws, fails, stop}

pub op_02 : (l : LinkedFile) (out : Outer) (s : State) → CanRun l out s (Plain 0x02) → Does l out s (Plain 0x02) 0 0 (goes (next_frame (newest s.frames)))
unfolding row_at table_of_rows act_of acts
op_02 l out s can = let a = armed l out s (Plain 0x02) _ _ 0 0 [] can refl refl (none_taken _ _ _ refl refl) refl in record { ready = a.ready; does = a.does }

pub op_09 : (l : LinkedFile) (out : Outer) (s : State) → CanRun l out s (Plain 0x09) → Does l out s (Plain 0x09) 0 0 (goes (next_frame (newest s.frames)))
unfolding row_at table_of_rows act_of acts
op_09 l out s can = let a = armed l out s (Plain 0x09) _ _ 0 0 [] can refl refl (none_taken _ _ _ refl refl) refl in record { ready = a.ready; does = a.does }

pub op_03 : (l : LinkedFile) (out : Outer) (s : State) → CanRun l out s (Plain 0x03) → Does l out s (Plain 0x03) 1 0 (stop (Throws (operand_at 0 (newest s.frames))))
unfolding row_at table_of_rows act_of acts
op_03 l out s can = let a = armed l out s (Plain 0x03) _ _ 1 0 ((operand_at 0 (newest s.frames)) ∷ []) can refl refl (one_taken _ _ _ needed.Value refl refl tt) refl in record { ready = a.ready; does = a.does }

pub op_1C : (l : LinkedFile) (out : Outer) (s : State) → CanRun l out s (Plain 0x1C) → Does l out s (Plain 0x1C) 1 0 (pushes_scope true (after_drop 1 (newest s.frames)) (operand_at 0 (newest s.frames))) × (length (newest s.frames).scopes < (newest_size s.frames).scopes)
unfolding row_at table_of_rows act_of acts
op_1C l out s can = let a = armed l out s (Plain 0x1C) _ _ 1 0 ((operand_at 0 (newest s.frames)) ∷ []) can refl refl (one_taken _ _ _ needed.Value refl refl tt) refl in (record { ready = a.ready; does = a.does }, scopes_fit (setting_in l out) s.frames a.routine (length (newest s.frames).scopes) can.size a.body a.tests.push)

pub op_30 : (l : LinkedFile) (out : Outer) (s : State) → CanRun l out s (Plain 0x30) → Does l out s (Plain 0x30) 1 0 (pushes_scope false (after_drop 1 (newest s.frames)) (operand_at 0 (newest s.frames))) × (length (newest s.frames).scopes < (newest_size s.frames).scopes)
unfolding row_at table_of_rows act_of acts
op_30 l out s can = let a = armed l out s (Plain 0x30) _ _ 1 0 ((operand_at 0 (newest s.frames)) ∷ []) can refl refl (one_taken _ _ _ needed.Value refl refl tt) refl in (record { ready = a.ready; does = a.does }, scopes_fit (setting_in l out) s.frames a.routine (length (newest s.frames).scopes) can.size a.body a.tests.push)

pub op_1D : (l : LinkedFile) (out : Outer) (s : State) → CanRun l out s (Plain 0x1D) → Does l out s (Plain 0x1D) 0 0 (goes (next_frame (record (newest s.frames) { scopes = take (length (newest s.frames).scopes - 1) (newest s.frames).scopes }))) × (0 < length (newest s.frames).scopes)
unfolding row_at table_of_rows act_of acts
op_1D l out s can = let a = armed l out s (Plain 0x1D) _ _ 0 0 [] can refl refl (none_taken _ _ _ refl refl) refl in (record { ready = a.ready; does = a.does }, ltb-true _ _ a.tests.pop)

pub op_20 : (l : LinkedFile) (out : Outer) (s : State) → CanRun l out s (Plain 0x20) → Does l out s (Plain 0x20) 0 1 (goes (after_pushes (Null ∷ []) (newest s.frames)))
unfolding row_at table_of_rows act_of acts
op_20 l out s can = let a = armed l out s (Plain 0x20) _ _ 0 1 [] can refl refl (none_taken _ _ _ refl refl) refl in record { ready = a.ready; does = a.does }

pub op_21 : (l : LinkedFile) (out : Outer) (s : State) → CanRun l out s (Plain 0x21) → Does l out s (Plain 0x21) 0 1 (goes (after_pushes (Undefined ∷ []) (newest s.frames)))
unfolding row_at table_of_rows act_of acts
op_21 l out s can = let a = armed l out s (Plain 0x21) _ _ 0 1 [] can refl refl (none_taken _ _ _ refl refl) refl in record { ready = a.ready; does = a.does }

pub op_26 : (l : LinkedFile) (out : Outer) (s : State) → CanRun l out s (Plain 0x26) → Does l out s (Plain 0x26) 0 1 (goes (after_pushes (Truth true ∷ []) (newest s.frames)))
unfolding row_at table_of_rows act_of acts
op_26 l out s can = let a = armed l out s (Plain 0x26) _ _ 0 1 [] can refl refl (none_taken _ _ _ refl refl) refl in record { ready = a.ready; does = a.does }

pub op_27 : (l : LinkedFile) (out : Outer) (s : State) → CanRun l out s (Plain 0x27) → Does l out s (Plain 0x27) 0 1 (goes (after_pushes (Truth false ∷ []) (newest s.frames)))
unfolding row_at table_of_rows act_of acts
op_27 l out s can = let a = armed l out s (Plain 0x27) _ _ 0 1 [] can refl refl (none_taken _ _ _ refl refl) refl in record { ready = a.ready; does = a.does }

pub op_28 : (l : LinkedFile) (out : Outer) (s : State) → CanRun l out s (Plain 0x28) → Does l out s (Plain 0x28) 0 1 (fails faults.NotANumber)
unfolding row_at table_of_rows act_of acts
op_28 l out s can = let a = armed l out s (Plain 0x28) _ _ 0 1 [] can refl refl (none_taken _ _ _ refl refl) refl in record { ready = a.ready; does = a.does }

pub op_29 : (l : LinkedFile) (out : Outer) (s : State) → CanRun l out s (Plain 0x29) → Does l out s (Plain 0x29) 1 0 (goes (next_frame (after_drop 1 (newest s.frames))))
unfolding row_at table_of_rows act_of acts
op_29 l out s can = let a = armed l out s (Plain 0x29) _ _ 1 0 ((operand_at 0 (newest s.frames)) ∷ []) can refl refl (one_taken _ _ _ needed.Value refl refl tt) refl in record { ready = a.ready; does = a.does }

pub op_2A : (l : LinkedFile) (out : Outer) (s : State) → CanRun l out s (Plain 0x2A) → Does l out s (Plain 0x2A) 1 2 (goes (after_pushes ((operand_at 0 (newest s.frames)) ∷ (operand_at 0 (newest s.frames)) ∷ []) (after_drop 1 (newest s.frames))))
unfolding row_at table_of_rows act_of acts
op_2A l out s can = let a = armed l out s (Plain 0x2A) _ _ 1 2 ((operand_at 0 (newest s.frames)) ∷ []) can refl refl (one_taken _ _ _ needed.Value refl refl tt) refl in record { ready = a.ready; does = a.does }

pub op_2B : (l : LinkedFile) (out : Outer) (s : State) → CanRun l out s (Plain 0x2B) → Does l out s (Plain 0x2B) 2 2 (goes (after_pushes ((operand_at 1 (newest s.frames)) ∷ (operand_at 0 (newest s.frames)) ∷ []) (after_drop 2 (newest s.frames))))
unfolding row_at table_of_rows act_of acts
op_2B l out s can = let a = armed l out s (Plain 0x2B) _ _ 2 2 ((operand_at 0 (newest s.frames)) ∷ (operand_at 1 (newest s.frames)) ∷ []) can refl refl (two_taken _ _ _ needed.Value needed.Value refl refl tt tt) refl in record { ready = a.ready; does = a.does }

pub op_D0 : (l : LinkedFile) (out : Outer) (s : State) → CanRun l out s (Plain 0xD0) → Does l out s (Plain 0xD0) 0 1 (reads_local 0 (newest s.frames)) × (0 < length (newest s.frames).locals)
unfolding row_at table_of_rows act_of acts
op_D0 l out s can = let a = armed l out s (Plain 0xD0) _ _ 0 1 [] can refl refl (none_taken _ _ _ refl refl) refl in (record { ready = a.ready; does = a.does }, ltb-true _ _ a.tests.locals)

pub op_D1 : (l : LinkedFile) (out : Outer) (s : State) → CanRun l out s (Plain 0xD1) → Does l out s (Plain 0xD1) 0 1 (reads_local 1 (newest s.frames)) × (1 < length (newest s.frames).locals)
unfolding row_at table_of_rows act_of acts
op_D1 l out s can = let a = armed l out s (Plain 0xD1) _ _ 0 1 [] can refl refl (none_taken _ _ _ refl refl) refl in (record { ready = a.ready; does = a.does }, ltb-true _ _ a.tests.locals)

pub op_D2 : (l : LinkedFile) (out : Outer) (s : State) → CanRun l out s (Plain 0xD2) → Does l out s (Plain 0xD2) 0 1 (reads_local 2 (newest s.frames)) × (2 < length (newest s.frames).locals)
unfolding row_at table_of_rows act_of acts
op_D2 l out s can = let a = armed l out s (Plain 0xD2) _ _ 0 1 [] can refl refl (none_taken _ _ _ refl refl) refl in (record { ready = a.ready; does = a.does }, ltb-true _ _ a.tests.locals)

pub op_D3 : (l : LinkedFile) (out : Outer) (s : State) → CanRun l out s (Plain 0xD3) → Does l out s (Plain 0xD3) 0 1 (reads_local 3 (newest s.frames)) × (3 < length (newest s.frames).locals)
unfolding row_at table_of_rows act_of acts
op_D3 l out s can = let a = armed l out s (Plain 0xD3) _ _ 0 1 [] can refl refl (none_taken _ _ _ refl refl) refl in (record { ready = a.ready; does = a.does }, ltb-true _ _ a.tests.locals)

pub op_D4 : (l : LinkedFile) (out : Outer) (s : State) → CanRun l out s (Plain 0xD4) → Does l out s (Plain 0xD4) 1 0 (goes (next_frame (with_local 0 (operand_at 0 (newest s.frames)) (after_drop 1 (newest s.frames))))) × (0 < length (newest s.frames).locals)
unfolding row_at table_of_rows act_of acts
op_D4 l out s can = let a = armed l out s (Plain 0xD4) _ _ 1 0 ((operand_at 0 (newest s.frames)) ∷ []) can refl refl (one_taken _ _ _ needed.Value refl refl tt) refl in (record { ready = a.ready; does = a.does }, ltb-true _ _ a.tests.locals)

pub op_D5 : (l : LinkedFile) (out : Outer) (s : State) → CanRun l out s (Plain 0xD5) → Does l out s (Plain 0xD5) 1 0 (goes (next_frame (with_local 1 (operand_at 0 (newest s.frames)) (after_drop 1 (newest s.frames))))) × (1 < length (newest s.frames).locals)
unfolding row_at table_of_rows act_of acts
op_D5 l out s can = let a = armed l out s (Plain 0xD5) _ _ 1 0 ((operand_at 0 (newest s.frames)) ∷ []) can refl refl (one_taken _ _ _ needed.Value refl refl tt) refl in (record { ready = a.ready; does = a.does }, ltb-true _ _ a.tests.locals)

pub op_D6 : (l : LinkedFile) (out : Outer) (s : State) → CanRun l out s (Plain 0xD6) → Does l out s (Plain 0xD6) 1 0 (goes (next_frame (with_local 2 (operand_at 0 (newest s.frames)) (after_drop 1 (newest s.frames))))) × (2 < length (newest s.frames).locals)
unfolding row_at table_of_rows act_of acts
op_D6 l out s can = let a = armed l out s (Plain 0xD6) _ _ 1 0 ((operand_at 0 (newest s.frames)) ∷ []) can refl refl (one_taken _ _ _ needed.Value refl refl tt) refl in (record { ready = a.ready; does = a.does }, ltb-true _ _ a.tests.locals)

pub op_D7 : (l : LinkedFile) (out : Outer) (s : State) → CanRun l out s (Plain 0xD7) → Does l out s (Plain 0xD7) 1 0 (goes (next_frame (with_local 3 (operand_at 0 (newest s.frames)) (after_drop 1 (newest s.frames))))) × (3 < length (newest s.frames).locals)
unfolding row_at table_of_rows act_of acts
op_D7 l out s can = let a = armed l out s (Plain 0xD7) _ _ 1 0 ((operand_at 0 (newest s.frames)) ∷ []) can refl refl (one_taken _ _ _ needed.Value refl refl tt) refl in (record { ready = a.ready; does = a.does }, ltb-true _ _ a.tests.locals)

pub op_47 : (l : LinkedFile) (out : Outer) (s : State) → CanRun l out s (Plain 0x47) → Does l out s (Plain 0x47) 0 0 (returns (setting_in l out) (newest s.frames) Undefined)
unfolding row_at table_of_rows act_of acts
op_47 l out s can = let a = armed l out s (Plain 0x47) _ _ 0 0 [] can refl refl (none_taken _ _ _ refl refl) refl in record { ready = a.ready; does = a.does }

pub op_48 : (l : LinkedFile) (out : Outer) (s : State) → CanRun l out s (Plain 0x48) → Does l out s (Plain 0x48) 1 0 (returns (setting_in l out) (newest s.frames) (operand_at 0 (newest s.frames)))
unfolding row_at table_of_rows act_of acts
op_48 l out s can = let a = armed l out s (Plain 0x48) _ _ 1 0 ((operand_at 0 (newest s.frames)) ∷ []) can refl refl (one_taken _ _ _ needed.Value refl refl tt) refl in record { ready = a.ready; does = a.does }

-- what returns is the operand that was read
pub returned : (l : LinkedFile) (out : Outer) (s : State) (v : Value) → CanRun l out s (Plain 0x48) → v ≡ operand_at 0 (newest s.frames) → Does l out s (Plain 0x48) 1 0 (returns (setting_in l out) (newest s.frames) v)
returned l out s v can e = subst (λ (x : Value). Does l out s (Plain 0x48) 1 0 (returns (setting_in l out) (newest s.frames) x)) (sym e) (op_48 l out s can)

-- What instructions with numbers do, by their opcodes.
use Rattle.std.proofs.Common.{ℕ, ◌<◌, List, [], ◌∷◌, length, not, refl}
use Rattle.std.specs.Prelude.{IsSome, ℤ, pos}
use Rattle.std.proofs.lemmas.Bool.{ltb-true}
use Rattle.abc_meaning.specs.At.{goes, jumps, next_frame, after_pushes}
use Rattle.abc_meaning.specs.Table.{act_of, acts}
use Rattle.abc_base.specs.declared.names.Fault.TheVariants as faults
use Rattle.abc_heap_values.specs.declared.values.Value.TheVariants.{Num, Space, Text, Undefined}
use Rattle.abc_heap_values.specs.Numbers.{truth_of}
use Rattle.abc_objects.specs.Starts.{string_span}
use Rattle.abc_run_state.specs.Plain.{branches_on, coerces_named, compares_both, counts_local, keeps_named, opposite_of, switches_on, tests_named}
use Rattle.abc_run_values.proofs.Armed.{armed, none_taken, one_taken, two_taken}
use Rattle.abc_run_values.proofs.Doing.{Does, counted_does, has_type, scope_does}
use Rattle.abc_run_values.specs.Reads.{reads_local, reads_scope}
use Rattle.abc_run_values.specs.Ready.{CanRun}
use Rattle.abc_link_names.specs.Linked.{LinkedFile}
use Rattle.abc_link_names.specs.Types.{type_of}
use Rattle.abc_verify_typing.specs.Rows.{row_at, table_of_rows}
use Rattle.abc_verify_typing.specs.declared.row.Need.TheVariants as needed
use Rattle.abc_frames.specs.Frame.{after_drop, newest, with_local}
use Rattle.abc_link_names.specs.Starts.{int_at, uint_at}
use Rattle.abc_run_state.specs.Operands.{operand_at}
use Rattle.abc_run_state.specs.Outer.{Outer, setting_in}
use Rattle.abc_run_state.specs.declared.state.State.{State}
use Rattle.abc_file_types.specs.declared.code.Instr.TheVariants.{Branch, Byte, Debug, One, ScopeObject, Short, Switch}
use Rattle.abc_meaning.specs.World.{pure, fails}

pub op_08 : (l : LinkedFile) (out : Outer) (s : State) (n : ℕ) → CanRun l out s (One 0x08 n) → Does l out s (One 0x08 n) 0 0 (goes (next_frame (with_local n Undefined (newest s.frames)))) × (n < length (newest s.frames).locals)
unfolding row_at table_of_rows act_of acts
op_08 l out s n can = let a = armed l out s (One 0x08 n) _ _ 0 0 [] can refl refl (none_taken _ _ _ refl refl) refl in (record { ready = a.ready; does = a.does }, ltb-true _ _ a.tests.locals)

pub op_2C : (l : LinkedFile) (out : Outer) (s : State) (n : ℕ) → CanRun l out s (One 0x2C n) → Does l out s (One 0x2C n) 0 1 (goes (after_pushes (Text (string_span l.file.strings n) ∷ []) (newest s.frames)))
unfolding row_at table_of_rows act_of acts
op_2C l out s n can = let a = armed l out s (One 0x2C n) _ _ 0 1 [] can refl refl (none_taken _ _ _ refl refl) refl in record { ready = a.ready; does = a.does }

pub op_2D : (l : LinkedFile) (out : Outer) (s : State) (n : ℕ) → CanRun l out s (One 0x2D n) → Does l out s (One 0x2D n) 0 1 (goes (after_pushes (Num (int_at l.file n) ∷ []) (newest s.frames)))
unfolding row_at table_of_rows act_of acts
op_2D l out s n can = let a = armed l out s (One 0x2D n) _ _ 0 1 [] can refl refl (none_taken _ _ _ refl refl) refl in record { ready = a.ready; does = a.does }

pub op_2E : (l : LinkedFile) (out : Outer) (s : State) (n : ℕ) → CanRun l out s (One 0x2E n) → Does l out s (One 0x2E n) 0 1 (goes (after_pushes (Num (pos (uint_at l.file n)) ∷ []) (newest s.frames)))
unfolding row_at table_of_rows act_of acts
op_2E l out s n can = let a = armed l out s (One 0x2E n) _ _ 0 1 [] can refl refl (none_taken _ _ _ refl refl) refl in record { ready = a.ready; does = a.does }

pub op_2F : (l : LinkedFile) (out : Outer) (s : State) (n : ℕ) → CanRun l out s (One 0x2F n) → Does l out s (One 0x2F n) 0 1 (fails faults.Double)
unfolding row_at table_of_rows act_of acts
op_2F l out s n can = let a = armed l out s (One 0x2F n) _ _ 0 1 [] can refl refl (none_taken _ _ _ refl refl) refl in record { ready = a.ready; does = a.does }

pub op_31 : (l : LinkedFile) (out : Outer) (s : State) (n : ℕ) → CanRun l out s (One 0x31 n) → Does l out s (One 0x31 n) 0 1 (goes (after_pushes (Space n ∷ []) (newest s.frames)))
unfolding row_at table_of_rows act_of acts
op_31 l out s n can = let a = armed l out s (One 0x31 n) _ _ 0 1 [] can refl refl (none_taken _ _ _ refl refl) refl in record { ready = a.ready; does = a.does }

pub op_62 : (l : LinkedFile) (out : Outer) (s : State) (n : ℕ) → CanRun l out s (One 0x62 n) → Does l out s (One 0x62 n) 0 1 (reads_local n (newest s.frames)) × (n < length (newest s.frames).locals)
unfolding row_at table_of_rows act_of acts
op_62 l out s n can = let a = armed l out s (One 0x62 n) _ _ 0 1 [] can refl refl (none_taken _ _ _ refl refl) refl in (record { ready = a.ready; does = a.does }, ltb-true _ _ a.tests.locals)

pub op_63 : (l : LinkedFile) (out : Outer) (s : State) (n : ℕ) → CanRun l out s (One 0x63 n) → Does l out s (One 0x63 n) 1 0 (goes (next_frame (with_local n (operand_at 0 (newest s.frames)) (after_drop 1 (newest s.frames))))) × (n < length (newest s.frames).locals)
unfolding row_at table_of_rows act_of acts
op_63 l out s n can = let a = armed l out s (One 0x63 n) _ _ 1 0 ((operand_at 0 (newest s.frames)) ∷ []) can refl refl (one_taken _ _ _ needed.Value refl refl tt) refl in (record { ready = a.ready; does = a.does }, ltb-true _ _ a.tests.locals)

pub op_F0 : (l : LinkedFile) (out : Outer) (s : State) (n : ℕ) → CanRun l out s (One 0xF0 n) → Does l out s (One 0xF0 n) 0 0 (goes (next_frame (newest s.frames)))
unfolding row_at table_of_rows act_of acts
op_F0 l out s n can = let a = armed l out s (One 0xF0 n) _ _ 0 0 [] can refl refl (none_taken _ _ _ refl refl) refl in record { ready = a.ready; does = a.does }

pub op_F1 : (l : LinkedFile) (out : Outer) (s : State) (n : ℕ) → CanRun l out s (One 0xF1 n) → Does l out s (One 0xF1 n) 0 0 (goes (next_frame (newest s.frames)))
unfolding row_at table_of_rows act_of acts
op_F1 l out s n can = let a = armed l out s (One 0xF1 n) _ _ 0 0 [] can refl refl (none_taken _ _ _ refl refl) refl in record { ready = a.ready; does = a.does }

pub op_80 : (l : LinkedFile) (out : Outer) (s : State) (n : ℕ) → CanRun l out s (One 0x80 n) → Does l out s (One 0x80 n) 1 1 (coerces_named (setting_in l out) n (newest s.frames)) × IsSome (type_of l n)
unfolding row_at table_of_rows act_of acts
op_80 l out s n can = let a = armed l out s (One 0x80 n) _ _ 1 1 ((operand_at 0 (newest s.frames)) ∷ []) can refl refl (one_taken _ _ _ needed.Value refl refl tt) refl in (record { ready = a.ready; does = a.does }, has_type l (type_of l n) a.tests.form)

pub op_86 : (l : LinkedFile) (out : Outer) (s : State) (n : ℕ) → CanRun l out s (One 0x86 n) → Does l out s (One 0x86 n) 1 1 (keeps_named (setting_in l out) n (newest s.frames)) × IsSome (type_of l n)
unfolding row_at table_of_rows act_of acts
op_86 l out s n can = let a = armed l out s (One 0x86 n) _ _ 1 1 ((operand_at 0 (newest s.frames)) ∷ []) can refl refl (one_taken _ _ _ needed.Value refl refl tt) refl in (record { ready = a.ready; does = a.does }, has_type l (type_of l n) a.tests.form)

pub op_B2 : (l : LinkedFile) (out : Outer) (s : State) (n : ℕ) → CanRun l out s (One 0xB2 n) → Does l out s (One 0xB2 n) 1 1 (tests_named (setting_in l out) n (newest s.frames)) × IsSome (type_of l n)
unfolding row_at table_of_rows act_of acts
op_B2 l out s n can = let a = armed l out s (One 0xB2 n) _ _ 1 1 ((operand_at 0 (newest s.frames)) ∷ []) can refl refl (one_taken _ _ _ needed.Value refl refl tt) refl in (record { ready = a.ready; does = a.does }, has_type l (type_of l n) a.tests.form)

pub op_92 : (l : LinkedFile) (out : Outer) (s : State) (n : ℕ) → CanRun l out s (One 0x92 n) → Does l out s (One 0x92 n) 0 0 (counts_local 0x91 n (newest s.frames)) × (n < length (newest s.frames).locals)
unfolding row_at table_of_rows act_of acts
op_92 l out s n can = let a = armed l out s (One 0x92 n) _ _ 0 0 [] can refl refl (none_taken _ _ _ refl refl) refl in (counted_does l out s (One 0x92 n) 0x91 n (ltb-true _ _ a.tests.locals) (record { ready = a.ready; does = a.does }), ltb-true _ _ a.tests.locals)

pub op_94 : (l : LinkedFile) (out : Outer) (s : State) (n : ℕ) → CanRun l out s (One 0x94 n) → Does l out s (One 0x94 n) 0 0 (counts_local 0x93 n (newest s.frames)) × (n < length (newest s.frames).locals)
unfolding row_at table_of_rows act_of acts
op_94 l out s n can = let a = armed l out s (One 0x94 n) _ _ 0 0 [] can refl refl (none_taken _ _ _ refl refl) refl in (counted_does l out s (One 0x94 n) 0x93 n (ltb-true _ _ a.tests.locals) (record { ready = a.ready; does = a.does }), ltb-true _ _ a.tests.locals)

pub op_C2 : (l : LinkedFile) (out : Outer) (s : State) (n : ℕ) → CanRun l out s (One 0xC2 n) → Does l out s (One 0xC2 n) 0 0 (counts_local 0xc0 n (newest s.frames)) × (n < length (newest s.frames).locals)
unfolding row_at table_of_rows act_of acts
op_C2 l out s n can = let a = armed l out s (One 0xC2 n) _ _ 0 0 [] can refl refl (none_taken _ _ _ refl refl) refl in (counted_does l out s (One 0xC2 n) 0xc0 n (ltb-true _ _ a.tests.locals) (record { ready = a.ready; does = a.does }), ltb-true _ _ a.tests.locals)

pub op_C3 : (l : LinkedFile) (out : Outer) (s : State) (n : ℕ) → CanRun l out s (One 0xC3 n) → Does l out s (One 0xC3 n) 0 0 (counts_local 0xc1 n (newest s.frames)) × (n < length (newest s.frames).locals)
unfolding row_at table_of_rows act_of acts
op_C3 l out s n can = let a = armed l out s (One 0xC3 n) _ _ 0 0 [] can refl refl (none_taken _ _ _ refl refl) refl in (counted_does l out s (One 0xC3 n) 0xc1 n (ltb-true _ _ a.tests.locals) (record { ready = a.ready; does = a.does }), ltb-true _ _ a.tests.locals)

pub op_0C : (l : LinkedFile) (out : Outer) (s : State) (n : ℕ) → CanRun l out s (Branch 0x0C n) → Does l out s (Branch 0x0C n) 2 0 (branches_on 2 n (newest s.frames) (opposite_of (compares_both (setting_in l out) 0xad (newest s.frames))))
unfolding row_at table_of_rows act_of acts
op_0C l out s n can = let a = armed l out s (Branch 0x0C n) _ _ 2 0 ((operand_at 0 (newest s.frames)) ∷ (operand_at 1 (newest s.frames)) ∷ []) can refl refl (two_taken _ _ _ needed.Value needed.Value refl refl tt tt) refl in record { ready = a.ready; does = a.does }

pub op_0D : (l : LinkedFile) (out : Outer) (s : State) (n : ℕ) → CanRun l out s (Branch 0x0D n) → Does l out s (Branch 0x0D n) 2 0 (branches_on 2 n (newest s.frames) (opposite_of (compares_both (setting_in l out) 0xae (newest s.frames))))
unfolding row_at table_of_rows act_of acts
op_0D l out s n can = let a = armed l out s (Branch 0x0D n) _ _ 2 0 ((operand_at 0 (newest s.frames)) ∷ (operand_at 1 (newest s.frames)) ∷ []) can refl refl (two_taken _ _ _ needed.Value needed.Value refl refl tt tt) refl in record { ready = a.ready; does = a.does }

pub op_0E : (l : LinkedFile) (out : Outer) (s : State) (n : ℕ) → CanRun l out s (Branch 0x0E n) → Does l out s (Branch 0x0E n) 2 0 (branches_on 2 n (newest s.frames) (opposite_of (compares_both (setting_in l out) 0xaf (newest s.frames))))
unfolding row_at table_of_rows act_of acts
op_0E l out s n can = let a = armed l out s (Branch 0x0E n) _ _ 2 0 ((operand_at 0 (newest s.frames)) ∷ (operand_at 1 (newest s.frames)) ∷ []) can refl refl (two_taken _ _ _ needed.Value needed.Value refl refl tt tt) refl in record { ready = a.ready; does = a.does }

pub op_0F : (l : LinkedFile) (out : Outer) (s : State) (n : ℕ) → CanRun l out s (Branch 0x0F n) → Does l out s (Branch 0x0F n) 2 0 (branches_on 2 n (newest s.frames) (opposite_of (compares_both (setting_in l out) 0xb0 (newest s.frames))))
unfolding row_at table_of_rows act_of acts
op_0F l out s n can = let a = armed l out s (Branch 0x0F n) _ _ 2 0 ((operand_at 0 (newest s.frames)) ∷ (operand_at 1 (newest s.frames)) ∷ []) can refl refl (two_taken _ _ _ needed.Value needed.Value refl refl tt tt) refl in record { ready = a.ready; does = a.does }

pub op_14 : (l : LinkedFile) (out : Outer) (s : State) (n : ℕ) → CanRun l out s (Branch 0x14 n) → Does l out s (Branch 0x14 n) 2 0 (branches_on 2 n (newest s.frames) (opposite_of (compares_both (setting_in l out) 0xab (newest s.frames))))
unfolding row_at table_of_rows act_of acts
op_14 l out s n can = let a = armed l out s (Branch 0x14 n) _ _ 2 0 ((operand_at 0 (newest s.frames)) ∷ (operand_at 1 (newest s.frames)) ∷ []) can refl refl (two_taken _ _ _ needed.Value needed.Value refl refl tt tt) refl in record { ready = a.ready; does = a.does }

pub op_1A : (l : LinkedFile) (out : Outer) (s : State) (n : ℕ) → CanRun l out s (Branch 0x1A n) → Does l out s (Branch 0x1A n) 2 0 (branches_on 2 n (newest s.frames) (opposite_of (compares_both (setting_in l out) 0xac (newest s.frames))))
unfolding row_at table_of_rows act_of acts
op_1A l out s n can = let a = armed l out s (Branch 0x1A n) _ _ 2 0 ((operand_at 0 (newest s.frames)) ∷ (operand_at 1 (newest s.frames)) ∷ []) can refl refl (two_taken _ _ _ needed.Value needed.Value refl refl tt tt) refl in record { ready = a.ready; does = a.does }

pub op_13 : (l : LinkedFile) (out : Outer) (s : State) (n : ℕ) → CanRun l out s (Branch 0x13 n) → Does l out s (Branch 0x13 n) 2 0 (branches_on 2 n (newest s.frames) (compares_both (setting_in l out) 0xab (newest s.frames)))
unfolding row_at table_of_rows act_of acts
op_13 l out s n can = let a = armed l out s (Branch 0x13 n) _ _ 2 0 ((operand_at 0 (newest s.frames)) ∷ (operand_at 1 (newest s.frames)) ∷ []) can refl refl (two_taken _ _ _ needed.Value needed.Value refl refl tt tt) refl in record { ready = a.ready; does = a.does }

pub op_15 : (l : LinkedFile) (out : Outer) (s : State) (n : ℕ) → CanRun l out s (Branch 0x15 n) → Does l out s (Branch 0x15 n) 2 0 (branches_on 2 n (newest s.frames) (compares_both (setting_in l out) 0xad (newest s.frames)))
unfolding row_at table_of_rows act_of acts
op_15 l out s n can = let a = armed l out s (Branch 0x15 n) _ _ 2 0 ((operand_at 0 (newest s.frames)) ∷ (operand_at 1 (newest s.frames)) ∷ []) can refl refl (two_taken _ _ _ needed.Value needed.Value refl refl tt tt) refl in record { ready = a.ready; does = a.does }

pub op_16 : (l : LinkedFile) (out : Outer) (s : State) (n : ℕ) → CanRun l out s (Branch 0x16 n) → Does l out s (Branch 0x16 n) 2 0 (branches_on 2 n (newest s.frames) (compares_both (setting_in l out) 0xae (newest s.frames)))
unfolding row_at table_of_rows act_of acts
op_16 l out s n can = let a = armed l out s (Branch 0x16 n) _ _ 2 0 ((operand_at 0 (newest s.frames)) ∷ (operand_at 1 (newest s.frames)) ∷ []) can refl refl (two_taken _ _ _ needed.Value needed.Value refl refl tt tt) refl in record { ready = a.ready; does = a.does }

pub op_17 : (l : LinkedFile) (out : Outer) (s : State) (n : ℕ) → CanRun l out s (Branch 0x17 n) → Does l out s (Branch 0x17 n) 2 0 (branches_on 2 n (newest s.frames) (compares_both (setting_in l out) 0xaf (newest s.frames)))
unfolding row_at table_of_rows act_of acts
op_17 l out s n can = let a = armed l out s (Branch 0x17 n) _ _ 2 0 ((operand_at 0 (newest s.frames)) ∷ (operand_at 1 (newest s.frames)) ∷ []) can refl refl (two_taken _ _ _ needed.Value needed.Value refl refl tt tt) refl in record { ready = a.ready; does = a.does }

pub op_18 : (l : LinkedFile) (out : Outer) (s : State) (n : ℕ) → CanRun l out s (Branch 0x18 n) → Does l out s (Branch 0x18 n) 2 0 (branches_on 2 n (newest s.frames) (compares_both (setting_in l out) 0xb0 (newest s.frames)))
unfolding row_at table_of_rows act_of acts
op_18 l out s n can = let a = armed l out s (Branch 0x18 n) _ _ 2 0 ((operand_at 0 (newest s.frames)) ∷ (operand_at 1 (newest s.frames)) ∷ []) can refl refl (two_taken _ _ _ needed.Value needed.Value refl refl tt tt) refl in record { ready = a.ready; does = a.does }

pub op_19 : (l : LinkedFile) (out : Outer) (s : State) (n : ℕ) → CanRun l out s (Branch 0x19 n) → Does l out s (Branch 0x19 n) 2 0 (branches_on 2 n (newest s.frames) (compares_both (setting_in l out) 0xac (newest s.frames)))
unfolding row_at table_of_rows act_of acts
op_19 l out s n can = let a = armed l out s (Branch 0x19 n) _ _ 2 0 ((operand_at 0 (newest s.frames)) ∷ (operand_at 1 (newest s.frames)) ∷ []) can refl refl (two_taken _ _ _ needed.Value needed.Value refl refl tt tt) refl in record { ready = a.ready; does = a.does }

pub op_10 : (l : LinkedFile) (out : Outer) (s : State) (n : ℕ) → CanRun l out s (Branch 0x10 n) → Does l out s (Branch 0x10 n) 0 0 (goes (jumps n (newest s.frames)))
unfolding row_at table_of_rows act_of acts
op_10 l out s n can = let a = armed l out s (Branch 0x10 n) _ _ 0 0 [] can refl refl (none_taken _ _ _ refl refl) refl in record { ready = a.ready; does = a.does }

pub op_11 : (l : LinkedFile) (out : Outer) (s : State) (n : ℕ) → CanRun l out s (Branch 0x11 n) → Does l out s (Branch 0x11 n) 1 0 (branches_on 1 n (newest s.frames) (pure (truth_of (operand_at 0 (newest s.frames)))))
unfolding row_at table_of_rows act_of acts
op_11 l out s n can = let a = armed l out s (Branch 0x11 n) _ _ 1 0 ((operand_at 0 (newest s.frames)) ∷ []) can refl refl (one_taken _ _ _ needed.Value refl refl tt) refl in record { ready = a.ready; does = a.does }

pub op_12 : (l : LinkedFile) (out : Outer) (s : State) (n : ℕ) → CanRun l out s (Branch 0x12 n) → Does l out s (Branch 0x12 n) 1 0 (branches_on 1 n (newest s.frames) (pure (not (truth_of (operand_at 0 (newest s.frames))))))
unfolding row_at table_of_rows act_of acts
op_12 l out s n can = let a = armed l out s (Branch 0x12 n) _ _ 1 0 ((operand_at 0 (newest s.frames)) ∷ []) can refl refl (one_taken _ _ _ needed.Value refl refl tt) refl in record { ready = a.ready; does = a.does }

pub op_1B : (l : LinkedFile) (out : Outer) (s : State) (t : ℕ) (ts : List ℕ) → CanRun l out s (Switch t ts) → Does l out s (Switch t ts) 1 0 (switches_on t ts (newest s.frames))
unfolding row_at table_of_rows act_of acts
op_1B l out s t ts can = let a = armed l out s (Switch t ts) _ _ 1 0 ((operand_at 0 (newest s.frames)) ∷ []) can refl refl (one_taken _ _ _ needed.Index refl refl tt) refl in record { ready = a.ready; does = a.does }

pub op_24 : (l : LinkedFile) (out : Outer) (s : State) (z : ℤ) → CanRun l out s (Byte z) → Does l out s (Byte z) 0 1 (goes (after_pushes (Num z ∷ []) (newest s.frames)))
unfolding row_at table_of_rows act_of acts
op_24 l out s z can = let a = armed l out s (Byte z) _ _ 0 1 [] can refl refl (none_taken _ _ _ refl refl) refl in record { ready = a.ready; does = a.does }

pub op_25 : (l : LinkedFile) (out : Outer) (s : State) (z : ℤ) → CanRun l out s (Short z) → Does l out s (Short z) 0 1 (goes (after_pushes (Num z ∷ []) (newest s.frames)))
unfolding row_at table_of_rows act_of acts
op_25 l out s z can = let a = armed l out s (Short z) _ _ 0 1 [] can refl refl (none_taken _ _ _ refl refl) refl in record { ready = a.ready; does = a.does }

pub op_65 : (l : LinkedFile) (out : Outer) (s : State) (n : ℕ) → CanRun l out s (ScopeObject n) → Does l out s (ScopeObject n) 0 1 (reads_scope n (newest s.frames)) × (n < length (newest s.frames).scopes)
unfolding row_at table_of_rows act_of acts
op_65 l out s n can = let a = armed l out s (ScopeObject n) _ _ 0 1 [] can refl refl (none_taken _ _ _ refl refl) refl in (scope_does l out s (ScopeObject n) n (record { ready = a.ready; does = a.does }), ltb-true _ _ a.tests.scope)

pub op_EF : (l : LinkedFile) (out : Outer) (s : State) (kind name reg extra : ℕ) → CanRun l out s (Debug kind name reg extra) → Does l out s (Debug kind name reg extra) 0 0 (goes (next_frame (newest s.frames)))
unfolding row_at table_of_rows act_of acts
op_EF l out s kind name reg extra can = let a = armed l out s (Debug kind name reg extra) _ _ 0 0 [] can refl refl (none_taken _ _ _ refl refl) refl in record { ready = a.ready; does = a.does }

-- What plain instructions that compute do, by their opcodes.
use Rattle.std.proofs.Common.{[], ◌∷◌, refl}
use Rattle.abc_meaning.specs.At.{goes, next_frame}
use Rattle.abc_meaning.specs.Table.{act_of, acts}
use Rattle.abc_heap_values.specs.declared.numbers.Conversion.TheVariants.{CoerceS, ConvertB, ConvertD, ConvertI, ConvertO, ConvertS, ConvertU}
use Rattle.abc_run_state.specs.Plain.{computes_both, computes_top, converts_top, pushes_test}
use Rattle.abc_run_values.proofs.Armed.{armed, one_taken, two_taken}
use Rattle.abc_run_values.proofs.Doing.{Does, kept_does}
use Rattle.abc_run_values.specs.Ready.{CanRun}
use Rattle.abc_link_names.specs.Linked.{LinkedFile}
use Rattle.abc_verify_typing.specs.Rows.{row_at, table_of_rows}
use Rattle.abc_verify_typing.specs.declared.row.Need.TheVariants as needed
use Rattle.abc_frames.specs.Frame.{newest}
use Rattle.abc_run_state.specs.Operands.{operand_at}
use Rattle.abc_run_state.specs.Outer.{Outer, setting_in}
use Rattle.abc_run_state.specs.declared.state.State.{State}
use Rattle.abc_file_types.specs.declared.code.Instr.TheVariants.{Plain}

pub op_70 : (l : LinkedFile) (out : Outer) (s : State) → CanRun l out s (Plain 0x70) → Does l out s (Plain 0x70) 1 1 (converts_top (setting_in l out) ConvertS (newest s.frames))
unfolding row_at table_of_rows act_of acts
op_70 l out s can = let a = armed l out s (Plain 0x70) _ _ 1 1 ((operand_at 0 (newest s.frames)) ∷ []) can refl refl (one_taken _ _ _ needed.Value refl refl tt) refl in record { ready = a.ready; does = a.does }

pub op_73 : (l : LinkedFile) (out : Outer) (s : State) → CanRun l out s (Plain 0x73) → Does l out s (Plain 0x73) 1 1 (converts_top (setting_in l out) ConvertI (newest s.frames))
unfolding row_at table_of_rows act_of acts
op_73 l out s can = let a = armed l out s (Plain 0x73) _ _ 1 1 ((operand_at 0 (newest s.frames)) ∷ []) can refl refl (one_taken _ _ _ needed.Value refl refl tt) refl in record { ready = a.ready; does = a.does }

pub op_74 : (l : LinkedFile) (out : Outer) (s : State) → CanRun l out s (Plain 0x74) → Does l out s (Plain 0x74) 1 1 (converts_top (setting_in l out) ConvertU (newest s.frames))
unfolding row_at table_of_rows act_of acts
op_74 l out s can = let a = armed l out s (Plain 0x74) _ _ 1 1 ((operand_at 0 (newest s.frames)) ∷ []) can refl refl (one_taken _ _ _ needed.Value refl refl tt) refl in record { ready = a.ready; does = a.does }

pub op_75 : (l : LinkedFile) (out : Outer) (s : State) → CanRun l out s (Plain 0x75) → Does l out s (Plain 0x75) 1 1 (converts_top (setting_in l out) ConvertD (newest s.frames))
unfolding row_at table_of_rows act_of acts
op_75 l out s can = let a = armed l out s (Plain 0x75) _ _ 1 1 ((operand_at 0 (newest s.frames)) ∷ []) can refl refl (one_taken _ _ _ needed.Value refl refl tt) refl in record { ready = a.ready; does = a.does }

pub op_76 : (l : LinkedFile) (out : Outer) (s : State) → CanRun l out s (Plain 0x76) → Does l out s (Plain 0x76) 1 1 (converts_top (setting_in l out) ConvertB (newest s.frames))
unfolding row_at table_of_rows act_of acts
op_76 l out s can = let a = armed l out s (Plain 0x76) _ _ 1 1 ((operand_at 0 (newest s.frames)) ∷ []) can refl refl (one_taken _ _ _ needed.Value refl refl tt) refl in record { ready = a.ready; does = a.does }

pub op_77 : (l : LinkedFile) (out : Outer) (s : State) → CanRun l out s (Plain 0x77) → Does l out s (Plain 0x77) 1 1 (converts_top (setting_in l out) ConvertO (newest s.frames))
unfolding row_at table_of_rows act_of acts
op_77 l out s can = let a = armed l out s (Plain 0x77) _ _ 1 1 ((operand_at 0 (newest s.frames)) ∷ []) can refl refl (one_taken _ _ _ needed.Value refl refl tt) refl in record { ready = a.ready; does = a.does }

pub op_85 : (l : LinkedFile) (out : Outer) (s : State) → CanRun l out s (Plain 0x85) → Does l out s (Plain 0x85) 1 1 (converts_top (setting_in l out) CoerceS (newest s.frames))
unfolding row_at table_of_rows act_of acts
op_85 l out s can = let a = armed l out s (Plain 0x85) _ _ 1 1 ((operand_at 0 (newest s.frames)) ∷ []) can refl refl (one_taken _ _ _ needed.Value refl refl tt) refl in record { ready = a.ready; does = a.does }

pub op_82 : (l : LinkedFile) (out : Outer) (s : State) → CanRun l out s (Plain 0x82) → Does l out s (Plain 0x82) 0 0 (goes (next_frame (newest s.frames)))
unfolding row_at table_of_rows act_of acts
op_82 l out s can = let a = armed l out s (Plain 0x82) _ _ 1 1 ((operand_at 0 (newest s.frames)) ∷ []) can refl refl (one_taken _ _ _ needed.Value refl refl tt) refl in kept_does l out s (Plain 0x82) (record { ready = a.ready; does = a.does })

pub op_90 : (l : LinkedFile) (out : Outer) (s : State) → CanRun l out s (Plain 0x90) → Does l out s (Plain 0x90) 1 1 (computes_top 0x90 (newest s.frames))
unfolding row_at table_of_rows act_of acts
op_90 l out s can = let a = armed l out s (Plain 0x90) _ _ 1 1 ((operand_at 0 (newest s.frames)) ∷ []) can refl refl (one_taken _ _ _ needed.Value refl refl tt) refl in record { ready = a.ready; does = a.does }

pub op_91 : (l : LinkedFile) (out : Outer) (s : State) → CanRun l out s (Plain 0x91) → Does l out s (Plain 0x91) 1 1 (computes_top 0x91 (newest s.frames))
unfolding row_at table_of_rows act_of acts
op_91 l out s can = let a = armed l out s (Plain 0x91) _ _ 1 1 ((operand_at 0 (newest s.frames)) ∷ []) can refl refl (one_taken _ _ _ needed.Value refl refl tt) refl in record { ready = a.ready; does = a.does }

pub op_93 : (l : LinkedFile) (out : Outer) (s : State) → CanRun l out s (Plain 0x93) → Does l out s (Plain 0x93) 1 1 (computes_top 0x93 (newest s.frames))
unfolding row_at table_of_rows act_of acts
op_93 l out s can = let a = armed l out s (Plain 0x93) _ _ 1 1 ((operand_at 0 (newest s.frames)) ∷ []) can refl refl (one_taken _ _ _ needed.Value refl refl tt) refl in record { ready = a.ready; does = a.does }

pub op_95 : (l : LinkedFile) (out : Outer) (s : State) → CanRun l out s (Plain 0x95) → Does l out s (Plain 0x95) 1 1 (computes_top 0x95 (newest s.frames))
unfolding row_at table_of_rows act_of acts
op_95 l out s can = let a = armed l out s (Plain 0x95) _ _ 1 1 ((operand_at 0 (newest s.frames)) ∷ []) can refl refl (one_taken _ _ _ needed.Value refl refl tt) refl in record { ready = a.ready; does = a.does }

pub op_96 : (l : LinkedFile) (out : Outer) (s : State) → CanRun l out s (Plain 0x96) → Does l out s (Plain 0x96) 1 1 (computes_top 0x96 (newest s.frames))
unfolding row_at table_of_rows act_of acts
op_96 l out s can = let a = armed l out s (Plain 0x96) _ _ 1 1 ((operand_at 0 (newest s.frames)) ∷ []) can refl refl (one_taken _ _ _ needed.Value refl refl tt) refl in record { ready = a.ready; does = a.does }

pub op_97 : (l : LinkedFile) (out : Outer) (s : State) → CanRun l out s (Plain 0x97) → Does l out s (Plain 0x97) 1 1 (computes_top 0x97 (newest s.frames))
unfolding row_at table_of_rows act_of acts
op_97 l out s can = let a = armed l out s (Plain 0x97) _ _ 1 1 ((operand_at 0 (newest s.frames)) ∷ []) can refl refl (one_taken _ _ _ needed.Value refl refl tt) refl in record { ready = a.ready; does = a.does }

pub op_C0 : (l : LinkedFile) (out : Outer) (s : State) → CanRun l out s (Plain 0xC0) → Does l out s (Plain 0xC0) 1 1 (computes_top 0xc0 (newest s.frames))
unfolding row_at table_of_rows act_of acts
op_C0 l out s can = let a = armed l out s (Plain 0xC0) _ _ 1 1 ((operand_at 0 (newest s.frames)) ∷ []) can refl refl (one_taken _ _ _ needed.Value refl refl tt) refl in record { ready = a.ready; does = a.does }

pub op_C1 : (l : LinkedFile) (out : Outer) (s : State) → CanRun l out s (Plain 0xC1) → Does l out s (Plain 0xC1) 1 1 (computes_top 0xc1 (newest s.frames))
unfolding row_at table_of_rows act_of acts
op_C1 l out s can = let a = armed l out s (Plain 0xC1) _ _ 1 1 ((operand_at 0 (newest s.frames)) ∷ []) can refl refl (one_taken _ _ _ needed.Value refl refl tt) refl in record { ready = a.ready; does = a.does }

pub op_C4 : (l : LinkedFile) (out : Outer) (s : State) → CanRun l out s (Plain 0xC4) → Does l out s (Plain 0xC4) 1 1 (computes_top 0xc4 (newest s.frames))
unfolding row_at table_of_rows act_of acts
op_C4 l out s can = let a = armed l out s (Plain 0xC4) _ _ 1 1 ((operand_at 0 (newest s.frames)) ∷ []) can refl refl (one_taken _ _ _ needed.Value refl refl tt) refl in record { ready = a.ready; does = a.does }

pub op_A0 : (l : LinkedFile) (out : Outer) (s : State) → CanRun l out s (Plain 0xA0) → Does l out s (Plain 0xA0) 2 1 (computes_both (setting_in l out) 0xa0 (newest s.frames))
unfolding row_at table_of_rows act_of acts
op_A0 l out s can = let a = armed l out s (Plain 0xA0) _ _ 2 1 ((operand_at 0 (newest s.frames)) ∷ (operand_at 1 (newest s.frames)) ∷ []) can refl refl (two_taken _ _ _ needed.Value needed.Value refl refl tt tt) refl in record { ready = a.ready; does = a.does }

pub op_A1 : (l : LinkedFile) (out : Outer) (s : State) → CanRun l out s (Plain 0xA1) → Does l out s (Plain 0xA1) 2 1 (computes_both (setting_in l out) 0xa1 (newest s.frames))
unfolding row_at table_of_rows act_of acts
op_A1 l out s can = let a = armed l out s (Plain 0xA1) _ _ 2 1 ((operand_at 0 (newest s.frames)) ∷ (operand_at 1 (newest s.frames)) ∷ []) can refl refl (two_taken _ _ _ needed.Value needed.Value refl refl tt tt) refl in record { ready = a.ready; does = a.does }

pub op_A2 : (l : LinkedFile) (out : Outer) (s : State) → CanRun l out s (Plain 0xA2) → Does l out s (Plain 0xA2) 2 1 (computes_both (setting_in l out) 0xa2 (newest s.frames))
unfolding row_at table_of_rows act_of acts
op_A2 l out s can = let a = armed l out s (Plain 0xA2) _ _ 2 1 ((operand_at 0 (newest s.frames)) ∷ (operand_at 1 (newest s.frames)) ∷ []) can refl refl (two_taken _ _ _ needed.Value needed.Value refl refl tt tt) refl in record { ready = a.ready; does = a.does }

pub op_A3 : (l : LinkedFile) (out : Outer) (s : State) → CanRun l out s (Plain 0xA3) → Does l out s (Plain 0xA3) 2 1 (computes_both (setting_in l out) 0xa3 (newest s.frames))
unfolding row_at table_of_rows act_of acts
op_A3 l out s can = let a = armed l out s (Plain 0xA3) _ _ 2 1 ((operand_at 0 (newest s.frames)) ∷ (operand_at 1 (newest s.frames)) ∷ []) can refl refl (two_taken _ _ _ needed.Value needed.Value refl refl tt tt) refl in record { ready = a.ready; does = a.does }

pub op_A4 : (l : LinkedFile) (out : Outer) (s : State) → CanRun l out s (Plain 0xA4) → Does l out s (Plain 0xA4) 2 1 (computes_both (setting_in l out) 0xa4 (newest s.frames))
unfolding row_at table_of_rows act_of acts
op_A4 l out s can = let a = armed l out s (Plain 0xA4) _ _ 2 1 ((operand_at 0 (newest s.frames)) ∷ (operand_at 1 (newest s.frames)) ∷ []) can refl refl (two_taken _ _ _ needed.Value needed.Value refl refl tt tt) refl in record { ready = a.ready; does = a.does }

pub op_A5 : (l : LinkedFile) (out : Outer) (s : State) → CanRun l out s (Plain 0xA5) → Does l out s (Plain 0xA5) 2 1 (computes_both (setting_in l out) 0xa5 (newest s.frames))
unfolding row_at table_of_rows act_of acts
op_A5 l out s can = let a = armed l out s (Plain 0xA5) _ _ 2 1 ((operand_at 0 (newest s.frames)) ∷ (operand_at 1 (newest s.frames)) ∷ []) can refl refl (two_taken _ _ _ needed.Value needed.Value refl refl tt tt) refl in record { ready = a.ready; does = a.does }

pub op_A6 : (l : LinkedFile) (out : Outer) (s : State) → CanRun l out s (Plain 0xA6) → Does l out s (Plain 0xA6) 2 1 (computes_both (setting_in l out) 0xa6 (newest s.frames))
unfolding row_at table_of_rows act_of acts
op_A6 l out s can = let a = armed l out s (Plain 0xA6) _ _ 2 1 ((operand_at 0 (newest s.frames)) ∷ (operand_at 1 (newest s.frames)) ∷ []) can refl refl (two_taken _ _ _ needed.Value needed.Value refl refl tt tt) refl in record { ready = a.ready; does = a.does }

pub op_A7 : (l : LinkedFile) (out : Outer) (s : State) → CanRun l out s (Plain 0xA7) → Does l out s (Plain 0xA7) 2 1 (computes_both (setting_in l out) 0xa7 (newest s.frames))
unfolding row_at table_of_rows act_of acts
op_A7 l out s can = let a = armed l out s (Plain 0xA7) _ _ 2 1 ((operand_at 0 (newest s.frames)) ∷ (operand_at 1 (newest s.frames)) ∷ []) can refl refl (two_taken _ _ _ needed.Value needed.Value refl refl tt tt) refl in record { ready = a.ready; does = a.does }

pub op_A8 : (l : LinkedFile) (out : Outer) (s : State) → CanRun l out s (Plain 0xA8) → Does l out s (Plain 0xA8) 2 1 (computes_both (setting_in l out) 0xa8 (newest s.frames))
unfolding row_at table_of_rows act_of acts
op_A8 l out s can = let a = armed l out s (Plain 0xA8) _ _ 2 1 ((operand_at 0 (newest s.frames)) ∷ (operand_at 1 (newest s.frames)) ∷ []) can refl refl (two_taken _ _ _ needed.Value needed.Value refl refl tt tt) refl in record { ready = a.ready; does = a.does }

pub op_A9 : (l : LinkedFile) (out : Outer) (s : State) → CanRun l out s (Plain 0xA9) → Does l out s (Plain 0xA9) 2 1 (computes_both (setting_in l out) 0xa9 (newest s.frames))
unfolding row_at table_of_rows act_of acts
op_A9 l out s can = let a = armed l out s (Plain 0xA9) _ _ 2 1 ((operand_at 0 (newest s.frames)) ∷ (operand_at 1 (newest s.frames)) ∷ []) can refl refl (two_taken _ _ _ needed.Value needed.Value refl refl tt tt) refl in record { ready = a.ready; does = a.does }

pub op_AA : (l : LinkedFile) (out : Outer) (s : State) → CanRun l out s (Plain 0xAA) → Does l out s (Plain 0xAA) 2 1 (computes_both (setting_in l out) 0xaa (newest s.frames))
unfolding row_at table_of_rows act_of acts
op_AA l out s can = let a = armed l out s (Plain 0xAA) _ _ 2 1 ((operand_at 0 (newest s.frames)) ∷ (operand_at 1 (newest s.frames)) ∷ []) can refl refl (two_taken _ _ _ needed.Value needed.Value refl refl tt tt) refl in record { ready = a.ready; does = a.does }

pub op_C5 : (l : LinkedFile) (out : Outer) (s : State) → CanRun l out s (Plain 0xC5) → Does l out s (Plain 0xC5) 2 1 (computes_both (setting_in l out) 0xc5 (newest s.frames))
unfolding row_at table_of_rows act_of acts
op_C5 l out s can = let a = armed l out s (Plain 0xC5) _ _ 2 1 ((operand_at 0 (newest s.frames)) ∷ (operand_at 1 (newest s.frames)) ∷ []) can refl refl (two_taken _ _ _ needed.Value needed.Value refl refl tt tt) refl in record { ready = a.ready; does = a.does }

pub op_C6 : (l : LinkedFile) (out : Outer) (s : State) → CanRun l out s (Plain 0xC6) → Does l out s (Plain 0xC6) 2 1 (computes_both (setting_in l out) 0xc6 (newest s.frames))
unfolding row_at table_of_rows act_of acts
op_C6 l out s can = let a = armed l out s (Plain 0xC6) _ _ 2 1 ((operand_at 0 (newest s.frames)) ∷ (operand_at 1 (newest s.frames)) ∷ []) can refl refl (two_taken _ _ _ needed.Value needed.Value refl refl tt tt) refl in record { ready = a.ready; does = a.does }

pub op_C7 : (l : LinkedFile) (out : Outer) (s : State) → CanRun l out s (Plain 0xC7) → Does l out s (Plain 0xC7) 2 1 (computes_both (setting_in l out) 0xc7 (newest s.frames))
unfolding row_at table_of_rows act_of acts
op_C7 l out s can = let a = armed l out s (Plain 0xC7) _ _ 2 1 ((operand_at 0 (newest s.frames)) ∷ (operand_at 1 (newest s.frames)) ∷ []) can refl refl (two_taken _ _ _ needed.Value needed.Value refl refl tt tt) refl in record { ready = a.ready; does = a.does }

pub op_AB : (l : LinkedFile) (out : Outer) (s : State) → CanRun l out s (Plain 0xAB) → Does l out s (Plain 0xAB) 2 1 (pushes_test (setting_in l out) 0xab (newest s.frames))
unfolding row_at table_of_rows act_of acts
op_AB l out s can = let a = armed l out s (Plain 0xAB) _ _ 2 1 ((operand_at 0 (newest s.frames)) ∷ (operand_at 1 (newest s.frames)) ∷ []) can refl refl (two_taken _ _ _ needed.Value needed.Value refl refl tt tt) refl in record { ready = a.ready; does = a.does }

pub op_AC : (l : LinkedFile) (out : Outer) (s : State) → CanRun l out s (Plain 0xAC) → Does l out s (Plain 0xAC) 2 1 (pushes_test (setting_in l out) 0xac (newest s.frames))
unfolding row_at table_of_rows act_of acts
op_AC l out s can = let a = armed l out s (Plain 0xAC) _ _ 2 1 ((operand_at 0 (newest s.frames)) ∷ (operand_at 1 (newest s.frames)) ∷ []) can refl refl (two_taken _ _ _ needed.Value needed.Value refl refl tt tt) refl in record { ready = a.ready; does = a.does }

pub op_AD : (l : LinkedFile) (out : Outer) (s : State) → CanRun l out s (Plain 0xAD) → Does l out s (Plain 0xAD) 2 1 (pushes_test (setting_in l out) 0xad (newest s.frames))
unfolding row_at table_of_rows act_of acts
op_AD l out s can = let a = armed l out s (Plain 0xAD) _ _ 2 1 ((operand_at 0 (newest s.frames)) ∷ (operand_at 1 (newest s.frames)) ∷ []) can refl refl (two_taken _ _ _ needed.Value needed.Value refl refl tt tt) refl in record { ready = a.ready; does = a.does }

pub op_AE : (l : LinkedFile) (out : Outer) (s : State) → CanRun l out s (Plain 0xAE) → Does l out s (Plain 0xAE) 2 1 (pushes_test (setting_in l out) 0xae (newest s.frames))
unfolding row_at table_of_rows act_of acts
op_AE l out s can = let a = armed l out s (Plain 0xAE) _ _ 2 1 ((operand_at 0 (newest s.frames)) ∷ (operand_at 1 (newest s.frames)) ∷ []) can refl refl (two_taken _ _ _ needed.Value needed.Value refl refl tt tt) refl in record { ready = a.ready; does = a.does }

pub op_AF : (l : LinkedFile) (out : Outer) (s : State) → CanRun l out s (Plain 0xAF) → Does l out s (Plain 0xAF) 2 1 (pushes_test (setting_in l out) 0xaf (newest s.frames))
unfolding row_at table_of_rows act_of acts
op_AF l out s can = let a = armed l out s (Plain 0xAF) _ _ 2 1 ((operand_at 0 (newest s.frames)) ∷ (operand_at 1 (newest s.frames)) ∷ []) can refl refl (two_taken _ _ _ needed.Value needed.Value refl refl tt tt) refl in record { ready = a.ready; does = a.does }

pub op_B0 : (l : LinkedFile) (out : Outer) (s : State) → CanRun l out s (Plain 0xB0) → Does l out s (Plain 0xB0) 2 1 (pushes_test (setting_in l out) 0xb0 (newest s.frames))
unfolding row_at table_of_rows act_of acts
op_B0 l out s can = let a = armed l out s (Plain 0xB0) _ _ 2 1 ((operand_at 0 (newest s.frames)) ∷ (operand_at 1 (newest s.frames)) ∷ []) can refl refl (two_taken _ _ _ needed.Value needed.Value refl refl tt tt) refl in record { ready = a.ready; does = a.does }

-- What deleteproperty does.
use Rattle.std.proofs.Common.{◌+◌, [], ◌∷◌, refl, arith, ℕ, ◌≡◌}
use Rattle.abc_run_names.specs.Deleted.{deletes_named}
use Rattle.abc_run_names.specs.Named.{name_form_at, name_parts_count, parts_for}
use Rattle.abc_run_values.proofs.Doing.{Does}
use Rattle.abc_run_values.specs.Ready.{CanRun}
use Rattle.abc_link_names.specs.Linked.{LinkedFile}
use Rattle.abc_verify_typing.specs.Rows.{row_at, table_of_rows}
use Rattle.abc_verify_typing.specs.declared.row.Need.TheVariants.{Value as OneValue}
use Rattle.abc_frames.specs.Frame.{newest}
use Rattle.abc_meaning.specs.Table.{act_of, acts}
use Rattle.abc_run_state.specs.Operands.{operand_at}
use Rattle.abc_run_state.specs.Outer.{Outer, setting_in}
use Rattle.abc_run_state.specs.declared.state.State.{State}
use Rattle.abc_file_types.specs.declared.code.Instr.TheVariants.{One}
use Rattle.abc_run_dispatch.proofs.DeletedTaken.{taken}
use Rattle.abc_run_dispatch.proofs.Takes.{named_taken, no_arguments}

pub op_6A : (l : LinkedFile) (out : Outer) (s : State) (n : ℕ) → CanRun l out s (One 0x6A n) → Does l out s (One 0x6A n) (name_parts_count (name_form_at (setting_in l out) n) + 1) 1 (deletes_named (setting_in l out) n (newest s.frames))
unfolding row_at table_of_rows act_of acts
op_6A l out s n can =
    let p = setting_in l out in
    let f = newest s.frames in
    let j = name_parts_count (name_form_at p n) in
    let sum : 0 + j ≡ j = omega arith in
    let a = taken l out s (One 0x6A n) _ _ 0 (j + 1) 1 (operand_at j f ∷ []) (parts_for (name_form_at p n) 0 f) can refl refl (no_arguments n) (named_taken p _ 0 j (j + 1) n f OneValue refl refl tt sum refl) refl in
    record { ready = a.ready; does = a.does }

use Rattle.std.proofs.Common.{◌≡◌, false, true, refl, sym, ap}
use Rattle.std.specs.Prelude.{is_some}
use Rattle.std.specs.declared.option.Option.{Option}
use Rattle.abc_file_types.specs.Instructions.{opcode_part}
use Rattle.abc_file_types.specs.Opcodes.{form_at, form_in, is_opcode}
use Rattle.abc_file_types.specs.declared.opcodes.OpInfo.{OpInfo}
use Rattle.abc_varint.specs.Reads.{known_input}
use Rattle.abc_varint.proofs.Inputs.{known_is}
use Rattle.abc_instr.proofs.raw.read_opcode.Goals as goal

pub returns-in-None-clause-value : goal.returns-in-None-clause-value
unfolding opcode_part form_at
returns-in-None-clause-value g c =
    let v = c.in_ok-op.ensures.value.0 in
    let w = c.read_u8.new.w in
    let s = g.S.Source.left c.read_u8.new.source in
    let no : is_opcode true c.in_ok-op.op ≡ false = ap (λ (o : Option OpInfo). is_some (form_in o)) (sym c.in-None.ensures) in (
      (λ k. let h = v.0.4 (known_input w s) (known_is w s) in (h.0, rw (h.1, no, c.place-place.ensures.is) refl)),
      (λ e h. absurd (let k = v.0.0 in cc)),
      v.2,
      (λ k h. absurd cc),
      (v.0.1, v.0.3),
    )

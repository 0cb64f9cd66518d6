use Rattle.std.proofs.Common.{◌∙◌, ap, sym}
use Rattle.abc_verify_states.specs.Frames.{routine_of_frame}
use Rattle.abc_verify_typing.specs.Rows.{row_at}
use Rattle.abc_verify_typing.specs.Table.{shape_of}
use Rattle.abc_verify_typing.specs.Effects.{Here}
use Rattle.abc_verify.proofs.Stepping.{tried}
use Rattle.abc_verify.proofs.step.advance_in.Goals as goal

pub returns-in_ok-trial-in-Some : goal.returns-in_ok-trial-in-Some
returns-in_ok-trial-in-Some c =
    let h : Here = record { file = c.args.linked.now; method = routine_of_frame c.args.frame.now; place = c.args.place; instr = c.args.instr.now; row = shape_of c.in-Some.row } in
    let ok = c.in_ok-trial-in-Some in
    tried h c.args.state.now c.advance.new.state ok.trial c.requires.here (ap row_at (sym c.opcode_of.ensures) ∙ sym c.in-Some.ensures) ok.ensures

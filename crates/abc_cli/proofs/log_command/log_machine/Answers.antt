use Rattle.std.proofs.Common.{◌≡◌, ◌∙◌, [], subst, sym}
use Rattle.std.specs.Prelude.{IsSome}
use Rattle.std.specs.Io.KnownBytes.{append_known}
use Rattle.abc_cli_answers.specs.End.{GivesLine, stream}
use Rattle.abc_cli.specs.Endings.{IsPlacedEnd, end_answer}
use Rattle.abc_cli_answers.specs.Lines.{write_fault_text}
use Rattle.abc_cli.specs.Logs.{front}
use Rattle.abc_session.proofs.Pieces.{nothing}
use Rattle.abc_cli.proofs.Logging.{front_failed, logged_ends, logged_placed}
use Rattle.abc_meaning.specs.Logs.{log}
use Rattle.abc_meaning.specs.Meaning.{meaning}
use Rattle.abc_link_names.specs.Linked.{LinkedFile}
use Rattle.abc_meaning.specs.Setting.{Setting}
use Rattle.abc_cli.proofs.log_command.log_machine.Goals as goal

pub give_end-requires : goal.give_end-requires
give_end-requires g c =
    let l = c.args.machine.now.linked in
    let p : Setting = record { linked = l; formulas = g.H.Host.formulas c.args.host.now } in
    let f = c.args.front.now in
    let same = c.linked.ensures ∙ c.run_in_blocks-end.ensures.linked in
    let placed = logged_placed l.file c.args.places.now (log p c.args.machine.now.limits f.fuel) (meaning p c.args.machine.now.limits f.fuel) _ _ c.run_in_blocks-end.result c.requires.places
    c.end_can_be_told.ensures.placed c.run_in_blocks-end.ensures.logs in
    subst (λ (x : LinkedFile). IsPlacedEnd x.file c.args.places.now c.run_in_blocks-end.result) (sym same) placed

pub returns-in-Ok : goal.returns-in-Ok
returns-in-Ok g c =
    let l = c.args.machine.now.linked in
    let p : Setting = record { linked = l; formulas = g.H.Host.formulas c.args.host.now } in
    let f = c.args.front.now in
    let same = c.linked.ensures ∙ c.run_in_blocks-end.ensures.linked in
    let err = stream g.E.Sink.written g.E.Sink.faults c.args.err.now c.give_end.new.err in
    let line = subst (λ (x : LinkedFile). GivesLine err (end_answer x.file c.args.places.now c.run_in_blocks-end.result) c.give_end.result) same c.give_end.ensures.line in
    logged_ends l.file c.args.places.now (front f.file.items f.fuel f.limits) (log p c.args.machine.now.limits f.fuel) (meaning p c.args.machine.now.limits f.fuel)
    (g.K.Sink.written c.args.out.now) (g.K.Sink.written c.write_front.new.out) (g.K.Sink.written c.run_in_blocks-end.new.out)
    (g.K.Sink.faults c.args.out.now) (g.K.Sink.faults c.write_front.new.out) (g.K.Sink.faults c.run_in_blocks-end.new.out) err c.run_in_blocks-end.result c.give_end.result
    c.end_can_be_told.ensures.unstuck c.in-Ok.ensures.bytes c.in-Ok.ensures.cause.later c.run_in_blocks-end.ensures.logs c.run_in_blocks-end.ensures.cause line
    (λ h. let d = c.give_end.ensures.done h in
    (d.0, subst (λ x. IsSome (g.E.Sink.written c.args.err.now) → g.E.Sink.written x ≡ append_known (g.E.Sink.written c.args.err.now) []) (sym d.1) (nothing (g.E.Sink.written c.args.err.now))))

pub returns-in-Err : goal.returns-in-Err
unfolding write_fault_text
returns-in-Err g c =
    let l = c.args.machine.now.linked in
    let p : Setting = record { linked = l; formulas = g.H.Host.formulas c.args.host.now } in
    let f = c.args.front.now in
    front_failed l.file c.args.places.now (front f.file.items f.fuel f.limits) (log p c.args.machine.now.limits f.fuel) (meaning p c.args.machine.now.limits f.fuel)
    (stream g.K.Sink.written g.K.Sink.faults c.args.out.now c.write_front.new.out) (stream g.E.Sink.written g.E.Sink.faults c.args.err.now c.give_line.new.err) c.give_line.result
    c.end_can_be_told.ensures.unstuck c.in-Err.ensures.cause.failed c.in-Err.ensures.bytes c.give_line.ensures

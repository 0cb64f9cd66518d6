use Rattle.std.proofs.Common.{◌≡◌, ◌∙◌, [], subst, sym}
use Rattle.std.specs.Prelude.{IsSome}
use Rattle.std.specs.Io.KnownBytes.{append_known}
use Rattle.abc_cli_answers.specs.End.{GivesLine, stream}
use Rattle.abc_cli.specs.Endings.{IsPlacedEnd, end_answer}
use Rattle.abc_session.proofs.Pieces.{nothing}
use Rattle.abc_cli.proofs.EndedRuns.{run_ends, run_placed, run_quiet}
use Rattle.abc_meaning.specs.Meaning.{meaning}
use Rattle.abc_link_names.specs.Linked.{LinkedFile}
use Rattle.abc_meaning.specs.Setting.{Setting}
use Rattle.abc_cli.proofs.run_command.run_machine.Goals as goal

pub run-end-requires : goal.run-end-requires
run-end-requires g c = λ begun. c.requires.names

pub give_end-requires : goal.give_end-requires
give_end-requires g c =
    let l = c.args.machine.now.linked in
    let p : Setting = record { linked = l; formulas = g.H.Host.formulas c.args.host.now } in
    let same = c.linked.ensures ∙ c.run-end.ensures.keeps.linked in
    let placed = run_placed l.file c.args.places.now (meaning p c.args.machine.now.limits c.args.fuel) _ _ c.run-end.result c.requires.places
    c.end_can_be_told.ensures.placed (c.run-end.ensures.ends c.requires.begun) in
    subst (λ (x : LinkedFile). IsPlacedEnd x.file c.args.places.now c.run-end.result) (sym same) placed

pub returns-clause-end : goal.returns-clause-end
returns-clause-end g c =
    let l = c.args.machine.now.linked in
    let p : Setting = record { linked = l; formulas = g.H.Host.formulas c.args.host.now } in
    let same = c.linked.ensures ∙ c.run-end.ensures.keeps.linked in
    let err = stream g.E.Sink.written g.E.Sink.faults c.args.err.now c.give_end.new.err in
    let line = subst (λ (x : LinkedFile). GivesLine err (end_answer x.file c.args.places.now c.run-end.result) c.give_end.result) same c.give_end.ensures.line in
    run_ends l.file c.args.places.now (meaning p c.args.machine.now.limits c.args.fuel) (g.K.Sink.written c.args.out.now) (g.K.Sink.written c.run-end.new.out) (g.K.Sink.faults c.args.out.now) (g.K.Sink.faults c.run-end.new.out) err
    c.run-end.result c.give_end.result
    c.end_can_be_told.ensures.unstuck
    (c.run-end.ensures.ends c.requires.begun) (c.run-end.ensures.cause c.requires.begun) line
    (λ h. let d = c.give_end.ensures.done h in
    (d.0, subst (λ x. IsSome (g.E.Sink.written c.args.err.now) → g.E.Sink.written x ≡ append_known (g.E.Sink.written c.args.err.now) []) (sym d.1) (nothing (g.E.Sink.written c.args.err.now))))

pub returns-clause-quiet : goal.returns-clause-quiet
returns-clause-quiet g c = λ d.
    let same = c.linked.ensures ∙ c.run-end.ensures.keeps.linked in
    let err = stream g.E.Sink.written g.E.Sink.faults c.args.err.now c.give_end.new.err in
    let line = subst (λ (x : LinkedFile). GivesLine err (end_answer x.file c.args.places.now c.run-end.result) c.give_end.result) same c.give_end.ensures.line in
    (c.give_end.ensures.done (run_quiet c.args.machine.now.linked.file c.args.places.now err c.run-end.result c.give_end.result line d)).1

pub returns-clause-later : goal.returns-clause-later
returns-clause-later g c = (c.run-end.ensures.cause c.requires.begun).later

use Rattle.std.proofs.Common.{◌≡◌, ◌∙◌, [], subst, sym}
use Rattle.std.specs.Prelude.{IsSome}
use Rattle.std.specs.Io.KnownBytes.{append_known}
use Rattle.abc_meaning.specs.Setting.{Setting}
use Rattle.abc_link_names.specs.Linked.{LinkedFile}
use Rattle.abc_session.specs.Ticks.{calls_meaning}
use Rattle.abc_cli_answers.specs.End.{GivesLine, stream}
use Rattle.abc_cli.specs.Endings.{IsPlacedEnd, end_answer}
use Rattle.abc_session.proofs.Pieces.{nothing}
use Rattle.abc_cli.proofs.EndedRuns.{run_ends, run_placed}
use Rattle.abc_cli.proofs.calls_command.call_method.Goals as goal

pub give_end-requires : goal.give_end-requires
give_end-requires g c =
    let l = c.args.session.now.linked in
    let p : Setting = record { linked = l; formulas = g.H.Host.formulas c.args.host.now } in
    let same = c.linked.ensures ∙ c.run_and_call-end.ensures.linked in
    let placed = run_placed l.file c.args.places.now (calls_meaning p c.args.session.now.limits c.args.options.now.run.fuel c.args.options.now.times c.args.method) _ _ c.run_and_call-end.result c.requires.places
    c.calls_end_can_be_told.ensures.placed c.run_and_call-end.ensures.runs in
    subst (λ (x : LinkedFile). IsPlacedEnd x.file c.args.places.now c.run_and_call-end.result) (sym same) placed

pub returns : goal.returns
returns g c =
    let l = c.args.session.now.linked in
    let p : Setting = record { linked = l; formulas = g.H.Host.formulas c.args.host.now } in
    let same = c.linked.ensures ∙ c.run_and_call-end.ensures.linked in
    let err = stream g.E.Sink.written g.E.Sink.faults c.args.err.now c.give_end.new.err in
    let line = subst (λ (x : LinkedFile). GivesLine err (end_answer x.file c.args.places.now c.run_and_call-end.result) c.give_end.result) same c.give_end.ensures.line in
    run_ends l.file c.args.places.now (calls_meaning p c.args.session.now.limits c.args.options.now.run.fuel c.args.options.now.times c.args.method) (g.K.Sink.written c.args.out.now) (g.K.Sink.written c.run_and_call-end.new.out)
    (g.K.Sink.faults c.args.out.now) (g.K.Sink.faults c.run_and_call-end.new.out) err c.run_and_call-end.result c.give_end.result c.calls_end_can_be_told.ensures.unstuck c.run_and_call-end.ensures.runs c.run_and_call-end.ensures.cause line
    (λ h. let d = c.give_end.ensures.done h in
    (d.0, subst (λ x. IsSome (g.E.Sink.written c.args.err.now) → g.E.Sink.written x ≡ append_known (g.E.Sink.written c.args.err.now) []) (sym d.1) (nothing (g.E.Sink.written c.args.err.now))))

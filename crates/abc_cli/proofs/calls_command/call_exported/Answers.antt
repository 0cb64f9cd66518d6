use Rattle.std.proofs.Common.{◌∙◌, sym}
use Rattle.abc_meaning.specs.Setting.{Setting}
use Rattle.abc_cli_answers.specs.End.{stream}
use Rattle.abc_cli.proofs.Called.{called_runs, unexported_runs}
use Rattle.abc_session.proofs.Pieces.{nothing}
use Rattle.abc_cli.proofs.calls_command.call_exported.Goals as goal

pub returns-in-Some : goal.returns-in-Some
returns-in-Some g c =
    let fs = g.H.Host.formulas c.args.host.now in
    let p : Setting = record { linked = c.args.session.now.linked; formulas = fs } in
    called_runs c.args.options.now p c.args.session.now.limits c.args.places.now c.in-Some.method (stream g.K.Sink.written g.K.Sink.faults c.args.out.now c.call_method.new.out) (stream g.E.Sink.written g.E.Sink.faults c.args.err.now c.call_method.new.err)
    c.call_method.result c.requires.limits c.requires.opened.fits (sym (c.export.ensures.export fs) ∙ c.in-Some.is) c.call_method.ensures

pub returns-in-None : goal.returns-in-None
returns-in-None g c =
    let fs = g.H.Host.formulas c.args.host.now in
    let p : Setting = record { linked = c.args.session.now.linked; formulas = fs } in
    unexported_runs c.args.options.now p c.args.session.now.limits c.args.places.now (stream g.K.Sink.written g.K.Sink.faults c.args.out.now c.args.out.now) (stream g.E.Sink.written g.E.Sink.faults c.args.err.now c.give_no_export.new.err)
    c.give_no_export.result c.requires.limits c.requires.opened.fits (sym (c.export.ensures.export fs) ∙ c.in-None.is) (nothing (g.K.Sink.written c.args.out.now)) c.give_no_export.ensures

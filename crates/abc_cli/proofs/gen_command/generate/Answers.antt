use Rattle.abc_cli_answers.specs.End.{stream}
use Rattle.abc_cli.specs.Runs.{Gen}
use Rattle.abc_session.proofs.Pieces.{nothing}
use Rattle.abc_cli_answers.proofs.Ending.{memory_failed}
use Rattle.abc_cli.proofs.gen_command.generate.Goals as goal

pub returns-in-Err : goal.returns-in-Err
returns-in-Err g c =
    memory_failed (Gen c.args.options.now (g.H.Host.formulas c.args.host.now)) ⊥ (stream g.K.Sink.written g.K.Sink.faults c.args.out.now c.args.out.now) (stream g.E.Sink.written g.E.Sink.faults c.args.err.now c.give_stop.new.err) c.give_stop.result
    (nothing (g.K.Sink.written c.args.out.now)) c.give_stop.ensures

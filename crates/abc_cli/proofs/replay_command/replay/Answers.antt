use Rattle.abc_cli_answers.specs.End.{stream}
use Rattle.abc_session.proofs.Pieces.{nothing}
use Rattle.abc_cli.proofs.Accepting.{steps_end, unreplayed_ends, unreplayed_unread}
use Rattle.abc_cli.proofs.replay_command.replay.Goals as goal

pub returns-in-Ok-clause-end : goal.returns-in-Ok-clause-end
returns-in-Ok-clause-end g c =
    steps_end (g.H.Host.formulas c.args.host.now) (stream g.S.Source.left g.S.Source.faults c.args.source.now c.replay.new.source) (stream g.K.Sink.written g.K.Sink.faults c.args.out.now c.give_replayed.new.out)
    (stream g.E.Sink.written g.E.Sink.faults c.args.err.now c.give_replayed.new.err) c.give_replayed.result c.in-Ok.steps c.in-Ok.ensures.replayed c.in-Ok.ensures.end c.give_replayed.ensures

pub returns-in-Ok-clause-used_up : goal.returns-in-Ok-clause-used_up
returns-in-Ok-clause-used_up g c = λ read. c.in-Ok.ensures.end

pub returns-in-Err-clause-end : goal.returns-in-Err-clause-end
returns-in-Err-clause-end g c =
    unreplayed_ends (g.H.Host.formulas c.args.host.now) (stream g.S.Source.left g.S.Source.faults c.args.source.now c.replay.new.source) (stream g.K.Sink.written g.K.Sink.faults c.args.out.now c.args.out.now)
    (stream g.E.Sink.written g.E.Sink.faults c.args.err.now c.give_unreplayed.new.err) c.give_unreplayed.result c.in-Err.e c.in-Err.ensures.refused (λ h. c.in-Err.ensures.cause cc) (nothing (g.K.Sink.written c.args.out.now)) c.give_unreplayed.ensures

pub returns-in-Err-clause-used_up : goal.returns-in-Err-clause-used_up
returns-in-Err-clause-used_up g c =
    unreplayed_unread (g.H.Host.formulas c.args.host.now) (stream g.S.Source.left g.S.Source.faults c.args.source.now c.replay.new.source) (stream g.K.Sink.written g.K.Sink.faults c.args.out.now c.args.out.now)
    (stream g.E.Sink.written g.E.Sink.faults c.args.err.now c.give_unreplayed.new.err) c.give_unreplayed.result c.in-Err.e c.give_unreplayed.ensures

pub returns-in-Ok-clause-taken : goal.returns-in-Ok-clause-taken
returns-in-Ok-clause-taken g c = c.in-Ok.ensures.taken

pub returns-in-Err-clause-taken : goal.returns-in-Err-clause-taken
returns-in-Err-clause-taken g c = c.in-Err.ensures.taken

use Rattle.std.proofs.Common.{subst, sym}
use Rattle.abc_cli_answers.specs.End.{stream}
use Rattle.abc_cli.specs.Logs.{GivesUnopened, front}
use Rattle.abc_cli_answers.specs.Lines.{no_memory_text}
use Rattle.abc_objects.specs.declared.error.OpenError.{OpenError}
use Rattle.abc_session.proofs.Pieces.{nothing}
use Rattle.abc_cli.proofs.log_command.log_unopened.Goals as goal

pub returns-in-TooSmall : goal.returns-in-TooSmall
returns-in-TooSmall g c =
    let f = c.args.front.now in
    let out = stream g.K.Sink.written g.K.Sink.faults c.args.out.now c.log_unbegun.new.out in
    let err = stream g.E.Sink.written g.E.Sink.faults c.args.err.now c.log_unbegun.new.err in
    subst (λ (e : OpenError). GivesUnopened out err (front f.file.items f.fuel f.limits) e c.log_unbegun.result) (sym c.in-TooSmall.is) c.log_unbegun.ensures

pub returns-in-NoMemory : goal.returns-in-NoMemory
unfolding no_memory_text
returns-in-NoMemory g c =
    let f = c.args.front.now in
    let out = stream g.K.Sink.written g.K.Sink.faults c.args.out.now c.args.out.now in
    let err = stream g.E.Sink.written g.E.Sink.faults c.args.err.now c.give_line.new.err in
    subst (λ (e : OpenError). GivesUnopened out err (front f.file.items f.fuel f.limits) e c.give_line.result) (sym c.in-NoMemory.is) (nothing (g.K.Sink.written c.args.out.now), c.give_line.ensures)

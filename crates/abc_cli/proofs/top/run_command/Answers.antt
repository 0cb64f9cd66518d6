use Rattle.std.proofs.Common.{◌+◌, ◌^◌, refl, subst, sym}
use Rattle.abc_cli_answers.specs.declared.command.Command.{Command}
use Rattle.abc_cli_answers.specs.declared.command.Command.TheVariants as commands
use Rattle.abc_cli_answers.specs.End.{Ends, stream}
use Rattle.abc_cli.specs.Outcome.{CommandOutcome, OutcomeOf}
use Rattle.abc_log.specs.Lines.{AreLimits}
use Rattle.abc_cli.specs.Meant.{limits_of}
use Rattle.abc_cli_answers.specs.declared.command.RunOptions.{RunOptions}
use Rattle.abc_cli_answers.proofs.Ending.{finished_used_up}
use Rattle.abc_cli.proofs.Usages.{calls_ends, command_ends, gen_ends, log_ends, other_command, reading, run_ends, same_options, takes_as, takes_none, unreading}
use Rattle.abc_cli.proofs.top.run_command.Goals as goal

pub returns-in-Canon-clause-end : goal.returns-in-Canon-clause-end
returns-in-Canon-clause-end g c =
    command_ends (g.H.Host.formulas c.args.host.now) c.args.command.now commands.Canon (stream g.S.Source.left g.S.Source.faults c.args.source.now c.canon.new.source) (stream g.K.Sink.written g.K.Sink.faults c.args.out.now c.give.new.out)
    (stream g.E.Sink.written g.E.Sink.faults c.args.err.now c.give.new.err) c.canon.result c.give.result c.in-Canon.is c.canon.ensures.gives c.canon.ensures.stops c.give.ensures

pub returns-in-Dis-clause-end : goal.returns-in-Dis-clause-end
returns-in-Dis-clause-end g c =
    command_ends (g.H.Host.formulas c.args.host.now) c.args.command.now commands.Dis (stream g.S.Source.left g.S.Source.faults c.args.source.now c.dis.new.source) (stream g.K.Sink.written g.K.Sink.faults c.args.out.now c.give-in-Dis.new.out)
    (stream g.E.Sink.written g.E.Sink.faults c.args.err.now c.give-in-Dis.new.err) c.dis.result c.give-in-Dis.result c.in-Dis.is c.dis.ensures.gives c.dis.ensures.stops c.give-in-Dis.ensures

pub returns-in-Check-clause-end : goal.returns-in-Check-clause-end
returns-in-Check-clause-end g c =
    command_ends (g.H.Host.formulas c.args.host.now) c.args.command.now commands.Check (stream g.S.Source.left g.S.Source.faults c.args.source.now c.check.new.source) (stream g.K.Sink.written g.K.Sink.faults c.args.out.now c.give-in-Check.new.out)
    (stream g.E.Sink.written g.E.Sink.faults c.args.err.now c.give-in-Check.new.err) c.check.result c.give-in-Check.result c.in-Check.is c.check.ensures.gives c.check.ensures.stops c.give-in-Check.ensures

pub returns-in-Tidy-clause-end : goal.returns-in-Tidy-clause-end
returns-in-Tidy-clause-end g c =
    command_ends (g.H.Host.formulas c.args.host.now) c.args.command.now commands.Tidy (stream g.S.Source.left g.S.Source.faults c.args.source.now c.tidy.new.source) (stream g.K.Sink.written g.K.Sink.faults c.args.out.now c.give-in-Tidy.new.out)
    (stream g.E.Sink.written g.E.Sink.faults c.args.err.now c.give-in-Tidy.new.err) c.tidy.result c.give-in-Tidy.result c.in-Tidy.is c.tidy.ensures.gives c.tidy.ensures.stops c.give-in-Tidy.ensures

pub returns-in-Asm-clause-end : goal.returns-in-Asm-clause-end
returns-in-Asm-clause-end g c =
    command_ends (g.H.Host.formulas c.args.host.now) c.args.command.now commands.Asm (stream g.S.Source.left g.S.Source.faults c.args.source.now c.asm.new.source) (stream g.K.Sink.written g.K.Sink.faults c.args.out.now c.give-in-Asm.new.out)
    (stream g.E.Sink.written g.E.Sink.faults c.args.err.now c.give-in-Asm.new.err) c.asm.result c.give-in-Asm.result c.in-Asm.is c.asm.ensures.gives c.asm.ensures.stops c.give-in-Asm.ensures

pub returns-in-Run-clause-end : goal.returns-in-Run-clause-end
returns-in-Run-clause-end g c =
    run_ends (g.H.Host.formulas c.args.host.now) c.args.command.now c.in-Run.options (stream g.S.Source.left g.S.Source.faults c.args.source.now c.run.new.source) (stream g.K.Sink.written g.K.Sink.faults c.args.out.now c.run.new.out)
    (stream g.E.Sink.written g.E.Sink.faults c.args.err.now c.run.new.err) c.run.result c.in-Run.is c.run.ensures.end

pub returns-in-Gen-clause-end : goal.returns-in-Gen-clause-end
returns-in-Gen-clause-end g c =
    gen_ends (g.H.Host.formulas c.args.host.now) c.args.command.now c.in-Gen.options (stream g.S.Source.left g.S.Source.faults c.args.source.now c.args.source.now) (stream g.K.Sink.written g.K.Sink.faults c.args.out.now c.generate.new.out)
    (stream g.E.Sink.written g.E.Sink.faults c.args.err.now c.generate.new.err) c.generate.result c.in-Gen.is c.generate.ensures

pub returns-in-Canon-clause-used_up : goal.returns-in-Canon-clause-used_up
returns-in-Canon-clause-used_up g c = λ reads.
    finished_used_up (OutcomeOf (g.H.Host.formulas c.args.host.now) commands.Canon) (stream g.S.Source.left g.S.Source.faults c.args.source.now c.canon.new.source) (stream g.K.Sink.written g.K.Sink.faults c.args.out.now c.give.new.out)
    (stream g.E.Sink.written g.E.Sink.faults c.args.err.now c.give.new.err) c.canon.result c.give.result c.canon.ensures.gives c.give.ensures

pub returns-in-Canon-clause-unread : goal.returns-in-Canon-clause-unread
returns-in-Canon-clause-unread g c = λ silent. absurd (reading c.args.command.now commands.Canon c.in-Canon.is refl silent)

pub returns-in-Dis-clause-used_up : goal.returns-in-Dis-clause-used_up
returns-in-Dis-clause-used_up g c = λ reads.
    finished_used_up (OutcomeOf (g.H.Host.formulas c.args.host.now) commands.Dis) (stream g.S.Source.left g.S.Source.faults c.args.source.now c.dis.new.source) (stream g.K.Sink.written g.K.Sink.faults c.args.out.now c.give-in-Dis.new.out)
    (stream g.E.Sink.written g.E.Sink.faults c.args.err.now c.give-in-Dis.new.err) c.dis.result c.give-in-Dis.result c.dis.ensures.gives c.give-in-Dis.ensures

pub returns-in-Dis-clause-unread : goal.returns-in-Dis-clause-unread
returns-in-Dis-clause-unread g c = λ silent. absurd (reading c.args.command.now commands.Dis c.in-Dis.is refl silent)

pub returns-in-Check-clause-used_up : goal.returns-in-Check-clause-used_up
returns-in-Check-clause-used_up g c = λ reads.
    finished_used_up (OutcomeOf (g.H.Host.formulas c.args.host.now) commands.Check) (stream g.S.Source.left g.S.Source.faults c.args.source.now c.check.new.source) (stream g.K.Sink.written g.K.Sink.faults c.args.out.now c.give-in-Check.new.out)
    (stream g.E.Sink.written g.E.Sink.faults c.args.err.now c.give-in-Check.new.err) c.check.result c.give-in-Check.result c.check.ensures.gives c.give-in-Check.ensures

pub returns-in-Check-clause-unread : goal.returns-in-Check-clause-unread
returns-in-Check-clause-unread g c = λ silent. absurd (reading c.args.command.now commands.Check c.in-Check.is refl silent)

pub returns-in-Tidy-clause-used_up : goal.returns-in-Tidy-clause-used_up
returns-in-Tidy-clause-used_up g c = λ reads.
    finished_used_up (OutcomeOf (g.H.Host.formulas c.args.host.now) commands.Tidy) (stream g.S.Source.left g.S.Source.faults c.args.source.now c.tidy.new.source) (stream g.K.Sink.written g.K.Sink.faults c.args.out.now c.give-in-Tidy.new.out)
    (stream g.E.Sink.written g.E.Sink.faults c.args.err.now c.give-in-Tidy.new.err) c.tidy.result c.give-in-Tidy.result c.tidy.ensures.gives c.give-in-Tidy.ensures

pub returns-in-Tidy-clause-unread : goal.returns-in-Tidy-clause-unread
returns-in-Tidy-clause-unread g c = λ silent. absurd (reading c.args.command.now commands.Tidy c.in-Tidy.is refl silent)

pub returns-in-Asm-clause-used_up : goal.returns-in-Asm-clause-used_up
returns-in-Asm-clause-used_up g c = λ reads.
    finished_used_up (OutcomeOf (g.H.Host.formulas c.args.host.now) commands.Asm) (stream g.S.Source.left g.S.Source.faults c.args.source.now c.asm.new.source) (stream g.K.Sink.written g.K.Sink.faults c.args.out.now c.give-in-Asm.new.out)
    (stream g.E.Sink.written g.E.Sink.faults c.args.err.now c.give-in-Asm.new.err) c.asm.result c.give-in-Asm.result c.asm.ensures.gives c.give-in-Asm.ensures

pub returns-in-Asm-clause-unread : goal.returns-in-Asm-clause-unread
returns-in-Asm-clause-unread g c = λ silent. absurd (reading c.args.command.now commands.Asm c.in-Asm.is refl silent)

pub returns-in-Run-clause-used_up : goal.returns-in-Run-clause-used_up
returns-in-Run-clause-used_up g c = λ reads. c.run.ensures.used_up

pub returns-in-Run-clause-unread : goal.returns-in-Run-clause-unread
returns-in-Run-clause-unread g c = λ silent. absurd (reading c.args.command.now (commands.Run c.in-Run.options) c.in-Run.is refl silent)

pub returns-in-Gen-clause-used_up : goal.returns-in-Gen-clause-used_up
returns-in-Gen-clause-used_up g c = λ reads. absurd (unreading c.args.command.now (commands.Gen c.in-Gen.options) c.in-Gen.is refl reads)

pub returns-in-Gen-clause-unread : goal.returns-in-Gen-clause-unread
returns-in-Gen-clause-unread g c = λ silent. refl

pub returns-in-Calls-clause-end : goal.returns-in-Calls-clause-end
returns-in-Calls-clause-end g c =
    calls_ends (g.H.Host.formulas c.args.host.now) c.args.command.now c.in-Calls.options (stream g.S.Source.left g.S.Source.faults c.args.source.now c.calls.new.source) (stream g.K.Sink.written g.K.Sink.faults c.args.out.now c.calls.new.out)
    (stream g.E.Sink.written g.E.Sink.faults c.args.err.now c.calls.new.err) c.calls.result c.in-Calls.is c.calls.ensures.end

pub returns-in-Calls-clause-used_up : goal.returns-in-Calls-clause-used_up
returns-in-Calls-clause-used_up g c = λ reads. c.calls.ensures.used_up

pub returns-in-Calls-clause-unread : goal.returns-in-Calls-clause-unread
returns-in-Calls-clause-unread g c = λ silent. absurd (reading c.args.command.now (commands.Calls c.in-Calls.options) c.in-Calls.is refl silent)

pub returns-in-Log-clause-end : goal.returns-in-Log-clause-end
returns-in-Log-clause-end g c =
    log_ends (g.H.Host.formulas c.args.host.now) c.args.command.now c.in-Log.options (stream g.S.Source.left g.S.Source.faults c.args.source.now c.log.new.source) (stream g.K.Sink.written g.K.Sink.faults c.args.out.now c.log.new.out)
    (stream g.E.Sink.written g.E.Sink.faults c.args.err.now c.log.new.err) c.log.result c.in-Log.is c.log.ensures.end

pub returns-in-Log-clause-used_up : goal.returns-in-Log-clause-used_up
returns-in-Log-clause-used_up g c = λ reads. c.log.ensures.used_up

pub returns-in-Log-clause-unread : goal.returns-in-Log-clause-unread
returns-in-Log-clause-unread g c = λ silent. absurd (reading c.args.command.now (commands.Log c.in-Log.options) c.in-Log.is refl silent)

pub returns-in-Log-clause-logged : goal.returns-in-Log-clause-logged
returns-in-Log-clause-logged g c = λ o e within read.
    let same = same_options c.args.command.now c.in-Log.options o c.in-Log.is e in
    c.log.ensures.logged (subst (λ (x : RunOptions). AreLimits x.fuel (limits_of x)) (sym same) within) read

pub returns-in-Replay-clause-end : goal.returns-in-Replay-clause-end
returns-in-Replay-clause-end g c =
    let source = stream g.S.Source.left g.S.Source.faults c.args.source.now c.replay.new.source in
    let out = stream g.K.Sink.written g.K.Sink.faults c.args.out.now c.replay.new.out in
    let err = stream g.E.Sink.written g.E.Sink.faults c.args.err.now c.replay.new.err in
    subst (λ (d : Command). Ends (CommandOutcome (g.H.Host.formulas c.args.host.now) d) source out err c.replay.result) (sym c.in-Replay.is) c.replay.ensures.end

pub returns-in-Replay-clause-used_up : goal.returns-in-Replay-clause-used_up
returns-in-Replay-clause-used_up g c = λ reads. c.replay.ensures.used_up

pub returns-in-Replay-clause-unread : goal.returns-in-Replay-clause-unread
returns-in-Replay-clause-unread g c = λ silent. absurd (reading c.args.command.now commands.Replay c.in-Replay.is refl silent)

pub returns-in-Canon-clause-logged : goal.returns-in-Canon-clause-logged
returns-in-Canon-clause-logged g c = λ o e within read. absurd (other_command c.args.command.now commands.Canon o c.in-Canon.is e (λ h. cc))

pub returns-in-Dis-clause-logged : goal.returns-in-Dis-clause-logged
returns-in-Dis-clause-logged g c = λ o e within read. absurd (other_command c.args.command.now commands.Dis o c.in-Dis.is e (λ h. cc))

pub returns-in-Check-clause-logged : goal.returns-in-Check-clause-logged
returns-in-Check-clause-logged g c = λ o e within read. absurd (other_command c.args.command.now commands.Check o c.in-Check.is e (λ h. cc))

pub returns-in-Tidy-clause-logged : goal.returns-in-Tidy-clause-logged
returns-in-Tidy-clause-logged g c = λ o e within read. absurd (other_command c.args.command.now commands.Tidy o c.in-Tidy.is e (λ h. cc))

pub returns-in-Asm-clause-logged : goal.returns-in-Asm-clause-logged
returns-in-Asm-clause-logged g c = λ o e within read. absurd (other_command c.args.command.now commands.Asm o c.in-Asm.is e (λ h. cc))

pub returns-in-Run-clause-logged : goal.returns-in-Run-clause-logged
returns-in-Run-clause-logged g c = λ o e within read. absurd (other_command c.args.command.now (commands.Run c.in-Run.options) o c.in-Run.is e (λ h. cc))

pub returns-in-Gen-clause-logged : goal.returns-in-Gen-clause-logged
returns-in-Gen-clause-logged g c = λ o e within read. absurd (other_command c.args.command.now (commands.Gen c.in-Gen.options) o c.in-Gen.is e (λ h. cc))

pub returns-in-Calls-clause-logged : goal.returns-in-Calls-clause-logged
returns-in-Calls-clause-logged g c = λ o e within read. absurd (other_command c.args.command.now (commands.Calls c.in-Calls.options) o c.in-Calls.is e (λ h. cc))

pub returns-in-Replay-clause-logged : goal.returns-in-Replay-clause-logged
returns-in-Replay-clause-logged g c = λ o e within read. absurd (other_command c.args.command.now commands.Replay o c.in-Replay.is e (λ h. cc))

pub returns-in-Canon-clause-taken : goal.returns-in-Canon-clause-taken
returns-in-Canon-clause-taken g c = takes_as c.args.command.now commands.Canon (g.S.Source.left c.args.source.now) (g.S.Source.left c.canon.new.source) c.in-Canon.is c.canon.ensures.taken

pub returns-in-Dis-clause-taken : goal.returns-in-Dis-clause-taken
returns-in-Dis-clause-taken g c = takes_as c.args.command.now commands.Dis (g.S.Source.left c.args.source.now) (g.S.Source.left c.dis.new.source) c.in-Dis.is c.dis.ensures.taken

pub returns-in-Check-clause-taken : goal.returns-in-Check-clause-taken
returns-in-Check-clause-taken g c = takes_as c.args.command.now commands.Check (g.S.Source.left c.args.source.now) (g.S.Source.left c.check.new.source) c.in-Check.is c.check.ensures.taken

pub returns-in-Tidy-clause-taken : goal.returns-in-Tidy-clause-taken
returns-in-Tidy-clause-taken g c = takes_as c.args.command.now commands.Tidy (g.S.Source.left c.args.source.now) (g.S.Source.left c.tidy.new.source) c.in-Tidy.is c.tidy.ensures.taken

pub returns-in-Asm-clause-taken : goal.returns-in-Asm-clause-taken
returns-in-Asm-clause-taken g c = takes_as c.args.command.now commands.Asm (g.S.Source.left c.args.source.now) (g.S.Source.left c.asm.new.source) c.in-Asm.is c.asm.ensures.taken

pub returns-in-Run-clause-taken : goal.returns-in-Run-clause-taken
returns-in-Run-clause-taken g c = takes_as c.args.command.now (commands.Run c.in-Run.options) (g.S.Source.left c.args.source.now) (g.S.Source.left c.run.new.source) c.in-Run.is c.run.ensures.taken

pub returns-in-Gen-clause-taken : goal.returns-in-Gen-clause-taken
returns-in-Gen-clause-taken g c = takes_as c.args.command.now (commands.Gen c.in-Gen.options) (g.S.Source.left c.args.source.now) (g.S.Source.left c.args.source.now) c.in-Gen.is (takes_none (g.S.Source.left c.args.source.now) (2 ^ 24 + 1))

pub returns-in-Calls-clause-taken : goal.returns-in-Calls-clause-taken
returns-in-Calls-clause-taken g c = takes_as c.args.command.now (commands.Calls c.in-Calls.options) (g.S.Source.left c.args.source.now) (g.S.Source.left c.calls.new.source) c.in-Calls.is c.calls.ensures.taken

pub returns-in-Log-clause-taken : goal.returns-in-Log-clause-taken
returns-in-Log-clause-taken g c = takes_as c.args.command.now (commands.Log c.in-Log.options) (g.S.Source.left c.args.source.now) (g.S.Source.left c.log.new.source) c.in-Log.is c.log.ensures.taken

pub returns-in-Replay-clause-taken : goal.returns-in-Replay-clause-taken
returns-in-Replay-clause-taken g c = takes_as c.args.command.now commands.Replay (g.S.Source.left c.args.source.now) (g.S.Source.left c.replay.new.source) c.in-Replay.is c.replay.ensures.taken

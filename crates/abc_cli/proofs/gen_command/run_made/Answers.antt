use Rattle.std.proofs.Common.{◌∙◌, subst}
use Rattle.abc_cli_answers.specs.End.{GivesBytes, stream}
use Rattle.abc_cli.proofs.Generating.{made_done, made_undone}
use Rattle.abc_cli.proofs.gen_command.run_made.Goals as goal

pub returns-in-Done : goal.returns-in-Done
returns-in-Done g c =
    made_done c.args.options.now (g.H.Host.formulas c.args.host.now) c.args.made.file c.as_slice.result.now (g.K.Sink.written c.args.out.now) (g.K.Sink.written c.run_file.new.out) (g.K.Sink.written c.give_bytes.new.out)
    (g.K.Sink.faults c.args.out.now) (g.K.Sink.faults c.run_file.new.out) (g.K.Sink.faults c.give_bytes.new.out) (stream g.E.Sink.written g.E.Sink.faults c.args.err.now c.run_file.new.err)
    (stream g.E.Sink.written g.E.Sink.faults c.args.err.now c.give_bytes.new.err) c.run_file.result c.give_bytes.result c.requires.file (c.as_slice.ensures.value ∙ c.requires.lines) c.run_file.ensures.end
    c.in-Done.is c.run_file.ensures.later
    (subst (λ x. GivesBytes (stream g.K.Sink.written g.K.Sink.faults c.run_file.new.out c.give_bytes.new.out) (stream g.E.Sink.written g.E.Sink.faults x c.give_bytes.new.err) c.as_slice.result.now c.give_bytes.result)
    (c.run_file.ensures.quiet c.in-Done.is) c.give_bytes.ensures)

pub returns : goal.returns
returns g c =
    made_undone c.args.options.now (g.H.Host.formulas c.args.host.now) c.args.made.file (stream g.K.Sink.written g.K.Sink.faults c.args.out.now c.run_file.new.out) (stream g.E.Sink.written g.E.Sink.faults c.args.err.now c.run_file.new.err)
    c.run_file.result c.requires.file c.run_file.ensures.end c.in_default.not-Done

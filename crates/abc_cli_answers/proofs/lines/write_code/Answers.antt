use Rattle.std.proofs.Common.{List, ℕ, subst, ◌∙◌}
use Rattle.abc_base.specs.Sinks.{WritesAll}
use Rattle.abc_cli_answers.proofs.VerifiedLine.{code_line}
use Rattle.abc_cli_answers.proofs.lines.write_code.Goals as goal

pub returns-clause-bytes : goal.returns-clause-bytes
returns-clause-bytes g c =
    subst (λ (bytes : List ℕ). WritesAll (g.E.Sink.written c.args.err.now) (g.E.Sink.written c.write_six_and_end.new.err) c.write_six_and_end.result bytes)
    (code_line c.args.method c.args.offset _ _ c.args.name.now (c.as_bytes-method_digits.ensures.value ∙ c.format.ensures.text) (c.as_bytes-offset_digits.ensures.value ∙ c.format-2.ensures.text))
    c.write_six_and_end.ensures.bytes

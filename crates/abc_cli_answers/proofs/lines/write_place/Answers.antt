use Rattle.std.proofs.Common.{List, ℕ, subst, ◌∙◌}
use Rattle.abc_base.specs.Sinks.{WritesAll}
use Rattle.abc_cli_answers.proofs.VerifiedLine.{place_line}
use Rattle.abc_cli_answers.proofs.lines.write_place.Goals as goal

pub returns-clause-bytes : goal.returns-clause-bytes
returns-clause-bytes g c =
    subst (λ (bytes : List ℕ). WritesAll (g.E.Sink.written c.args.err.now) (g.E.Sink.written c.write_six_and_end.new.err) c.write_six_and_end.result bytes)
    (place_line c.args.number c.args.kind.now _ c.args.name.now (c.as_bytes-digits.ensures.value ∙ c.format.ensures.text)) c.write_six_and_end.ensures.bytes

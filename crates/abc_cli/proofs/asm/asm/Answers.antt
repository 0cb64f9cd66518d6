use Rattle.std.proofs.Common.{ℕ, List, subst}
use Rattle.std.proofs.lemmas.Result.{err_from_is_err_and}
use Rattle.abc_cli_answers.specs.End.{stream}
use Rattle.abc_cli_answers.specs.Answers.{bytes_answer}
use Rattle.abc_cli.specs.Outcome.{Asm}
use Rattle.abc_cli_answers.specs.Stops.{StopsAt}
use Rattle.abc_cli.proofs.Assembling.{input_stops, text_gives, text_stops}
use Rattle.abc_cli.proofs.asm.asm.Goals as goal

pub returns-clause-gives : goal.returns-clause-gives
returns-clause-gives g c =
    let here = subst (λ (t : List ℕ). Asm t (bytes_answer c.in_ok-bytes.bytes.items)) c.as_slice.ensures.value c.in_ok-bytes.ensures.gives in
    text_gives (stream g.S.Source.left g.S.Source.faults c.args.source.now c.read_input.new.source) c.in_ok-text.text.items c.in_ok-bytes.bytes.items c.in_ok-text.ensures.bytes c.in_ok-text.ensures.end here

pub returns-in_err-text-clause-stops : goal.returns-in_err-text-clause-stops
returns-in_err-text-clause-stops g c =
    let p = err_from_is_err_and c.from_residual.result c.from_residual.ensures.1 in
    rw (p.1, p.2) (input_stops (stream g.S.Source.left g.S.Source.faults c.args.source.now c.read_input.new.source) c.in_err-text.field-0.0 (λ e. c.in_err-text.ensures.long cc) (λ e. c.in_err-text.ensures.cause cc))

pub returns-in_err-bytes-clause-stops : goal.returns-in_err-bytes-clause-stops
returns-in_err-bytes-clause-stops g c =
    let p = err_from_is_err_and c.from_residual-in_err-bytes.result c.from_residual-in_err-bytes.ensures.1 in
    let here = subst (λ (t : List ℕ). StopsAt (Asm t) c.in_err-bytes.field-0.0) c.as_slice.ensures.value c.in_err-bytes.ensures.stops in
    rw (p.1, p.2) (text_stops (stream g.S.Source.left g.S.Source.faults c.args.source.now c.read_input.new.source) c.in_ok-text.text.items c.in_err-bytes.field-0.0 c.in_ok-text.ensures.bytes c.in_ok-text.ensures.end here)

use Rattle.std.proofs.Common.{◌≡◌, ◌∙◌, ap, sym, decimal, Ok}
use Rattle.std.proofs.lemmas.Bool.{both_ways}
use Rattle.std.proofs.lemmas.Slice.Eq.{bytes_eq-Decides}
use Rattle.abc_log.proofs.Spelling.{no_text, number_read}
use Rattle.abc_log.proofs.numbers.number_of.Goals as goal

pub returns-in_default-clause-none : goal.returns-in_default-clause-none
returns-in_default-clause-none c = no_text c.args.digits.now c.in_default.ensures.cases.0

pub returns-in_default-parse-clause-none : goal.returns-in_default-parse-clause-none
returns-in_default-parse-clause-none c = λ n small e.
    let read : c.parse.result ≡ Ok n = number_read c.args.digits.now c.in-Ok.text.now c.parse.result n c.in-Ok.ensures.cases.0 c.parse.ensures.value.0 small e in
    cc (read, c.in_default-parse.is)

pub returns-else-eq-clause-none : goal.returns-else-eq-clause-none
returns-else-eq-clause-none c = λ n small e.
    let read : c.parse.result ≡ Ok n = number_read c.args.digits.now c.in-Ok.text.now c.parse.result n c.in-Ok.ensures.cases.0 c.parse.ensures.value.0 small e in
    let same : c.in-Ok-parse.number ≡ n = cc (read, c.in-Ok-parse.is) in
    let shown = c.as_bytes.ensures.value ∙ c.format.ensures.text ∙ ap decimal same ∙ sym e in
    both_ways c.eq.result c.if-eq.false (c.eq.ensures ∙ (bytes_eq-Decides c.as_bytes.result.now c.args.digits.now).1 shown)

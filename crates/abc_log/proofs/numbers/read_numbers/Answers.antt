use Rattle.std.proofs.Common.{◌∙◌, length, sym, arith}
use Rattle.std.proofs.lemmas.Bool.{OnFalse_from, eqb-false}
use Rattle.abc_log.proofs.Spelling.{goes_on, stops_short}
use Rattle.abc_log.proofs.numbers.read_numbers.Goals as goal

pub returns-in-None-clause-none : goal.returns-in-None-clause-none
returns-in-None-clause-none c = λ ns long small.
    let i = c.loop-number.invariant in
    stops_short c.args.bytes.now c.loop-number.rest.now c.loop-number.numbers ns c.loop-number.number-index i.bytes i.small i.ends (omega (arith, long, i.long)) small (omega arith) (omega arith) c.in-None.ensures.none

pub returns-clause-none : goal.returns-clause-none
returns-clause-none c = OnFalse_from c.is_empty.result _ (λ more ns long small.
    let i = c.loop-number.invariant in
    goes_on c.args.bytes.now c.loop-number.rest.now c.loop-number.numbers ns c.loop-number.number-index i.bytes i.small i.ends (omega (arith, long, i.long)) small (omega arith) (omega arith)
    (eqb-false (length c.loop-number.rest.now) 0 (sym c.is_empty.ensures ∙ more)))

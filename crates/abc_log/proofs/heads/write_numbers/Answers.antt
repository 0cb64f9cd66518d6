use Rattle.std.proofs.Common.{take, is_some, ap, ◌∙◌}
use Rattle.std.proofs.lemmas.Result.{err_from_is_err_and}
use Rattle.std.specs.List.{flat_map}
use Rattle.abc_base.proofs.Writing.{known_told}
use Rattle.abc_log.specs.Lines.{next_number}
use Rattle.abc_log.proofs.Each.{front_in}
use Rattle.abc_log.proofs.heads.write_numbers.Goals as goal

pub returns-in_err-write_next-clause-bytes : goal.returns-in_err-write_next-clause-bytes
returns-in_err-write_next-clause-bytes g c = λ some.
    let p = err_from_is_err_and c.from_residual.result c.from_residual.ensures.1 in
    let before = c.loop-number.invariant.written some in
    let told = ap is_some before ∙ known_told (g.K.Sink.written c.args.log.now) (flat_map next_number (take c.loop-number.number-index c.args.numbers.now)) ∙ some in
    rw p.1 (front_in next_number _ _ _ c.args.numbers.now c.loop-number.number-index c.loop-number-test.true before (c.in_err-write_next.ensures.bytes told))

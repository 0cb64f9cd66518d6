use Rattle.std.proofs.Common.{◌≡◌, drop, arith}
use Rattle.std.proofs.lemmas.List.{at_drop_all}
use Rattle.abc_cli_answers.specs.Measured.{instruction_count}
use Rattle.abc_cli_answers.proofs.measures.instruction_count.Goals as goal

pub returns : goal.returns
returns c =
    let none : instruction_count (drop c.loop-body.body-index c.args.bodies.now) ≡ 0 = at_drop_all instruction_count c.args.bodies.now c.loop-body.body-index (rw c.as_slice-body-items.ensures at c.loop-body-test.false) in
    omega (arith, c.loop-body.invariant, none)

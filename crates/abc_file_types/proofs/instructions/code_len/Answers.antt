use Rattle.std.proofs.Common.{◌≡◌, drop, arith}
use Rattle.std.proofs.lemmas.List.{at_drop_all}
use Rattle.abc_file_types.specs.CodeBytes.{code_len}
use Rattle.abc_file_types.proofs.instructions.code_len.Goals as goal

pub returns : goal.returns
returns c =
    let none : code_len (drop c.loop-instr.instr-index c.args.code.now) ≡ 0 = at_drop_all code_len c.args.code.now c.loop-instr.instr-index (rw c.as_slice-instr-items.ensures at c.loop-instr-test.false) in
    omega (arith, c.loop-instr.invariant.0, c.loop-instr.invariant.1, none)

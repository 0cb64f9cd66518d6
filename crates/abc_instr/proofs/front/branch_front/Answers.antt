use Rattle.std.proofs.Common.{refl, arith}
use Rattle.std.proofs.lemmas.Int.{ints, to_z-of_z}
use Rattle.std.specs.Int.{w32}
use Rattle.abc_instr.specs.Reading.{done_in}
use Rattle.abc_instr.specs.Scanning.{plain_bytes}
use Rattle.abc_instr.proofs.Fronts.{branch_front}
use Rattle.abc_instr.proofs.front.branch_front.Goals as goal

pub returns-clause-put : goal.returns-clause-put
returns-clause-put c = λ old.
    let z = c.front_s24.result in
    let same = to_z-of_z w32 z (omega (arith, ints, c.front_s24.type_inv)) in
    rw same (branch_front plain_bytes c.args.bytes.now z old c.requires.room c.requires.form c.front_s24.ensures refl)

pub returns-clause-done : goal.returns-clause-done
returns-clause-done c = λ old.
    let z = c.front_s24.result in
    let same = to_z-of_z w32 z (omega (arith, ints, c.front_s24.type_inv)) in
    rw same (branch_front done_in c.args.bytes.now z old c.requires.room c.requires.form c.front_s24.ensures refl)

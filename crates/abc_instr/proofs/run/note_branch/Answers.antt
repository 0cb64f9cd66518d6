use mir.Val.{SFits}
use Rattle.std.proofs.Common.{get_or, arith, rules}
use Rattle.std.proofs.lemmas.Int.{to_z-of_z}
use Rattle.std.specs.Int.{w32}
use Rattle.abc_instr.specs.declared.raw.RawInstr.TheVariants as raws
use Rattle.abc_instr.proofs.Steps.{branch}
use Rattle.abc_instr.proofs.run.note_branch.Goals as goal

pub returns-clause-step : goal.returns-clause-step
returns-clause-step c = λ some.
    let bytes = c.args.bytes.now in
    let z = c.front_s24.result in
    let fits : SFits w32 z = search rules in
    let bits = to_z-of_z w32 z fits in
    record {
      instr = raws.Branch (get_or bytes 0 0) z;
      copied = branch bytes z c.requires.room (omega (arith, c.type_inv.bytes 1)) (omega (arith, c.type_inv.bytes 2)) (omega (arith, c.type_inv.bytes 3)) c.requires.form c.front_s24.ensures;
      room = omega arith;
      noted = rw bits at c.in_ok-push.ensures.items;
    }

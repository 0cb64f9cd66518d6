use mir.Syntax.{w8}
use mir.Val.{SFits, of_z, to_z}
use Rattle.std.proofs.Common.{arith, rules}
use Rattle.std.proofs.lemmas.Int.{ints}
use Rattle.abc_run_dispatch.proofs.Dispatched.{dispatches_as, dispatches_run}
use Rattle.abc_run_dispatch.proofs.Led.{run_as}
use Rattle.abc_run_dispatch.proofs.Told.{byte_held}
use Rattle.abc_file_types.specs.declared.code.Instr.TheVariants.{Byte}
use Rattle.abc_run_dispatch.proofs.dispatch.run_byte_or_other.Goals as goal

pub run_byte-requires : goal.run_byte-requires
run_byte-requires g c = let fits : SFits w8 c.in-Byte.n = first_of (search rules, omega (arith, ints), grind (arith, ints)) in run_as c.args.linked.now g.out c.args.s.now c.args.instr.now (Byte (to_z w8 (of_z w8 c.in-Byte.n))) (byte_held c.args.instr.now c.in-Byte.n fits c.in-Byte.is) c.requires.run

pub returns-in-Byte : goal.returns-in-Byte
returns-in-Byte g c =
    let fits : SFits w8 c.in-Byte.n = first_of (search rules, omega (arith, ints), grind (arith, ints)) in
    let ran = dispatches_run c.args.linked.now g.out c.args.s.now (Byte (to_z w8 (of_z w8 c.in-Byte.n))) c.run_byte.new.s c.goes.result c.goes.new.left c.goes.ensures.goes c.run_byte.result c.run_byte.ensures c.goes.ensures.left in
    dispatches_as c.args.linked.now g.out c.args.s.now c.args.instr.now (Byte (to_z w8 (of_z w8 c.in-Byte.n))) _ _ _ (byte_held c.args.instr.now c.in-Byte.n fits c.in-Byte.is) ran

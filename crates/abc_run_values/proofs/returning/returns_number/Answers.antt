use Rattle.std.proofs.Common.{◌∙◌, ℤ, ap, arith, rules, sym}
use Rattle.std.proofs.lemmas.Int.{ints, to_z-of_z}
use Rattle.std.specs.Int.{w64}
use Rattle.std.specs.Prelude.{FitsSigned}
use Rattle.abc_heap_values.specs.declared.values.Value.TheVariants.{Num}
use Rattle.abc_run_values.proofs.Doing.{turns_as}
use Rattle.abc_run_values.proofs.MovingOps.{op_48, returned}
use Rattle.abc_file_types.specs.declared.code.Instr.TheVariants.{Plain}
use Rattle.abc_run_values.proofs.returning.returns_number.Goals as goal

pub operand-v-requires : goal.operand-v-requires
operand-v-requires g c =
    let there = (op_48 c.args.linked.now g.out c.args.s.now c.requires).ready.operands in
    omega (arith, there)

pub returns_kept-requires : goal.returns_kept-requires
returns_kept-requires g c = c.requires.live

pub returns-in-Num : goal.returns-in-Num
returns-in-Num g c = record {
  leaves = λ e.
      let l = c.args.linked.now in
      let f : FitsSigned w64 c.in-Num.n = first_of (search rules, omega (arith, ints), grind (arith, ints)) in
      turns_as l g.out c.args.s.now (Plain 72) 1 0 _ _ (returned l g.out c.args.s.now _ c.requires (ap (λ (z : ℤ). Num z) (to_z-of_z w64 c.in-Num.n f) ∙ sym c.in-Num.is ∙ c.operand-v.ensures.is)) (c.returns_kept.ensures.leaves e);
  returns = c.returns_kept.ensures.returns;
  undone = c.returns_kept.ensures.undone;
}

use Rattle.std.proofs.Common.{arith}
use Rattle.abc_run_values.proofs.Doing.{can_at, open_as, runs_at}
use Rattle.abc_run_values.proofs.MovingOps.{op_47, op_48, returned}
use Rattle.abc_file_types.specs.declared.code.Instr.TheVariants.{Plain}
use Rattle.abc_run_values.proofs.returning.run_return.Goals as goal

pub return_value-requires : goal.return_value-requires
return_value-requires g c =
    let can = can_at c.args.linked.now g.out c.args.s.now Plain c.args.op 71 c.in-71.is c.requires.0 in
    (can.set.over, (tt, (can.live, open_as c.args.linked.now g.out c.args.s.now (Plain 71) 0 0 _ (op_47 c.args.linked.now g.out c.args.s.now can) can.free)))

pub operand-v-requires : goal.operand-v-requires
operand-v-requires g c =
    let can = can_at c.args.linked.now g.out c.args.s.now Plain c.args.op 72 c.in-72.is c.requires.0 in
    let there = (op_48 c.args.linked.now g.out c.args.s.now can).ready.operands in
    omega (arith, there)

pub return_value-requires-in-72 : goal.return_value-requires-in-72
return_value-requires-in-72 g c =
    let can = can_at c.args.linked.now g.out c.args.s.now Plain c.args.op 72 c.in-72.is c.requires.0 in
    let d = returned c.args.linked.now g.out c.args.s.now c.operand-v.result can c.operand-v.ensures.is in
    (can.set.over, (c.operand-v.ensures.there c.args.linked.now c.args.s.now.arena can.set.frame.stack, (can.live, open_as c.args.linked.now g.out c.args.s.now (Plain 72) 1 0 _ d can.free)))

pub returns-in-71-clause-leaves : goal.returns-in-71-clause-leaves
returns-in-71-clause-leaves g c = record {
  leaves =
      let can = can_at c.args.linked.now g.out c.args.s.now Plain c.args.op 71 c.in-71.is c.requires.0 in
      runs_at c.args.linked.now g.out c.args.s.now Plain c.args.op 71 0 0 _ _ c.in-71.is (op_47 c.args.linked.now g.out c.args.s.now can) c.return_value.ensures.leaves;
  limit = c.return_value.ensures.limit;
}

pub returns-in-72-clause-leaves : goal.returns-in-72-clause-leaves
returns-in-72-clause-leaves g c = record {
  leaves =
      let can = can_at c.args.linked.now g.out c.args.s.now Plain c.args.op 72 c.in-72.is c.requires.0 in
      let d = returned c.args.linked.now g.out c.args.s.now c.operand-v.result can c.operand-v.ensures.is in
      runs_at c.args.linked.now g.out c.args.s.now Plain c.args.op 72 1 0 _ _ c.in-72.is d c.return_value-in-72.ensures.leaves;
  limit = c.return_value-in-72.ensures.limit;
}

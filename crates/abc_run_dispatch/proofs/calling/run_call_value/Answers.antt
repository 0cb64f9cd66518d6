use Rattle.abc_run_dispatch.proofs.MemberOps.{op_41}
use Rattle.abc_run_values.proofs.Doing.{open_as, turns_as}
use Rattle.abc_file_types.specs.declared.code.Instr.TheVariants.{One}
use Rattle.abc_run_dispatch.proofs.calling.run_call_value.Goals as goal

pub call_value-requires : goal.call_value-requires
call_value-requires g c =
    let can = c.requires.0 in
    let d = op_41 c.args.linked.now g.out c.args.s.now c.args.count can in (record { set = can.set; known = c.requires.1; free = open_as c.args.linked.now g.out c.args.s.now (One 0x41 c.args.count) _ 1 _ d can.free }, (d.ready, can.spelled.1))

pub returns-clause-leaves : goal.returns-clause-leaves
returns-clause-leaves g c = record {
  leaves = turns_as c.args.linked.now g.out c.args.s.now (One 0x41 c.args.count) _ 1 _ _ (op_41 c.args.linked.now g.out c.args.s.now c.args.count c.requires.0) c.call_value.ensures.leaves;
  limit = c.call_value.ensures.limit;
}

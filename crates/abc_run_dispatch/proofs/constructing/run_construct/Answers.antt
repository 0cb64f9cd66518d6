use Rattle.abc_run_dispatch.proofs.MemberOps.{op_42}
use Rattle.abc_run_values.proofs.Doing.{open_as, turns_as}
use Rattle.abc_file_types.specs.declared.code.Instr.TheVariants.{One}
use Rattle.abc_run_dispatch.proofs.constructing.run_construct.Goals as goal

pub construct-requires : goal.construct-requires
construct-requires g c =
    let can = c.requires.0 in
    let d = op_42 c.args.linked.now g.out c.args.s.now c.args.count can in (record { set = can.set; known = c.requires.1; free = open_as c.args.linked.now g.out c.args.s.now (One 0x42 c.args.count) _ 1 _ d can.free }, (d.ready, can.spelled.1))

pub returns : goal.returns
returns g c = record {
  runs = turns_as c.args.linked.now g.out c.args.s.now (One 0x42 c.args.count) _ 1 _ _ (op_42 c.args.linked.now g.out c.args.s.now c.args.count c.requires.0) c.construct.ensures.runs;
  limit = c.construct.ensures.limit;
}

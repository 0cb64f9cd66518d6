use Rattle.abc_run_dispatch.proofs.MemberOps.{op_4A}
use Rattle.abc_run_values.proofs.Doing.{open_as, turns_as}
use Rattle.abc_file_types.specs.declared.code.Instr.TheVariants.{Two}
use Rattle.abc_run_dispatch.proofs.constructing.run_construct_property.Goals as goal

pub construct_property-requires : goal.construct_property-requires
construct_property-requires g c =
    let can = c.requires.0 in
    let d = op_4A c.args.linked.now g.out c.args.s.now c.args.n c.args.count can in (record { set = can.set; known = c.requires.1; free = open_as c.args.linked.now g.out c.args.s.now (Two 0x4A c.args.n c.args.count) _ 1 _ d can.free }, (d.ready, can.spelled.2))

pub returns : goal.returns
returns g c = record {
  runs = turns_as c.args.linked.now g.out c.args.s.now (Two 0x4A c.args.n c.args.count) _ 1 _ _ (op_4A c.args.linked.now g.out c.args.s.now c.args.n c.args.count c.requires.0) c.construct_property.ensures.runs;
  limit = c.construct_property.ensures.limit;
}

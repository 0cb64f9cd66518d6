use Rattle.std.proofs.Common.{◌+◌}
use Rattle.abc_link_names.specs.Owners.{owner_of}
use Rattle.abc_frames.specs.Frame.{newest}
use Rattle.abc_file_types.specs.declared.code.Instr.TheVariants.{One}
use Rattle.abc_run_values.proofs.Doing.{open_as, turns_as}
use Rattle.abc_run_dispatch.proofs.Homes.{maker_is}
use Rattle.abc_run_dispatch.proofs.SuperOps.{home_49, maker_49, op_49}
use Rattle.abc_run_dispatch.proofs.supers.make_super.Goals as goal

pub class_here-class-requires : goal.class_here-class-requires
class_here-class-requires g c = record { live = c.requires.0.live; home = home_49 c.args.linked.now g.out c.args.s.now c.args.count c.requires.0 }

pub construct_super-requires : goal.construct_super-requires
construct_super-requires g c =
    let d = op_49 c.args.linked.now g.out c.args.s.now c.args.count c.class_here-class.result (maker_is c.args.linked.now (owner_of c.args.linked.now.file (newest c.args.s.now.frames).method) c.class_here-class.result (maker_49 c.args.linked.now g.out c.args.s.now c.args.count c.requires.0) c.class_here-class.ensures.is) c.requires.0 in (record { set = c.requires.0.set; known = c.requires.1; free = open_as c.args.linked.now g.out c.args.s.now (One 0x49 c.args.count) (c.args.count + 1) 0 _ d c.requires.0.free }, (d.ready, (c.requires.0.spelled.1, c.class_here-class.ensures.inside)))

pub returns : goal.returns
returns g c = record {
  runs = turns_as c.args.linked.now g.out c.args.s.now (One 0x49 c.args.count) (c.args.count + 1) 0 _ _ (op_49 c.args.linked.now g.out c.args.s.now c.args.count c.class_here-class.result (maker_is c.args.linked.now (owner_of c.args.linked.now.file (newest c.args.s.now.frames).method) c.class_here-class.result (maker_49 c.args.linked.now g.out c.args.s.now c.args.count c.requires.0) c.class_here-class.ensures.is) c.requires.0) c.construct_super.ensures.runs;
  limit = c.construct_super.ensures.limit;
}

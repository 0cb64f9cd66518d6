use Rattle.std.proofs.Common.{◌+◌}
use Rattle.abc_run_state.specs.Outer.{setting_in}
use Rattle.abc_run_members.specs.Members.{parts_at}
use Rattle.abc_file_types.specs.declared.code.Instr.TheVariants.{One}
use Rattle.abc_run_values.proofs.Doing.{open_as, turns_as}
use Rattle.abc_run_dispatch.proofs.SuperOps.{home_04, op_04}
use Rattle.abc_run_dispatch.proofs.supers.read_super.Goals as goal

pub layout_here-from-requires : goal.layout_here-from-requires
layout_here-from-requires g c = record { live = c.requires.0.live; home = home_04 c.args.linked.now g.out c.args.s.now c.args.n c.requires.0 }

pub get_super-requires : goal.get_super-requires
get_super-requires g c =
    let d = op_04 c.args.linked.now g.out c.args.s.now c.args.n c.layout_here-from.result c.layout_here-from.ensures.is c.requires.0 in (record { set = c.requires.0.set; known = c.requires.1; free = open_as c.args.linked.now g.out c.args.s.now (One 0x04 c.args.n) (parts_at (setting_in c.args.linked.now g.out) c.args.n + 1) 1 _ d c.requires.0.free }, (d.ready, c.layout_here-from.ensures.layout))

pub returns : goal.returns
returns g c = record {
  runs = turns_as c.args.linked.now g.out c.args.s.now (One 0x04 c.args.n) (parts_at (setting_in c.args.linked.now g.out) c.args.n + 1) 1 _ _ (op_04 c.args.linked.now g.out c.args.s.now c.args.n c.layout_here-from.result c.layout_here-from.ensures.is c.requires.0) c.get_super.ensures.runs;
  limit = c.get_super.ensures.limit;
}

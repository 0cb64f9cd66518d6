use Rattle.std.proofs.Common.{◌+◌}
use Rattle.abc_run_state.specs.Outer.{setting_in}
use Rattle.abc_run_members.specs.Members.{parts_at}
use Rattle.abc_file_types.specs.declared.code.Instr.TheVariants.{Two}
use Rattle.abc_run_values.proofs.Doing.{open_as, turns_as}
use Rattle.abc_run_dispatch.proofs.SuperOps.{home_45, op_45}
use Rattle.abc_run_dispatch.proofs.supers.call_pushing.Goals as goal

pub layout_here-from-requires : goal.layout_here-from-requires
layout_here-from-requires g c = record { live = c.requires.0.live; home = home_45 c.args.linked.now g.out c.args.s.now c.args.n c.args.count c.requires.0 }

pub taken_with-taken-requires : goal.taken_with-taken-requires
taken_with-taken-requires g c = c.requires.0.spelled.2

pub call_super-requires : goal.call_super-requires
call_super-requires g c =
    let d = op_45 c.args.linked.now g.out c.args.s.now c.args.n c.args.count c.taken_with-taken.result c.layout_here-from.result (c.taken_with-taken.ensures g.out) c.layout_here-from.ensures.is c.requires.0 in (record { set = c.requires.0.set; known = c.requires.1; free = open_as c.args.linked.now g.out c.args.s.now (Two 0x45 c.args.n c.args.count) (c.args.count + parts_at (setting_in c.args.linked.now g.out) c.args.n + 1) 1 _ d c.requires.0.free }, (d.ready, (c.requires.0.spelled.2, (c.taken_with-taken.ensures g.out, c.layout_here-from.ensures.layout))))

pub returns-clause-leaves : goal.returns-clause-leaves
returns-clause-leaves g c = record {
  leaves = turns_as c.args.linked.now g.out c.args.s.now (Two 0x45 c.args.n c.args.count) (c.args.count + parts_at (setting_in c.args.linked.now g.out) c.args.n + 1) 1 _ _ (op_45 c.args.linked.now g.out c.args.s.now c.args.n c.args.count c.taken_with-taken.result c.layout_here-from.result (c.taken_with-taken.ensures g.out) c.layout_here-from.ensures.is c.requires.0) c.call_super.ensures.leaves;
  limit = c.call_super.ensures.limit;
}

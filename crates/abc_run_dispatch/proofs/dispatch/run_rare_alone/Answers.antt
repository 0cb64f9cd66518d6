use Rattle.abc_run_dispatch.proofs.Grouped.{alone_in, alone_is}
use Rattle.abc_run_dispatch.proofs.dispatch.run_rare_alone.Goals as goal

pub group_alone-requires : goal.group_alone-requires
group_alone-requires g c = alone_in c.args.linked.now g.out c.args.s.now c.args.op c.requires.run

pub control_arm-requires : goal.control_arm-requires
control_arm-requires g c = (c.requires, alone_is c.args.op _ _ c.group_alone.ensures c.in-Control.is)

pub walk_arm-requires : goal.walk_arm-requires
walk_arm-requires g c = (c.requires, alone_is c.args.op _ _ c.group_alone.ensures c.in-Walk.is)

pub push_arm-requires : goal.push_arm-requires
push_arm-requires g c = (c.requires, alone_is c.args.op _ _ c.group_alone.ensures c.in-Push.is)

pub return_arm-requires : goal.return_arm-requires
return_arm-requires g c = (c.requires, alone_is c.args.op _ _ c.group_alone.ensures c.in-Return.is)

pub scope_arm-requires : goal.scope_arm-requires
scope_arm-requires g c = (c.requires, alone_is c.args.op _ _ c.group_alone.ensures c.in-Scope.is)

pub convert_arm-requires : goal.convert_arm-requires
convert_arm-requires g c = (c.requires, alone_is c.args.op _ _ c.group_alone.ensures c.in-Convert.is)

pub late_arm-requires : goal.late_arm-requires
late_arm-requires g c = (c.requires, alone_is c.args.op _ _ c.group_alone.ensures c.in-Late.is)

pub single_arm-requires : goal.single_arm-requires
single_arm-requires g c = (c.requires, alone_is c.args.op _ _ c.group_alone.ensures c.in-Single.is)

pub double_arm-requires : goal.double_arm-requires
double_arm-requires g c = (c.requires, alone_is c.args.op _ _ c.group_alone.ensures c.in-Double.is)

pub comparison_arm-requires : goal.comparison_arm-requires
comparison_arm-requires g c = (c.requires, alone_is c.args.op _ _ c.group_alone.ensures c.in-Comparison.is)

pub local_arm-requires : goal.local_arm-requires
local_arm-requires g c = (c.requires, alone_is c.args.op _ _ c.group_alone.ensures c.in-Local.is)

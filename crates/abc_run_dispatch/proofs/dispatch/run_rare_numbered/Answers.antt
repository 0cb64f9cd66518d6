use Rattle.abc_run_dispatch.proofs.Grouped.{numbered_in, numbered_is, only_one}
use Rattle.abc_run_dispatch.proofs.Dispatched.{can_as, dispatches_as}
use Rattle.abc_file_types.specs.declared.code.Instr.TheVariants.{One}
use Rattle.abc_run_dispatch.proofs.dispatch.run_rare_numbered.Goals as goal

pub group_numbered-requires : goal.group_numbered-requires
group_numbered-requires g c = numbered_in c.args.linked.now g.out c.args.s.now c.args.op c.args.n c.requires.run

pub super_arm-requires : goal.super_arm-requires
super_arm-requires g c = (c.requires, numbered_is c.args.op _ _ c.group_numbered.ensures c.in-Super.is)

pub constant_arm-requires : goal.constant_arm-requires
constant_arm-requires g c = (c.requires, numbered_is c.args.op _ _ c.group_numbered.ensures c.in-Constant.is)

pub new_arm-requires : goal.new_arm-requires
new_arm-requires g c = (c.requires, numbered_is c.args.op _ _ c.group_numbered.ensures c.in-New.is)

pub call_arm-requires : goal.call_arm-requires
call_arm-requires g c = can_as c.args.linked.now g.out c.args.s.now (One c.args.op c.args.n) (One 65 c.args.n) _ (only_one c.args.op 65 c.args.n (numbered_is c.args.op _ _ c.group_numbered.ensures c.in-Call.is)) c.requires

pub returns-in-Call : goal.returns-in-Call
returns-in-Call g c = dispatches_as c.args.linked.now g.out c.args.s.now (One c.args.op c.args.n) (One 65 c.args.n) _ _ _ (only_one c.args.op 65 c.args.n (numbered_is c.args.op _ _ c.group_numbered.ensures c.in-Call.is)) c.call_arm.ensures

pub construct_arm-requires : goal.construct_arm-requires
construct_arm-requires g c = can_as c.args.linked.now g.out c.args.s.now (One c.args.op c.args.n) (One 66 c.args.n) _ (only_one c.args.op 66 c.args.n (numbered_is c.args.op _ _ c.group_numbered.ensures c.in-Construct.is)) c.requires

pub returns-in-Construct : goal.returns-in-Construct
returns-in-Construct g c = dispatches_as c.args.linked.now g.out c.args.s.now (One c.args.op c.args.n) (One 66 c.args.n) _ _ _ (only_one c.args.op 66 c.args.n (numbered_is c.args.op _ _ c.group_numbered.ensures c.in-Construct.is)) c.construct_arm.ensures

pub class_arm-requires : goal.class_arm-requires
class_arm-requires g c = can_as c.args.linked.now g.out c.args.s.now (One c.args.op c.args.n) (One 88 c.args.n) _ (only_one c.args.op 88 c.args.n (numbered_is c.args.op _ _ c.group_numbered.ensures c.in-Class.is)) c.requires

pub returns-in-Class : goal.returns-in-Class
returns-in-Class g c = dispatches_as c.args.linked.now g.out c.args.s.now (One c.args.op c.args.n) (One 88 c.args.n) _ _ _ (only_one c.args.op 88 c.args.n (numbered_is c.args.op _ _ c.group_numbered.ensures c.in-Class.is)) c.class_arm.ensures

pub find_arm-requires : goal.find_arm-requires
find_arm-requires g c = (c.requires, numbered_is c.args.op _ _ c.group_numbered.ensures c.in-Find.is)

pub property_arm-requires : goal.property_arm-requires
property_arm-requires g c = (c.requires, numbered_is c.args.op _ _ c.group_numbered.ensures c.in-Property.is)

pub slot_arm-requires : goal.slot_arm-requires
slot_arm-requires g c = (c.requires, numbered_is c.args.op _ _ c.group_numbered.ensures c.in-Slot.is)

pub typed_arm-requires : goal.typed_arm-requires
typed_arm-requires g c = (c.requires, numbered_is c.args.op _ _ c.group_numbered.ensures c.in-Typed.is)

pub count_arm-requires : goal.count_arm-requires
count_arm-requires g c = (c.requires, numbered_is c.args.op _ _ c.group_numbered.ensures c.in-Count.is)

use Rattle.abc_run_dispatch.proofs.Grouped.{only_two, paired_in, paired_is}
use Rattle.abc_run_dispatch.proofs.Dispatched.{can_as, dispatches_as}
use Rattle.abc_file_types.specs.declared.code.Instr.TheVariants.{Two}
use Rattle.abc_run_dispatch.proofs.dispatch.run_paired.Goals as goal

pub group_paired-requires : goal.group_paired-requires
group_paired-requires g c = paired_in c.args.linked.now g.out c.args.s.now c.args.op c.args.n c.args.count c.requires.run

pub next_arm-requires : goal.next_arm-requires
next_arm-requires g c = can_as c.args.linked.now g.out c.args.s.now (Two c.args.op c.args.n c.args.count) (Two 50 c.args.n c.args.count) _ (only_two c.args.op 50 c.args.n c.args.count (paired_is c.args.op _ _ c.group_paired.ensures c.in-Next.is)) c.requires

pub returns-in-Next : goal.returns-in-Next
returns-in-Next g c = dispatches_as c.args.linked.now g.out c.args.s.now (Two c.args.op c.args.n c.args.count) (Two 50 c.args.n c.args.count) _ _ _ (only_two c.args.op 50 c.args.n c.args.count (paired_is c.args.op _ _ c.group_paired.ensures c.in-Next.is)) c.next_arm.ensures

pub super_call_arm-requires : goal.super_call_arm-requires
super_call_arm-requires g c = (c.requires, paired_is c.args.op _ _ c.group_paired.ensures c.in-SuperCall.is)

pub property_call_arm-requires : goal.property_call_arm-requires
property_call_arm-requires g c = (c.requires, paired_is c.args.op _ _ c.group_paired.ensures c.in-PropertyCall.is)

pub construct_property_arm-requires : goal.construct_property_arm-requires
construct_property_arm-requires g c = can_as c.args.linked.now g.out c.args.s.now (Two c.args.op c.args.n c.args.count) (Two 74 c.args.n c.args.count) _ (only_two c.args.op 74 c.args.n c.args.count (paired_is c.args.op _ _ c.group_paired.ensures c.in-Construct.is)) c.requires

pub returns-in-Construct : goal.returns-in-Construct
returns-in-Construct g c = dispatches_as c.args.linked.now g.out c.args.s.now (Two c.args.op c.args.n c.args.count) (Two 74 c.args.n c.args.count) _ _ _ (only_two c.args.op 74 c.args.n c.args.count (paired_is c.args.op _ _ c.group_paired.ensures c.in-Construct.is)) c.construct_property_arm.ensures

use Rattle.std.proofs.Common.{ap, refl}
use Rattle.abc_run_dispatch.proofs.Dispatched.{can_as, dispatches_as}
use Rattle.abc_run_dispatch.proofs.Told.{alone_told, branch_told, numbered_told, paired_told}
use Rattle.abc_run_dispatch.specs.StepGroups.{first_order_ops, last_order_ops, to_number_ops}
use Rattle.abc_run_dispatch.specs.MemberGroups.{property_call_ops, property_ops}
use Rattle.abc_run_dispatch.specs.ObjectGroups.{slot_ops}
use Rattle.abc_run_values.specs.Groups.{constant_ops, control_ops, count_ops, double_ops, first_branch_ops, local_ops, push_ops, return_ops, single_ops}
use Rattle.abc_run_dispatch.specs.ScopeGroups.{find_ops}
use Rattle.abc_file_types.specs.Opcodes.{is_in}
use Rattle.abc_file_types.specs.declared.code.Instr.TheVariants.{Branch, One, Plain, Two}
use Rattle.abc_run_dispatch.proofs.dispatch.run_common.Goals as goal

pub control_inline-requires : goal.control_inline-requires
control_inline-requires g c = (can_as c.args.linked.now g.out c.args.s.now c.args.instr.now (Plain c.args.op) _ (alone_told c.args.instr.now c.args.op 9 c.requires.0.run.spelled c.requires.1 c.in-9.is refl) c.requires.0, ap (λ n. is_in n control_ops) c.in-9.is)

pub returns-in-9 : goal.returns-in-9
returns-in-9 g c = dispatches_as c.args.linked.now g.out c.args.s.now c.args.instr.now (Plain c.args.op) _ _ _ (alone_told c.args.instr.now c.args.op 9 c.requires.0.run.spelled c.requires.1 c.in-9.is refl) c.control_inline.ensures

pub first_branch_fast-requires : goal.first_branch_fast-requires
first_branch_fast-requires g c = (can_as c.args.linked.now g.out c.args.s.now c.args.instr.now (Branch c.args.op c.number_of.result) _ (branch_told c.args.instr.now c.args.op 12 c.requires.0.run.spelled c.requires.1 c.in-12.is c.number_of.result refl c.number_of.ensures) c.requires.0, ap (λ n. is_in n first_order_ops) c.in-12.is)

pub returns-in-12 : goal.returns-in-12
returns-in-12 g c = dispatches_as c.args.linked.now g.out c.args.s.now c.args.instr.now (Branch c.args.op c.number_of.result) _ _ _ (branch_told c.args.instr.now c.args.op 12 c.requires.0.run.spelled c.requires.1 c.in-12.is c.number_of.result refl c.number_of.ensures) c.first_branch_fast.ensures

pub first_branch_fast-requires-in-13 : goal.first_branch_fast-requires-in-13
first_branch_fast-requires-in-13 g c = (can_as c.args.linked.now g.out c.args.s.now c.args.instr.now (Branch c.args.op c.number_of-in-13.result) _ (branch_told c.args.instr.now c.args.op 13 c.requires.0.run.spelled c.requires.1 c.in-13.is c.number_of-in-13.result refl c.number_of-in-13.ensures) c.requires.0, ap (λ n. is_in n first_order_ops) c.in-13.is)

pub returns-in-13 : goal.returns-in-13
returns-in-13 g c = dispatches_as c.args.linked.now g.out c.args.s.now c.args.instr.now (Branch c.args.op c.number_of-in-13.result) _ _ _ (branch_told c.args.instr.now c.args.op 13 c.requires.0.run.spelled c.requires.1 c.in-13.is c.number_of-in-13.result refl c.number_of-in-13.ensures) c.first_branch_fast-in-13.ensures

pub first_branch_fast-requires-in-14 : goal.first_branch_fast-requires-in-14
first_branch_fast-requires-in-14 g c = (can_as c.args.linked.now g.out c.args.s.now c.args.instr.now (Branch c.args.op c.number_of-in-14.result) _ (branch_told c.args.instr.now c.args.op 14 c.requires.0.run.spelled c.requires.1 c.in-14.is c.number_of-in-14.result refl c.number_of-in-14.ensures) c.requires.0, ap (λ n. is_in n first_order_ops) c.in-14.is)

pub returns-in-14 : goal.returns-in-14
returns-in-14 g c = dispatches_as c.args.linked.now g.out c.args.s.now c.args.instr.now (Branch c.args.op c.number_of-in-14.result) _ _ _ (branch_told c.args.instr.now c.args.op 14 c.requires.0.run.spelled c.requires.1 c.in-14.is c.number_of-in-14.result refl c.number_of-in-14.ensures) c.first_branch_fast-in-14.ensures

pub first_branch_fast-requires-in-15 : goal.first_branch_fast-requires-in-15
first_branch_fast-requires-in-15 g c = (can_as c.args.linked.now g.out c.args.s.now c.args.instr.now (Branch c.args.op c.number_of-in-15.result) _ (branch_told c.args.instr.now c.args.op 15 c.requires.0.run.spelled c.requires.1 c.in-15.is c.number_of-in-15.result refl c.number_of-in-15.ensures) c.requires.0, ap (λ n. is_in n first_order_ops) c.in-15.is)

pub returns-in-15 : goal.returns-in-15
returns-in-15 g c = dispatches_as c.args.linked.now g.out c.args.s.now c.args.instr.now (Branch c.args.op c.number_of-in-15.result) _ _ _ (branch_told c.args.instr.now c.args.op 15 c.requires.0.run.spelled c.requires.1 c.in-15.is c.number_of-in-15.result refl c.number_of-in-15.ensures) c.first_branch_fast-in-15.ensures

pub first_branch_inline-requires : goal.first_branch_inline-requires
first_branch_inline-requires g c = (can_as c.args.linked.now g.out c.args.s.now c.args.instr.now (Branch c.args.op c.number_of-in-16.result) _ (branch_told c.args.instr.now c.args.op 16 c.requires.0.run.spelled c.requires.1 c.in-16.is c.number_of-in-16.result refl c.number_of-in-16.ensures) c.requires.0, ap (λ n. is_in n first_branch_ops) c.in-16.is)

pub returns-in-16 : goal.returns-in-16
returns-in-16 g c = dispatches_as c.args.linked.now g.out c.args.s.now c.args.instr.now (Branch c.args.op c.number_of-in-16.result) _ _ _ (branch_told c.args.instr.now c.args.op 16 c.requires.0.run.spelled c.requires.1 c.in-16.is c.number_of-in-16.result refl c.number_of-in-16.ensures) c.first_branch_inline.ensures

pub first_branch_inline-requires-in-17 : goal.first_branch_inline-requires-in-17
first_branch_inline-requires-in-17 g c = (can_as c.args.linked.now g.out c.args.s.now c.args.instr.now (Branch c.args.op c.number_of-in-17.result) _ (branch_told c.args.instr.now c.args.op 17 c.requires.0.run.spelled c.requires.1 c.in-17.is c.number_of-in-17.result refl c.number_of-in-17.ensures) c.requires.0, ap (λ n. is_in n first_branch_ops) c.in-17.is)

pub returns-in-17 : goal.returns-in-17
returns-in-17 g c = dispatches_as c.args.linked.now g.out c.args.s.now c.args.instr.now (Branch c.args.op c.number_of-in-17.result) _ _ _ (branch_told c.args.instr.now c.args.op 17 c.requires.0.run.spelled c.requires.1 c.in-17.is c.number_of-in-17.result refl c.number_of-in-17.ensures) c.first_branch_inline-in-17.ensures

pub first_branch_inline-requires-in-18 : goal.first_branch_inline-requires-in-18
first_branch_inline-requires-in-18 g c = (can_as c.args.linked.now g.out c.args.s.now c.args.instr.now (Branch c.args.op c.number_of-in-18.result) _ (branch_told c.args.instr.now c.args.op 18 c.requires.0.run.spelled c.requires.1 c.in-18.is c.number_of-in-18.result refl c.number_of-in-18.ensures) c.requires.0, ap (λ n. is_in n first_branch_ops) c.in-18.is)

pub returns-in-18 : goal.returns-in-18
returns-in-18 g c = dispatches_as c.args.linked.now g.out c.args.s.now c.args.instr.now (Branch c.args.op c.number_of-in-18.result) _ _ _ (branch_told c.args.instr.now c.args.op 18 c.requires.0.run.spelled c.requires.1 c.in-18.is c.number_of-in-18.result refl c.number_of-in-18.ensures) c.first_branch_inline-in-18.ensures

pub last_branch_fast-requires : goal.last_branch_fast-requires
last_branch_fast-requires g c = (can_as c.args.linked.now g.out c.args.s.now c.args.instr.now (Branch c.args.op c.number_of-in-21.result) _ (branch_told c.args.instr.now c.args.op 21 c.requires.0.run.spelled c.requires.1 c.in-21.is c.number_of-in-21.result refl c.number_of-in-21.ensures) c.requires.0, ap (λ n. is_in n last_order_ops) c.in-21.is)

pub returns-in-21 : goal.returns-in-21
returns-in-21 g c = dispatches_as c.args.linked.now g.out c.args.s.now c.args.instr.now (Branch c.args.op c.number_of-in-21.result) _ _ _ (branch_told c.args.instr.now c.args.op 21 c.requires.0.run.spelled c.requires.1 c.in-21.is c.number_of-in-21.result refl c.number_of-in-21.ensures) c.last_branch_fast.ensures

pub last_branch_fast-requires-in-22 : goal.last_branch_fast-requires-in-22
last_branch_fast-requires-in-22 g c = (can_as c.args.linked.now g.out c.args.s.now c.args.instr.now (Branch c.args.op c.number_of-in-22.result) _ (branch_told c.args.instr.now c.args.op 22 c.requires.0.run.spelled c.requires.1 c.in-22.is c.number_of-in-22.result refl c.number_of-in-22.ensures) c.requires.0, ap (λ n. is_in n last_order_ops) c.in-22.is)

pub returns-in-22 : goal.returns-in-22
returns-in-22 g c = dispatches_as c.args.linked.now g.out c.args.s.now c.args.instr.now (Branch c.args.op c.number_of-in-22.result) _ _ _ (branch_told c.args.instr.now c.args.op 22 c.requires.0.run.spelled c.requires.1 c.in-22.is c.number_of-in-22.result refl c.number_of-in-22.ensures) c.last_branch_fast-in-22.ensures

pub last_branch_fast-requires-in-23 : goal.last_branch_fast-requires-in-23
last_branch_fast-requires-in-23 g c = (can_as c.args.linked.now g.out c.args.s.now c.args.instr.now (Branch c.args.op c.number_of-in-23.result) _ (branch_told c.args.instr.now c.args.op 23 c.requires.0.run.spelled c.requires.1 c.in-23.is c.number_of-in-23.result refl c.number_of-in-23.ensures) c.requires.0, ap (λ n. is_in n last_order_ops) c.in-23.is)

pub returns-in-23 : goal.returns-in-23
returns-in-23 g c = dispatches_as c.args.linked.now g.out c.args.s.now c.args.instr.now (Branch c.args.op c.number_of-in-23.result) _ _ _ (branch_told c.args.instr.now c.args.op 23 c.requires.0.run.spelled c.requires.1 c.in-23.is c.number_of-in-23.result refl c.number_of-in-23.ensures) c.last_branch_fast-in-23.ensures

pub last_branch_fast-requires-in-24 : goal.last_branch_fast-requires-in-24
last_branch_fast-requires-in-24 g c = (can_as c.args.linked.now g.out c.args.s.now c.args.instr.now (Branch c.args.op c.number_of-in-24.result) _ (branch_told c.args.instr.now c.args.op 24 c.requires.0.run.spelled c.requires.1 c.in-24.is c.number_of-in-24.result refl c.number_of-in-24.ensures) c.requires.0, ap (λ n. is_in n last_order_ops) c.in-24.is)

pub returns-in-24 : goal.returns-in-24
returns-in-24 g c = dispatches_as c.args.linked.now g.out c.args.s.now c.args.instr.now (Branch c.args.op c.number_of-in-24.result) _ _ _ (branch_told c.args.instr.now c.args.op 24 c.requires.0.run.spelled c.requires.1 c.in-24.is c.number_of-in-24.result refl c.number_of-in-24.ensures) c.last_branch_fast-in-24.ensures

pub push_arm-requires : goal.push_arm-requires
push_arm-requires g c = (can_as c.args.linked.now g.out c.args.s.now c.args.instr.now (Plain c.args.op) _ (alone_told c.args.instr.now c.args.op 32 c.requires.0.run.spelled c.requires.1 c.in-32.is refl) c.requires.0, ap (λ n. is_in n push_ops) c.in-32.is)

pub returns-in-32 : goal.returns-in-32
returns-in-32 g c = dispatches_as c.args.linked.now g.out c.args.s.now c.args.instr.now (Plain c.args.op) _ _ _ (alone_told c.args.instr.now c.args.op 32 c.requires.0.run.spelled c.requires.1 c.in-32.is refl) c.push_arm.ensures

pub push_arm-requires-in-33 : goal.push_arm-requires-in-33
push_arm-requires-in-33 g c = (can_as c.args.linked.now g.out c.args.s.now c.args.instr.now (Plain c.args.op) _ (alone_told c.args.instr.now c.args.op 33 c.requires.0.run.spelled c.requires.1 c.in-33.is refl) c.requires.0, ap (λ n. is_in n push_ops) c.in-33.is)

pub returns-in-33 : goal.returns-in-33
returns-in-33 g c = dispatches_as c.args.linked.now g.out c.args.s.now c.args.instr.now (Plain c.args.op) _ _ _ (alone_told c.args.instr.now c.args.op 33 c.requires.0.run.spelled c.requires.1 c.in-33.is refl) c.push_arm-in-33.ensures

pub push_arm-requires-in-38 : goal.push_arm-requires-in-38
push_arm-requires-in-38 g c = (can_as c.args.linked.now g.out c.args.s.now c.args.instr.now (Plain c.args.op) _ (alone_told c.args.instr.now c.args.op 38 c.requires.0.run.spelled c.requires.1 c.in-38.is refl) c.requires.0, ap (λ n. is_in n push_ops) c.in-38.is)

pub returns-in-38 : goal.returns-in-38
returns-in-38 g c = dispatches_as c.args.linked.now g.out c.args.s.now c.args.instr.now (Plain c.args.op) _ _ _ (alone_told c.args.instr.now c.args.op 38 c.requires.0.run.spelled c.requires.1 c.in-38.is refl) c.push_arm-in-38.ensures

pub push_arm-requires-in-39 : goal.push_arm-requires-in-39
push_arm-requires-in-39 g c = (can_as c.args.linked.now g.out c.args.s.now c.args.instr.now (Plain c.args.op) _ (alone_told c.args.instr.now c.args.op 39 c.requires.0.run.spelled c.requires.1 c.in-39.is refl) c.requires.0, ap (λ n. is_in n push_ops) c.in-39.is)

pub returns-in-39 : goal.returns-in-39
returns-in-39 g c = dispatches_as c.args.linked.now g.out c.args.s.now c.args.instr.now (Plain c.args.op) _ _ _ (alone_told c.args.instr.now c.args.op 39 c.requires.0.run.spelled c.requires.1 c.in-39.is refl) c.push_arm-in-39.ensures

pub push_arm-requires-in-41 : goal.push_arm-requires-in-41
push_arm-requires-in-41 g c = (can_as c.args.linked.now g.out c.args.s.now c.args.instr.now (Plain c.args.op) _ (alone_told c.args.instr.now c.args.op 41 c.requires.0.run.spelled c.requires.1 c.in-41.is refl) c.requires.0, ap (λ n. is_in n push_ops) c.in-41.is)

pub returns-in-41 : goal.returns-in-41
returns-in-41 g c = dispatches_as c.args.linked.now g.out c.args.s.now c.args.instr.now (Plain c.args.op) _ _ _ (alone_told c.args.instr.now c.args.op 41 c.requires.0.run.spelled c.requires.1 c.in-41.is refl) c.push_arm-in-41.ensures

pub push_arm-requires-in-42 : goal.push_arm-requires-in-42
push_arm-requires-in-42 g c = (can_as c.args.linked.now g.out c.args.s.now c.args.instr.now (Plain c.args.op) _ (alone_told c.args.instr.now c.args.op 42 c.requires.0.run.spelled c.requires.1 c.in-42.is refl) c.requires.0, ap (λ n. is_in n push_ops) c.in-42.is)

pub returns-in-42 : goal.returns-in-42
returns-in-42 g c = dispatches_as c.args.linked.now g.out c.args.s.now c.args.instr.now (Plain c.args.op) _ _ _ (alone_told c.args.instr.now c.args.op 42 c.requires.0.run.spelled c.requires.1 c.in-42.is refl) c.push_arm-in-42.ensures

pub push_arm-requires-in-43 : goal.push_arm-requires-in-43
push_arm-requires-in-43 g c = (can_as c.args.linked.now g.out c.args.s.now c.args.instr.now (Plain c.args.op) _ (alone_told c.args.instr.now c.args.op 43 c.requires.0.run.spelled c.requires.1 c.in-43.is refl) c.requires.0, ap (λ n. is_in n push_ops) c.in-43.is)

pub returns-in-43 : goal.returns-in-43
returns-in-43 g c = dispatches_as c.args.linked.now g.out c.args.s.now c.args.instr.now (Plain c.args.op) _ _ _ (alone_told c.args.instr.now c.args.op 43 c.requires.0.run.spelled c.requires.1 c.in-43.is refl) c.push_arm-in-43.ensures

pub constant_inline-requires : goal.constant_inline-requires
constant_inline-requires g c = (can_as c.args.linked.now g.out c.args.s.now c.args.instr.now (One c.args.op c.number_of-in-45.result) _ (numbered_told c.args.instr.now c.args.op 45 c.requires.0.run.spelled c.requires.1 c.in-45.is c.number_of-in-45.result refl c.number_of-in-45.ensures) c.requires.0, ap (λ n. is_in n constant_ops) c.in-45.is)

pub returns-in-45 : goal.returns-in-45
returns-in-45 g c = dispatches_as c.args.linked.now g.out c.args.s.now c.args.instr.now (One c.args.op c.number_of-in-45.result) _ _ _ (numbered_told c.args.instr.now c.args.op 45 c.requires.0.run.spelled c.requires.1 c.in-45.is c.number_of-in-45.result refl c.number_of-in-45.ensures) c.constant_inline.ensures

pub property_call_arm-requires : goal.property_call_arm-requires
property_call_arm-requires g c = (can_as c.args.linked.now g.out c.args.s.now c.args.instr.now (Two c.args.op c.number_of-in-70.result c.second_of.result) _ (paired_told c.args.instr.now c.args.op 70 c.requires.0.run.spelled c.requires.1 c.in-70.is c.number_of-in-70.result c.second_of.result refl c.number_of-in-70.ensures c.second_of.ensures) c.requires.0, ap (λ n. is_in n property_call_ops) c.in-70.is)

pub returns-in-70 : goal.returns-in-70
returns-in-70 g c = dispatches_as c.args.linked.now g.out c.args.s.now c.args.instr.now (Two c.args.op c.number_of-in-70.result c.second_of.result) _ _ _ (paired_told c.args.instr.now c.args.op 70 c.requires.0.run.spelled c.requires.1 c.in-70.is c.number_of-in-70.result c.second_of.result refl c.number_of-in-70.ensures c.second_of.ensures) c.property_call_arm.ensures

pub return_arm-requires : goal.return_arm-requires
return_arm-requires g c = (can_as c.args.linked.now g.out c.args.s.now c.args.instr.now (Plain c.args.op) _ (alone_told c.args.instr.now c.args.op 71 c.requires.0.run.spelled c.requires.1 c.in-71.is refl) c.requires.0, ap (λ n. is_in n return_ops) c.in-71.is)

pub returns-in-71 : goal.returns-in-71
returns-in-71 g c = dispatches_as c.args.linked.now g.out c.args.s.now c.args.instr.now (Plain c.args.op) _ _ _ (alone_told c.args.instr.now c.args.op 71 c.requires.0.run.spelled c.requires.1 c.in-71.is refl) c.return_arm.ensures

pub return_arm-requires-in-72 : goal.return_arm-requires-in-72
return_arm-requires-in-72 g c = (can_as c.args.linked.now g.out c.args.s.now c.args.instr.now (Plain c.args.op) _ (alone_told c.args.instr.now c.args.op 72 c.requires.0.run.spelled c.requires.1 c.in-72.is refl) c.requires.0, ap (λ n. is_in n return_ops) c.in-72.is)

pub returns-in-72 : goal.returns-in-72
returns-in-72 g c = dispatches_as c.args.linked.now g.out c.args.s.now c.args.instr.now (Plain c.args.op) _ _ _ (alone_told c.args.instr.now c.args.op 72 c.requires.0.run.spelled c.requires.1 c.in-72.is refl) c.return_arm-in-72.ensures

pub property_call_arm-requires-in-79 : goal.property_call_arm-requires-in-79
property_call_arm-requires-in-79 g c = (can_as c.args.linked.now g.out c.args.s.now c.args.instr.now (Two c.args.op c.number_of-in-79.result c.second_of-in-79.result) _ (paired_told c.args.instr.now c.args.op 79 c.requires.0.run.spelled c.requires.1 c.in-79.is c.number_of-in-79.result c.second_of-in-79.result refl c.number_of-in-79.ensures c.second_of-in-79.ensures) c.requires.0, ap (λ n. is_in n property_call_ops) c.in-79.is)

pub returns-in-79 : goal.returns-in-79
returns-in-79 g c = dispatches_as c.args.linked.now g.out c.args.s.now c.args.instr.now (Two c.args.op c.number_of-in-79.result c.second_of-in-79.result) _ _ _ (paired_told c.args.instr.now c.args.op 79 c.requires.0.run.spelled c.requires.1 c.in-79.is c.number_of-in-79.result c.second_of-in-79.result refl c.number_of-in-79.ensures c.second_of-in-79.ensures) c.property_call_arm-in-79.ensures

pub find_arm-requires : goal.find_arm-requires
find_arm-requires g c = (can_as c.args.linked.now g.out c.args.s.now c.args.instr.now (One c.args.op c.number_of-in-93.result) _ (numbered_told c.args.instr.now c.args.op 93 c.requires.0.run.spelled c.requires.1 c.in-93.is c.number_of-in-93.result refl c.number_of-in-93.ensures) c.requires.0, ap (λ n. is_in n find_ops) c.in-93.is)

pub returns-in-93 : goal.returns-in-93
returns-in-93 g c = dispatches_as c.args.linked.now g.out c.args.s.now c.args.instr.now (One c.args.op c.number_of-in-93.result) _ _ _ (numbered_told c.args.instr.now c.args.op 93 c.requires.0.run.spelled c.requires.1 c.in-93.is c.number_of-in-93.result refl c.number_of-in-93.ensures) c.find_arm.ensures

pub find_arm-requires-in-96 : goal.find_arm-requires-in-96
find_arm-requires-in-96 g c = (can_as c.args.linked.now g.out c.args.s.now c.args.instr.now (One c.args.op c.number_of-in-96.result) _ (numbered_told c.args.instr.now c.args.op 96 c.requires.0.run.spelled c.requires.1 c.in-96.is c.number_of-in-96.result refl c.number_of-in-96.ensures) c.requires.0, ap (λ n. is_in n find_ops) c.in-96.is)

pub returns-in-96 : goal.returns-in-96
returns-in-96 g c = dispatches_as c.args.linked.now g.out c.args.s.now c.args.instr.now (One c.args.op c.number_of-in-96.result) _ _ _ (numbered_told c.args.instr.now c.args.op 96 c.requires.0.run.spelled c.requires.1 c.in-96.is c.number_of-in-96.result refl c.number_of-in-96.ensures) c.find_arm-in-96.ensures

pub property_fast-requires : goal.property_fast-requires
property_fast-requires g c = (can_as c.args.linked.now g.out c.args.s.now c.args.instr.now (One c.args.op c.number_of-in-97.result) _ (numbered_told c.args.instr.now c.args.op 97 c.requires.0.run.spelled c.requires.1 c.in-97.is c.number_of-in-97.result refl c.number_of-in-97.ensures) c.requires.0, ap (λ n. is_in n property_ops) c.in-97.is)

pub returns-in-97 : goal.returns-in-97
returns-in-97 g c = dispatches_as c.args.linked.now g.out c.args.s.now c.args.instr.now (One c.args.op c.number_of-in-97.result) _ _ _ (numbered_told c.args.instr.now c.args.op 97 c.requires.0.run.spelled c.requires.1 c.in-97.is c.number_of-in-97.result refl c.number_of-in-97.ensures) c.property_fast.ensures

pub constant_inline-requires-in-98 : goal.constant_inline-requires-in-98
constant_inline-requires-in-98 g c = (can_as c.args.linked.now g.out c.args.s.now c.args.instr.now (One c.args.op c.number_of-in-98.result) _ (numbered_told c.args.instr.now c.args.op 98 c.requires.0.run.spelled c.requires.1 c.in-98.is c.number_of-in-98.result refl c.number_of-in-98.ensures) c.requires.0, ap (λ n. is_in n constant_ops) c.in-98.is)

pub returns-in-98 : goal.returns-in-98
returns-in-98 g c = dispatches_as c.args.linked.now g.out c.args.s.now c.args.instr.now (One c.args.op c.number_of-in-98.result) _ _ _ (numbered_told c.args.instr.now c.args.op 98 c.requires.0.run.spelled c.requires.1 c.in-98.is c.number_of-in-98.result refl c.number_of-in-98.ensures) c.constant_inline-in-98.ensures

pub constant_inline-requires-in-99 : goal.constant_inline-requires-in-99
constant_inline-requires-in-99 g c = (can_as c.args.linked.now g.out c.args.s.now c.args.instr.now (One c.args.op c.number_of-in-99.result) _ (numbered_told c.args.instr.now c.args.op 99 c.requires.0.run.spelled c.requires.1 c.in-99.is c.number_of-in-99.result refl c.number_of-in-99.ensures) c.requires.0, ap (λ n. is_in n constant_ops) c.in-99.is)

pub returns-in-99 : goal.returns-in-99
returns-in-99 g c = dispatches_as c.args.linked.now g.out c.args.s.now c.args.instr.now (One c.args.op c.number_of-in-99.result) _ _ _ (numbered_told c.args.instr.now c.args.op 99 c.requires.0.run.spelled c.requires.1 c.in-99.is c.number_of-in-99.result refl c.number_of-in-99.ensures) c.constant_inline-in-99.ensures

pub property_fast-requires-in-102 : goal.property_fast-requires-in-102
property_fast-requires-in-102 g c = (can_as c.args.linked.now g.out c.args.s.now c.args.instr.now (One c.args.op c.number_of-in-102.result) _ (numbered_told c.args.instr.now c.args.op 102 c.requires.0.run.spelled c.requires.1 c.in-102.is c.number_of-in-102.result refl c.number_of-in-102.ensures) c.requires.0, ap (λ n. is_in n property_ops) c.in-102.is)

pub returns-in-102 : goal.returns-in-102
returns-in-102 g c = dispatches_as c.args.linked.now g.out c.args.s.now c.args.instr.now (One c.args.op c.number_of-in-102.result) _ _ _ (numbered_told c.args.instr.now c.args.op 102 c.requires.0.run.spelled c.requires.1 c.in-102.is c.number_of-in-102.result refl c.number_of-in-102.ensures) c.property_fast-in-102.ensures

pub slot_arm-requires : goal.slot_arm-requires
slot_arm-requires g c = (can_as c.args.linked.now g.out c.args.s.now c.args.instr.now (One c.args.op c.number_of-in-108.result) _ (numbered_told c.args.instr.now c.args.op 108 c.requires.0.run.spelled c.requires.1 c.in-108.is c.number_of-in-108.result refl c.number_of-in-108.ensures) c.requires.0, ap (λ n. is_in n slot_ops) c.in-108.is)

pub returns-in-108 : goal.returns-in-108
returns-in-108 g c = dispatches_as c.args.linked.now g.out c.args.s.now c.args.instr.now (One c.args.op c.number_of-in-108.result) _ _ _ (numbered_told c.args.instr.now c.args.op 108 c.requires.0.run.spelled c.requires.1 c.in-108.is c.number_of-in-108.result refl c.number_of-in-108.ensures) c.slot_arm.ensures

pub slot_arm-requires-in-109 : goal.slot_arm-requires-in-109
slot_arm-requires-in-109 g c = (can_as c.args.linked.now g.out c.args.s.now c.args.instr.now (One c.args.op c.number_of-in-109.result) _ (numbered_told c.args.instr.now c.args.op 109 c.requires.0.run.spelled c.requires.1 c.in-109.is c.number_of-in-109.result refl c.number_of-in-109.ensures) c.requires.0, ap (λ n. is_in n slot_ops) c.in-109.is)

pub returns-in-109 : goal.returns-in-109
returns-in-109 g c = dispatches_as c.args.linked.now g.out c.args.s.now c.args.instr.now (One c.args.op c.number_of-in-109.result) _ _ _ (numbered_told c.args.instr.now c.args.op 109 c.requires.0.run.spelled c.requires.1 c.in-109.is c.number_of-in-109.result refl c.number_of-in-109.ensures) c.slot_arm-in-109.ensures

pub convert_fast-requires : goal.convert_fast-requires
convert_fast-requires g c = (can_as c.args.linked.now g.out c.args.s.now c.args.instr.now (Plain c.args.op) _ (alone_told c.args.instr.now c.args.op 115 c.requires.0.run.spelled c.requires.1 c.in-115.is refl) c.requires.0, ap (λ n. is_in n to_number_ops) c.in-115.is)

pub returns-in-115 : goal.returns-in-115
returns-in-115 g c = dispatches_as c.args.linked.now g.out c.args.s.now c.args.instr.now (Plain c.args.op) _ _ _ (alone_told c.args.instr.now c.args.op 115 c.requires.0.run.spelled c.requires.1 c.in-115.is refl) c.convert_fast.ensures

pub convert_fast-requires-in-116 : goal.convert_fast-requires-in-116
convert_fast-requires-in-116 g c = (can_as c.args.linked.now g.out c.args.s.now c.args.instr.now (Plain c.args.op) _ (alone_told c.args.instr.now c.args.op 116 c.requires.0.run.spelled c.requires.1 c.in-116.is refl) c.requires.0, ap (λ n. is_in n to_number_ops) c.in-116.is)

pub returns-in-116 : goal.returns-in-116
returns-in-116 g c = dispatches_as c.args.linked.now g.out c.args.s.now c.args.instr.now (Plain c.args.op) _ _ _ (alone_told c.args.instr.now c.args.op 116 c.requires.0.run.spelled c.requires.1 c.in-116.is refl) c.convert_fast-in-116.ensures

pub convert_fast-requires-in-117 : goal.convert_fast-requires-in-117
convert_fast-requires-in-117 g c = (can_as c.args.linked.now g.out c.args.s.now c.args.instr.now (Plain c.args.op) _ (alone_told c.args.instr.now c.args.op 117 c.requires.0.run.spelled c.requires.1 c.in-117.is refl) c.requires.0, ap (λ n. is_in n to_number_ops) c.in-117.is)

pub returns-in-117 : goal.returns-in-117
returns-in-117 g c = dispatches_as c.args.linked.now g.out c.args.s.now c.args.instr.now (Plain c.args.op) _ _ _ (alone_told c.args.instr.now c.args.op 117 c.requires.0.run.spelled c.requires.1 c.in-117.is refl) c.convert_fast-in-117.ensures

pub single_arm-requires : goal.single_arm-requires
single_arm-requires g c = (can_as c.args.linked.now g.out c.args.s.now c.args.instr.now (Plain c.args.op) _ (alone_told c.args.instr.now c.args.op 145 c.requires.0.run.spelled c.requires.1 c.in-145.is refl) c.requires.0, ap (λ n. is_in n single_ops) c.in-145.is)

pub returns-in-145 : goal.returns-in-145
returns-in-145 g c = dispatches_as c.args.linked.now g.out c.args.s.now c.args.instr.now (Plain c.args.op) _ _ _ (alone_told c.args.instr.now c.args.op 145 c.requires.0.run.spelled c.requires.1 c.in-145.is refl) c.single_arm.ensures

pub single_arm-requires-in-147 : goal.single_arm-requires-in-147
single_arm-requires-in-147 g c = (can_as c.args.linked.now g.out c.args.s.now c.args.instr.now (Plain c.args.op) _ (alone_told c.args.instr.now c.args.op 147 c.requires.0.run.spelled c.requires.1 c.in-147.is refl) c.requires.0, ap (λ n. is_in n single_ops) c.in-147.is)

pub returns-in-147 : goal.returns-in-147
returns-in-147 g c = dispatches_as c.args.linked.now g.out c.args.s.now c.args.instr.now (Plain c.args.op) _ _ _ (alone_told c.args.instr.now c.args.op 147 c.requires.0.run.spelled c.requires.1 c.in-147.is refl) c.single_arm-in-147.ensures

pub single_arm-requires-in-150 : goal.single_arm-requires-in-150
single_arm-requires-in-150 g c = (can_as c.args.linked.now g.out c.args.s.now c.args.instr.now (Plain c.args.op) _ (alone_told c.args.instr.now c.args.op 150 c.requires.0.run.spelled c.requires.1 c.in-150.is refl) c.requires.0, ap (λ n. is_in n single_ops) c.in-150.is)

pub returns-in-150 : goal.returns-in-150
returns-in-150 g c = dispatches_as c.args.linked.now g.out c.args.s.now c.args.instr.now (Plain c.args.op) _ _ _ (alone_told c.args.instr.now c.args.op 150 c.requires.0.run.spelled c.requires.1 c.in-150.is refl) c.single_arm-in-150.ensures

pub double_fast-requires : goal.double_fast-requires
double_fast-requires g c = (can_as c.args.linked.now g.out c.args.s.now c.args.instr.now (Plain c.args.op) _ (alone_told c.args.instr.now c.args.op 160 c.requires.0.run.spelled c.requires.1 c.in-160.is refl) c.requires.0, ap (λ n. is_in n double_ops) c.in-160.is)

pub returns-in-160 : goal.returns-in-160
returns-in-160 g c = dispatches_as c.args.linked.now g.out c.args.s.now c.args.instr.now (Plain c.args.op) _ _ _ (alone_told c.args.instr.now c.args.op 160 c.requires.0.run.spelled c.requires.1 c.in-160.is refl) c.double_fast.ensures

pub double_fast-requires-in-161 : goal.double_fast-requires-in-161
double_fast-requires-in-161 g c = (can_as c.args.linked.now g.out c.args.s.now c.args.instr.now (Plain c.args.op) _ (alone_told c.args.instr.now c.args.op 161 c.requires.0.run.spelled c.requires.1 c.in-161.is refl) c.requires.0, ap (λ n. is_in n double_ops) c.in-161.is)

pub returns-in-161 : goal.returns-in-161
returns-in-161 g c = dispatches_as c.args.linked.now g.out c.args.s.now c.args.instr.now (Plain c.args.op) _ _ _ (alone_told c.args.instr.now c.args.op 161 c.requires.0.run.spelled c.requires.1 c.in-161.is refl) c.double_fast-in-161.ensures

pub double_fast-requires-in-162 : goal.double_fast-requires-in-162
double_fast-requires-in-162 g c = (can_as c.args.linked.now g.out c.args.s.now c.args.instr.now (Plain c.args.op) _ (alone_told c.args.instr.now c.args.op 162 c.requires.0.run.spelled c.requires.1 c.in-162.is refl) c.requires.0, ap (λ n. is_in n double_ops) c.in-162.is)

pub returns-in-162 : goal.returns-in-162
returns-in-162 g c = dispatches_as c.args.linked.now g.out c.args.s.now c.args.instr.now (Plain c.args.op) _ _ _ (alone_told c.args.instr.now c.args.op 162 c.requires.0.run.spelled c.requires.1 c.in-162.is refl) c.double_fast-in-162.ensures

pub double_fast-requires-in-165 : goal.double_fast-requires-in-165
double_fast-requires-in-165 g c = (can_as c.args.linked.now g.out c.args.s.now c.args.instr.now (Plain c.args.op) _ (alone_told c.args.instr.now c.args.op 165 c.requires.0.run.spelled c.requires.1 c.in-165.is refl) c.requires.0, ap (λ n. is_in n double_ops) c.in-165.is)

pub returns-in-165 : goal.returns-in-165
returns-in-165 g c = dispatches_as c.args.linked.now g.out c.args.s.now c.args.instr.now (Plain c.args.op) _ _ _ (alone_told c.args.instr.now c.args.op 165 c.requires.0.run.spelled c.requires.1 c.in-165.is refl) c.double_fast-in-165.ensures

pub double_fast-requires-in-166 : goal.double_fast-requires-in-166
double_fast-requires-in-166 g c = (can_as c.args.linked.now g.out c.args.s.now c.args.instr.now (Plain c.args.op) _ (alone_told c.args.instr.now c.args.op 166 c.requires.0.run.spelled c.requires.1 c.in-166.is refl) c.requires.0, ap (λ n. is_in n double_ops) c.in-166.is)

pub returns-in-166 : goal.returns-in-166
returns-in-166 g c = dispatches_as c.args.linked.now g.out c.args.s.now c.args.instr.now (Plain c.args.op) _ _ _ (alone_told c.args.instr.now c.args.op 166 c.requires.0.run.spelled c.requires.1 c.in-166.is refl) c.double_fast-in-166.ensures

pub double_fast-requires-in-167 : goal.double_fast-requires-in-167
double_fast-requires-in-167 g c = (can_as c.args.linked.now g.out c.args.s.now c.args.instr.now (Plain c.args.op) _ (alone_told c.args.instr.now c.args.op 167 c.requires.0.run.spelled c.requires.1 c.in-167.is refl) c.requires.0, ap (λ n. is_in n double_ops) c.in-167.is)

pub returns-in-167 : goal.returns-in-167
returns-in-167 g c = dispatches_as c.args.linked.now g.out c.args.s.now c.args.instr.now (Plain c.args.op) _ _ _ (alone_told c.args.instr.now c.args.op 167 c.requires.0.run.spelled c.requires.1 c.in-167.is refl) c.double_fast-in-167.ensures

pub double_fast-requires-in-168 : goal.double_fast-requires-in-168
double_fast-requires-in-168 g c = (can_as c.args.linked.now g.out c.args.s.now c.args.instr.now (Plain c.args.op) _ (alone_told c.args.instr.now c.args.op 168 c.requires.0.run.spelled c.requires.1 c.in-168.is refl) c.requires.0, ap (λ n. is_in n double_ops) c.in-168.is)

pub returns-in-168 : goal.returns-in-168
returns-in-168 g c = dispatches_as c.args.linked.now g.out c.args.s.now c.args.instr.now (Plain c.args.op) _ _ _ (alone_told c.args.instr.now c.args.op 168 c.requires.0.run.spelled c.requires.1 c.in-168.is refl) c.double_fast-in-168.ensures

pub double_fast-requires-in-169 : goal.double_fast-requires-in-169
double_fast-requires-in-169 g c = (can_as c.args.linked.now g.out c.args.s.now c.args.instr.now (Plain c.args.op) _ (alone_told c.args.instr.now c.args.op 169 c.requires.0.run.spelled c.requires.1 c.in-169.is refl) c.requires.0, ap (λ n. is_in n double_ops) c.in-169.is)

pub returns-in-169 : goal.returns-in-169
returns-in-169 g c = dispatches_as c.args.linked.now g.out c.args.s.now c.args.instr.now (Plain c.args.op) _ _ _ (alone_told c.args.instr.now c.args.op 169 c.requires.0.run.spelled c.requires.1 c.in-169.is refl) c.double_fast-in-169.ensures

pub double_fast-requires-in-170 : goal.double_fast-requires-in-170
double_fast-requires-in-170 g c = (can_as c.args.linked.now g.out c.args.s.now c.args.instr.now (Plain c.args.op) _ (alone_told c.args.instr.now c.args.op 170 c.requires.0.run.spelled c.requires.1 c.in-170.is refl) c.requires.0, ap (λ n. is_in n double_ops) c.in-170.is)

pub returns-in-170 : goal.returns-in-170
returns-in-170 g c = dispatches_as c.args.linked.now g.out c.args.s.now c.args.instr.now (Plain c.args.op) _ _ _ (alone_told c.args.instr.now c.args.op 170 c.requires.0.run.spelled c.requires.1 c.in-170.is refl) c.double_fast-in-170.ensures

pub single_arm-requires-in-192 : goal.single_arm-requires-in-192
single_arm-requires-in-192 g c = (can_as c.args.linked.now g.out c.args.s.now c.args.instr.now (Plain c.args.op) _ (alone_told c.args.instr.now c.args.op 192 c.requires.0.run.spelled c.requires.1 c.in-192.is refl) c.requires.0, ap (λ n. is_in n single_ops) c.in-192.is)

pub returns-in-192 : goal.returns-in-192
returns-in-192 g c = dispatches_as c.args.linked.now g.out c.args.s.now c.args.instr.now (Plain c.args.op) _ _ _ (alone_told c.args.instr.now c.args.op 192 c.requires.0.run.spelled c.requires.1 c.in-192.is refl) c.single_arm-in-192.ensures

pub single_arm-requires-in-193 : goal.single_arm-requires-in-193
single_arm-requires-in-193 g c = (can_as c.args.linked.now g.out c.args.s.now c.args.instr.now (Plain c.args.op) _ (alone_told c.args.instr.now c.args.op 193 c.requires.0.run.spelled c.requires.1 c.in-193.is refl) c.requires.0, ap (λ n. is_in n single_ops) c.in-193.is)

pub returns-in-193 : goal.returns-in-193
returns-in-193 g c = dispatches_as c.args.linked.now g.out c.args.s.now c.args.instr.now (Plain c.args.op) _ _ _ (alone_told c.args.instr.now c.args.op 193 c.requires.0.run.spelled c.requires.1 c.in-193.is refl) c.single_arm-in-193.ensures

pub count_arm-requires : goal.count_arm-requires
count_arm-requires g c = (can_as c.args.linked.now g.out c.args.s.now c.args.instr.now (One c.args.op c.number_of-in-194.result) _ (numbered_told c.args.instr.now c.args.op 194 c.requires.0.run.spelled c.requires.1 c.in-194.is c.number_of-in-194.result refl c.number_of-in-194.ensures) c.requires.0, ap (λ n. is_in n count_ops) c.in-194.is)

pub returns-in-194 : goal.returns-in-194
returns-in-194 g c = dispatches_as c.args.linked.now g.out c.args.s.now c.args.instr.now (One c.args.op c.number_of-in-194.result) _ _ _ (numbered_told c.args.instr.now c.args.op 194 c.requires.0.run.spelled c.requires.1 c.in-194.is c.number_of-in-194.result refl c.number_of-in-194.ensures) c.count_arm.ensures

pub count_arm-requires-in-195 : goal.count_arm-requires-in-195
count_arm-requires-in-195 g c = (can_as c.args.linked.now g.out c.args.s.now c.args.instr.now (One c.args.op c.number_of-in-195.result) _ (numbered_told c.args.instr.now c.args.op 195 c.requires.0.run.spelled c.requires.1 c.in-195.is c.number_of-in-195.result refl c.number_of-in-195.ensures) c.requires.0, ap (λ n. is_in n count_ops) c.in-195.is)

pub returns-in-195 : goal.returns-in-195
returns-in-195 g c = dispatches_as c.args.linked.now g.out c.args.s.now c.args.instr.now (One c.args.op c.number_of-in-195.result) _ _ _ (numbered_told c.args.instr.now c.args.op 195 c.requires.0.run.spelled c.requires.1 c.in-195.is c.number_of-in-195.result refl c.number_of-in-195.ensures) c.count_arm-in-195.ensures

pub double_fast-requires-in-197 : goal.double_fast-requires-in-197
double_fast-requires-in-197 g c = (can_as c.args.linked.now g.out c.args.s.now c.args.instr.now (Plain c.args.op) _ (alone_told c.args.instr.now c.args.op 197 c.requires.0.run.spelled c.requires.1 c.in-197.is refl) c.requires.0, ap (λ n. is_in n double_ops) c.in-197.is)

pub returns-in-197 : goal.returns-in-197
returns-in-197 g c = dispatches_as c.args.linked.now g.out c.args.s.now c.args.instr.now (Plain c.args.op) _ _ _ (alone_told c.args.instr.now c.args.op 197 c.requires.0.run.spelled c.requires.1 c.in-197.is refl) c.double_fast-in-197.ensures

pub double_fast-requires-in-198 : goal.double_fast-requires-in-198
double_fast-requires-in-198 g c = (can_as c.args.linked.now g.out c.args.s.now c.args.instr.now (Plain c.args.op) _ (alone_told c.args.instr.now c.args.op 198 c.requires.0.run.spelled c.requires.1 c.in-198.is refl) c.requires.0, ap (λ n. is_in n double_ops) c.in-198.is)

pub returns-in-198 : goal.returns-in-198
returns-in-198 g c = dispatches_as c.args.linked.now g.out c.args.s.now c.args.instr.now (Plain c.args.op) _ _ _ (alone_told c.args.instr.now c.args.op 198 c.requires.0.run.spelled c.requires.1 c.in-198.is refl) c.double_fast-in-198.ensures

pub double_fast-requires-in-199 : goal.double_fast-requires-in-199
double_fast-requires-in-199 g c = (can_as c.args.linked.now g.out c.args.s.now c.args.instr.now (Plain c.args.op) _ (alone_told c.args.instr.now c.args.op 199 c.requires.0.run.spelled c.requires.1 c.in-199.is refl) c.requires.0, ap (λ n. is_in n double_ops) c.in-199.is)

pub returns-in-199 : goal.returns-in-199
returns-in-199 g c = dispatches_as c.args.linked.now g.out c.args.s.now c.args.instr.now (Plain c.args.op) _ _ _ (alone_told c.args.instr.now c.args.op 199 c.requires.0.run.spelled c.requires.1 c.in-199.is refl) c.double_fast-in-199.ensures

pub local_arm-requires : goal.local_arm-requires
local_arm-requires g c = (can_as c.args.linked.now g.out c.args.s.now c.args.instr.now (Plain c.args.op) _ (alone_told c.args.instr.now c.args.op 208 c.requires.0.run.spelled c.requires.1 c.in-208.is refl) c.requires.0, ap (λ n. is_in n local_ops) c.in-208.is)

pub returns-in-208 : goal.returns-in-208
returns-in-208 g c = dispatches_as c.args.linked.now g.out c.args.s.now c.args.instr.now (Plain c.args.op) _ _ _ (alone_told c.args.instr.now c.args.op 208 c.requires.0.run.spelled c.requires.1 c.in-208.is refl) c.local_arm.ensures

pub local_arm-requires-in-209 : goal.local_arm-requires-in-209
local_arm-requires-in-209 g c = (can_as c.args.linked.now g.out c.args.s.now c.args.instr.now (Plain c.args.op) _ (alone_told c.args.instr.now c.args.op 209 c.requires.0.run.spelled c.requires.1 c.in-209.is refl) c.requires.0, ap (λ n. is_in n local_ops) c.in-209.is)

pub returns-in-209 : goal.returns-in-209
returns-in-209 g c = dispatches_as c.args.linked.now g.out c.args.s.now c.args.instr.now (Plain c.args.op) _ _ _ (alone_told c.args.instr.now c.args.op 209 c.requires.0.run.spelled c.requires.1 c.in-209.is refl) c.local_arm-in-209.ensures

pub local_arm-requires-in-210 : goal.local_arm-requires-in-210
local_arm-requires-in-210 g c = (can_as c.args.linked.now g.out c.args.s.now c.args.instr.now (Plain c.args.op) _ (alone_told c.args.instr.now c.args.op 210 c.requires.0.run.spelled c.requires.1 c.in-210.is refl) c.requires.0, ap (λ n. is_in n local_ops) c.in-210.is)

pub returns-in-210 : goal.returns-in-210
returns-in-210 g c = dispatches_as c.args.linked.now g.out c.args.s.now c.args.instr.now (Plain c.args.op) _ _ _ (alone_told c.args.instr.now c.args.op 210 c.requires.0.run.spelled c.requires.1 c.in-210.is refl) c.local_arm-in-210.ensures

pub local_arm-requires-in-211 : goal.local_arm-requires-in-211
local_arm-requires-in-211 g c = (can_as c.args.linked.now g.out c.args.s.now c.args.instr.now (Plain c.args.op) _ (alone_told c.args.instr.now c.args.op 211 c.requires.0.run.spelled c.requires.1 c.in-211.is refl) c.requires.0, ap (λ n. is_in n local_ops) c.in-211.is)

pub returns-in-211 : goal.returns-in-211
returns-in-211 g c = dispatches_as c.args.linked.now g.out c.args.s.now c.args.instr.now (Plain c.args.op) _ _ _ (alone_told c.args.instr.now c.args.op 211 c.requires.0.run.spelled c.requires.1 c.in-211.is refl) c.local_arm-in-211.ensures

pub local_arm-requires-in-212 : goal.local_arm-requires-in-212
local_arm-requires-in-212 g c = (can_as c.args.linked.now g.out c.args.s.now c.args.instr.now (Plain c.args.op) _ (alone_told c.args.instr.now c.args.op 212 c.requires.0.run.spelled c.requires.1 c.in-212.is refl) c.requires.0, ap (λ n. is_in n local_ops) c.in-212.is)

pub returns-in-212 : goal.returns-in-212
returns-in-212 g c = dispatches_as c.args.linked.now g.out c.args.s.now c.args.instr.now (Plain c.args.op) _ _ _ (alone_told c.args.instr.now c.args.op 212 c.requires.0.run.spelled c.requires.1 c.in-212.is refl) c.local_arm-in-212.ensures

pub local_arm-requires-in-213 : goal.local_arm-requires-in-213
local_arm-requires-in-213 g c = (can_as c.args.linked.now g.out c.args.s.now c.args.instr.now (Plain c.args.op) _ (alone_told c.args.instr.now c.args.op 213 c.requires.0.run.spelled c.requires.1 c.in-213.is refl) c.requires.0, ap (λ n. is_in n local_ops) c.in-213.is)

pub returns-in-213 : goal.returns-in-213
returns-in-213 g c = dispatches_as c.args.linked.now g.out c.args.s.now c.args.instr.now (Plain c.args.op) _ _ _ (alone_told c.args.instr.now c.args.op 213 c.requires.0.run.spelled c.requires.1 c.in-213.is refl) c.local_arm-in-213.ensures

pub local_arm-requires-in-214 : goal.local_arm-requires-in-214
local_arm-requires-in-214 g c = (can_as c.args.linked.now g.out c.args.s.now c.args.instr.now (Plain c.args.op) _ (alone_told c.args.instr.now c.args.op 214 c.requires.0.run.spelled c.requires.1 c.in-214.is refl) c.requires.0, ap (λ n. is_in n local_ops) c.in-214.is)

pub returns-in-214 : goal.returns-in-214
returns-in-214 g c = dispatches_as c.args.linked.now g.out c.args.s.now c.args.instr.now (Plain c.args.op) _ _ _ (alone_told c.args.instr.now c.args.op 214 c.requires.0.run.spelled c.requires.1 c.in-214.is refl) c.local_arm-in-214.ensures

pub local_arm-requires-in-215 : goal.local_arm-requires-in-215
local_arm-requires-in-215 g c = (can_as c.args.linked.now g.out c.args.s.now c.args.instr.now (Plain c.args.op) _ (alone_told c.args.instr.now c.args.op 215 c.requires.0.run.spelled c.requires.1 c.in-215.is refl) c.requires.0, ap (λ n. is_in n local_ops) c.in-215.is)

pub returns-in-215 : goal.returns-in-215
returns-in-215 g c = dispatches_as c.args.linked.now g.out c.args.s.now c.args.instr.now (Plain c.args.op) _ _ _ (alone_told c.args.instr.now c.args.op 215 c.requires.0.run.spelled c.requires.1 c.in-215.is refl) c.local_arm-in-215.ensures

pub run_other-requires : goal.run_other-requires
run_other-requires g c = c.requires.0

use Rattle.abc_run_dispatch.proofs.MemberOps.{done_at, op_61, op_66, op_68}
use Rattle.abc_run_values.proofs.Doing.{can_at}
use Rattle.abc_file_types.specs.declared.code.Instr.TheVariants.{One}
use Rattle.abc_run_dispatch.proofs.properties.run_property_fast.Goals as goal

pub set_property_fast-requires : goal.set_property_fast-requires
set_property_fast-requires g c =
    let can = can_at c.args.linked.now g.out c.args.s.now (λ o. One o c.args.n) c.args.op 97 c.in-97.is c.requires in
    let d = op_61 c.args.linked.now g.out c.args.s.now c.args.n can in
    (can.set, d.ready)

pub returns-in-97 : goal.returns-in-97
returns-in-97 g c = done_at c.set_property_fast.result c.args.linked.now g.out c.args.s.now c.set_property_fast.new.s (λ o. One o c.args.n) c.args.op 97 _ 0 _ c.in-97.is (op_61 c.args.linked.now g.out c.args.s.now c.args.n (can_at c.args.linked.now g.out c.args.s.now (λ o. One o c.args.n) c.args.op 97 c.in-97.is c.requires)) c.set_property_fast.ensures

pub get_property_fast-requires : goal.get_property_fast-requires
get_property_fast-requires g c =
    let can = can_at c.args.linked.now g.out c.args.s.now (λ o. One o c.args.n) c.args.op 102 c.in-102.is c.requires in
    let d = op_66 c.args.linked.now g.out c.args.s.now c.args.n can in
    (can.set, d.ready)

pub returns-in-102 : goal.returns-in-102
returns-in-102 g c = done_at c.get_property_fast.result c.args.linked.now g.out c.args.s.now c.get_property_fast.new.s (λ o. One o c.args.n) c.args.op 102 _ 1 _ c.in-102.is (op_66 c.args.linked.now g.out c.args.s.now c.args.n (can_at c.args.linked.now g.out c.args.s.now (λ o. One o c.args.n) c.args.op 102 c.in-102.is c.requires)) c.get_property_fast.ensures

pub set_property_fast-requires-in-104 : goal.set_property_fast-requires-in-104
set_property_fast-requires-in-104 g c =
    let can = can_at c.args.linked.now g.out c.args.s.now (λ o. One o c.args.n) c.args.op 104 c.in-104.is c.requires in
    let d = op_68 c.args.linked.now g.out c.args.s.now c.args.n can in
    (can.set, d.ready)

pub returns-in-104 : goal.returns-in-104
returns-in-104 g c = done_at c.set_property_fast-in-104.result c.args.linked.now g.out c.args.s.now c.set_property_fast-in-104.new.s (λ o. One o c.args.n) c.args.op 104 _ 0 _ c.in-104.is (op_68 c.args.linked.now g.out c.args.s.now c.args.n (can_at c.args.linked.now g.out c.args.s.now (λ o. One o c.args.n) c.args.op 104 c.in-104.is c.requires)) c.set_property_fast-in-104.ensures

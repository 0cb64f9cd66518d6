use Rattle.std.proofs.Common.{◌+◌, refl}
use Rattle.abc_run_members.specs.Members.{parts_at}
use Rattle.abc_run_dispatch.proofs.MemberOps.{op_46, op_4C, op_4F}
use Rattle.abc_run_values.proofs.Doing.{can_at, open_as, runs_at}
use Rattle.abc_run_state.specs.Outer.{setting_in}
use Rattle.abc_file_types.specs.declared.code.Instr.TheVariants.{Two}
use Rattle.abc_run_dispatch.proofs.calling.run_property_call.Goals as goal

pub call_property-requires : goal.call_property-requires
call_property-requires g c =
    let p = setting_in c.args.linked.now g.out in
    let can = can_at c.args.linked.now g.out c.args.s.now (λ o. Two o c.args.n c.args.count) c.args.op 70 c.in-70.is c.requires.0.run in
    let d = op_46 c.args.linked.now g.out c.args.s.now c.args.n c.args.count (c.args.count + parts_at p c.args.n + 1) refl can in (record { set = can.set; known = c.requires.0.equipped.known; free = open_as c.args.linked.now g.out c.args.s.now (Two 70 c.args.n c.args.count) _ 1 _ d can.free }, (d.ready, (can.spelled.2, c.requires.0.none)))

pub returns-in-70 : goal.returns-in-70
returns-in-70 g c = record {
  leaves =
      let p = setting_in c.args.linked.now g.out in
      runs_at c.args.linked.now g.out c.args.s.now (λ o. Two o c.args.n c.args.count) c.args.op 70 _ 1 _ _ c.in-70.is (op_46 c.args.linked.now g.out c.args.s.now c.args.n c.args.count (c.args.count + parts_at p c.args.n + 1) refl (can_at c.args.linked.now g.out c.args.s.now (λ o. Two o c.args.n c.args.count) c.args.op 70 c.in-70.is c.requires.0.run)) c.call_property.ensures.leaves;
  finishes = c.call_property.ensures.finishes;
  goes = c.call_property.ensures.goes;
  limit = c.call_property.ensures.limit;
}

pub call_property-requires-in-76 : goal.call_property-requires-in-76
call_property-requires-in-76 g c =
    let p = setting_in c.args.linked.now g.out in
    let can = can_at c.args.linked.now g.out c.args.s.now (λ o. Two o c.args.n c.args.count) c.args.op 76 c.in-76.is c.requires.0.run in
    let d = op_4C c.args.linked.now g.out c.args.s.now c.args.n c.args.count (c.args.count + parts_at p c.args.n + 1) refl can in (record { set = can.set; known = c.requires.0.equipped.known; free = open_as c.args.linked.now g.out c.args.s.now (Two 76 c.args.n c.args.count) _ 1 _ d can.free }, (d.ready, (can.spelled.2, c.requires.0.none)))

pub returns-in-76 : goal.returns-in-76
returns-in-76 g c = record {
  leaves =
      let p = setting_in c.args.linked.now g.out in
      runs_at c.args.linked.now g.out c.args.s.now (λ o. Two o c.args.n c.args.count) c.args.op 76 _ 1 _ _ c.in-76.is (op_4C c.args.linked.now g.out c.args.s.now c.args.n c.args.count (c.args.count + parts_at p c.args.n + 1) refl (can_at c.args.linked.now g.out c.args.s.now (λ o. Two o c.args.n c.args.count) c.args.op 76 c.in-76.is c.requires.0.run)) c.call_property-in-76.ensures.leaves;
  finishes = c.call_property-in-76.ensures.finishes;
  goes = c.call_property-in-76.ensures.goes;
  limit = c.call_property-in-76.ensures.limit;
}

pub call_property-requires-in-79 : goal.call_property-requires-in-79
call_property-requires-in-79 g c =
    let p = setting_in c.args.linked.now g.out in
    let can = can_at c.args.linked.now g.out c.args.s.now (λ o. Two o c.args.n c.args.count) c.args.op 79 c.in-79.is c.requires.0.run in
    let d = op_4F c.args.linked.now g.out c.args.s.now c.args.n c.args.count (c.args.count + parts_at p c.args.n + 1) refl can in (record { set = can.set; known = c.requires.0.equipped.known; free = open_as c.args.linked.now g.out c.args.s.now (Two 79 c.args.n c.args.count) _ 0 _ d can.free }, (d.ready, (can.spelled.2, c.requires.0.none)))

pub returns-in-79 : goal.returns-in-79
returns-in-79 g c = record {
  leaves =
      let p = setting_in c.args.linked.now g.out in
      runs_at c.args.linked.now g.out c.args.s.now (λ o. Two o c.args.n c.args.count) c.args.op 79 _ 0 _ _ c.in-79.is (op_4F c.args.linked.now g.out c.args.s.now c.args.n c.args.count (c.args.count + parts_at p c.args.n + 1) refl (can_at c.args.linked.now g.out c.args.s.now (λ o. Two o c.args.n c.args.count) c.args.op 79 c.in-79.is c.requires.0.run)) c.call_property-in-79.ensures.leaves;
  finishes = c.call_property-in-79.ensures.finishes;
  goes = c.call_property-in-79.ensures.goes;
  limit = c.call_property-in-79.ensures.limit;
}

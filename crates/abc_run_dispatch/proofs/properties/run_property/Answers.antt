use Rattle.abc_run_dispatch.proofs.Dispatched.{here_at}
use Rattle.abc_run_dispatch.proofs.MemberOps.{op_61, op_66, op_68}
use Rattle.abc_run_values.proofs.Doing.{can_at, open_as, runs_at}
use Rattle.abc_file_types.specs.declared.code.Instr.TheVariants.{One}
use Rattle.abc_run_dispatch.proofs.properties.run_property.Goals as goal

pub set_property-requires : goal.set_property-requires
set_property-requires g c =
    let can = can_at c.args.linked.now g.out c.args.s.now (λ o. One o c.args.n) c.args.op 97 c.in-97.is c.requires.0 in
    let d = op_61 c.args.linked.now g.out c.args.s.now c.args.n can in (record { set = can.set; known = c.requires.1.0; free = open_as c.args.linked.now g.out c.args.s.now (One 97 c.args.n) _ 0 _ d can.free }, d.ready)

pub returns-in-97 : goal.returns-in-97
returns-in-97 g c = record {
  runs = runs_at c.args.linked.now g.out c.args.s.now (λ o. One o c.args.n) c.args.op 97 _ 0 _ _ c.in-97.is (op_61 c.args.linked.now g.out c.args.s.now c.args.n (can_at c.args.linked.now g.out c.args.s.now (λ o. One o c.args.n) c.args.op 97 c.in-97.is c.requires.0)) c.set_property.ensures.runs;
  limit = c.set_property.ensures.limit;
}

pub get_property-requires : goal.get_property-requires
get_property-requires g c =
    let can = can_at c.args.linked.now g.out c.args.s.now (λ o. One o c.args.n) c.args.op 102 c.in-102.is c.requires.0 in
    let d = op_66 c.args.linked.now g.out c.args.s.now c.args.n can in (record { set = can.set; known = c.requires.1.0; free = open_as c.args.linked.now g.out c.args.s.now (One 102 c.args.n) _ 1 _ d can.free }, d.ready)

pub returns-in-102 : goal.returns-in-102
returns-in-102 g c = record {
  runs = runs_at c.args.linked.now g.out c.args.s.now (λ o. One o c.args.n) c.args.op 102 _ 1 _ _ c.in-102.is (op_66 c.args.linked.now g.out c.args.s.now c.args.n (can_at c.args.linked.now g.out c.args.s.now (λ o. One o c.args.n) c.args.op 102 c.in-102.is c.requires.0)) c.get_property.ensures.runs;
  limit = c.get_property.ensures.limit;
}

pub set_property-requires-in-104 : goal.set_property-requires-in-104
set_property-requires-in-104 g c =
    let can = can_at c.args.linked.now g.out c.args.s.now (λ o. One o c.args.n) c.args.op 104 c.in-104.is c.requires.0 in
    let d = op_68 c.args.linked.now g.out c.args.s.now c.args.n can in (record { set = can.set; known = c.requires.1.0; free = open_as c.args.linked.now g.out c.args.s.now (One 104 c.args.n) _ 0 _ d can.free }, d.ready)

pub returns-in-104 : goal.returns-in-104
returns-in-104 g c = record {
  runs = runs_at c.args.linked.now g.out c.args.s.now (λ o. One o c.args.n) c.args.op 104 _ 0 _ _ c.in-104.is (op_68 c.args.linked.now g.out c.args.s.now c.args.n (can_at c.args.linked.now g.out c.args.s.now (λ o. One o c.args.n) c.args.op 104 c.in-104.is c.requires.0)) c.set_property-in-104.ensures.runs;
  limit = c.set_property-in-104.ensures.limit;
}

pub run_delete-requires : goal.run_delete-requires
run_delete-requires g c = can_at c.args.linked.now g.out c.args.s.now (λ o. One o c.args.n) c.args.op 106 c.in-106.is c.requires.0

pub returns-in-106 : goal.returns-in-106
returns-in-106 g c = here_at c.args.linked.now g.out c.args.s.now (λ o. One o c.args.n) c.args.op 106 _ _ c.in-106.is c.run_delete.ensures

use Rattle.abc_run_dispatch.proofs.ObjectOps.{op_6C, op_6D}
use Rattle.abc_run_values.proofs.Doing.{can_at, open_as, runs_at}
use Rattle.abc_file_types.specs.declared.code.Instr.TheVariants.{One}
use Rattle.abc_run_dispatch.proofs.slots.run_slot.Goals as goal

pub get_slot-requires : goal.get_slot-requires
get_slot-requires g c = let can = (can_at c.args.linked.now g.out c.args.s.now (λ o. One o c.args.n) c.args.op 108 c.in-108.is c.requires.0) in let d = op_6C c.args.linked.now g.out c.args.s.now c.args.n can in (can.set, (d.ready, open_as c.args.linked.now g.out c.args.s.now (One 108 c.args.n) 1 1 _ d can.free))

pub returns-in-108 : goal.returns-in-108
returns-in-108 g c = record {
  runs = runs_at c.args.linked.now g.out c.args.s.now (λ o. One o c.args.n) c.args.op 108 1 1 _ _ c.in-108.is (op_6C c.args.linked.now g.out c.args.s.now c.args.n (can_at c.args.linked.now g.out c.args.s.now (λ o. One o c.args.n) c.args.op 108 c.in-108.is c.requires.0)) c.get_slot.ensures.runs;
  limit = c.get_slot.ensures.limit;
}

pub set_slot-requires : goal.set_slot-requires
set_slot-requires g c = let can = (can_at c.args.linked.now g.out c.args.s.now (λ o. One o c.args.n) c.args.op 109 c.in-109.is c.requires.0) in let d = op_6D c.args.linked.now g.out c.args.s.now c.args.n can in (can.set, (d.ready, open_as c.args.linked.now g.out c.args.s.now (One 109 c.args.n) 2 0 _ d can.free))

pub returns-in-109 : goal.returns-in-109
returns-in-109 g c = record {
  runs = runs_at c.args.linked.now g.out c.args.s.now (λ o. One o c.args.n) c.args.op 109 2 0 _ _ c.in-109.is (op_6D c.args.linked.now g.out c.args.s.now c.args.n (can_at c.args.linked.now g.out c.args.s.now (λ o. One o c.args.n) c.args.op 109 c.in-109.is c.requires.0)) c.set_slot.ensures.runs;
  limit = c.set_slot.ensures.limit;
}

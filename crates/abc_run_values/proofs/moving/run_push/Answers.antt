use Rattle.std.proofs.Common.{refl}
use Rattle.abc_run_values.proofs.MovingOps.{op_20, op_21, op_26, op_27, op_28, op_29, op_2A, op_2B}
use Rattle.abc_run_values.proofs.Doing.{can_at, runs_at}
use Rattle.abc_file_types.specs.declared.code.Instr.TheVariants.{Plain}
use Rattle.abc_run_values.proofs.moving.run_push.Goals as goal

pub push_value-requires : goal.push_value-requires
push_value-requires g c = let d = op_20 c.args.linked.now g.out c.args.s.now (can_at c.args.linked.now g.out c.args.s.now Plain c.args.op 32 c.in-32.is c.requires.0) in d.ready

pub returns-in-32 : goal.returns-in-32
returns-in-32 g c = record {
  runs = runs_at c.args.linked.now g.out c.args.s.now Plain c.args.op 32 0 1 _ _ c.in-32.is (op_20 c.args.linked.now g.out c.args.s.now (can_at c.args.linked.now g.out c.args.s.now Plain c.args.op 32 c.in-32.is c.requires.0)) c.push_value.ensures.runs;
  limit = c.push_value.ensures.limit;
}

pub push_value-requires-in-33 : goal.push_value-requires-in-33
push_value-requires-in-33 g c = let d = op_21 c.args.linked.now g.out c.args.s.now (can_at c.args.linked.now g.out c.args.s.now Plain c.args.op 33 c.in-33.is c.requires.0) in d.ready

pub returns-in-33 : goal.returns-in-33
returns-in-33 g c = record {
  runs = runs_at c.args.linked.now g.out c.args.s.now Plain c.args.op 33 0 1 _ _ c.in-33.is (op_21 c.args.linked.now g.out c.args.s.now (can_at c.args.linked.now g.out c.args.s.now Plain c.args.op 33 c.in-33.is c.requires.0)) c.push_value-in-33.ensures.runs;
  limit = c.push_value-in-33.ensures.limit;
}

pub push_value-requires-in-38 : goal.push_value-requires-in-38
push_value-requires-in-38 g c = let d = op_26 c.args.linked.now g.out c.args.s.now (can_at c.args.linked.now g.out c.args.s.now Plain c.args.op 38 c.in-38.is c.requires.0) in d.ready

pub returns-in-38 : goal.returns-in-38
returns-in-38 g c = record {
  runs = runs_at c.args.linked.now g.out c.args.s.now Plain c.args.op 38 0 1 _ _ c.in-38.is (op_26 c.args.linked.now g.out c.args.s.now (can_at c.args.linked.now g.out c.args.s.now Plain c.args.op 38 c.in-38.is c.requires.0)) c.push_value-in-38.ensures.runs;
  limit = c.push_value-in-38.ensures.limit;
}

pub push_value-requires-in-39 : goal.push_value-requires-in-39
push_value-requires-in-39 g c = let d = op_27 c.args.linked.now g.out c.args.s.now (can_at c.args.linked.now g.out c.args.s.now Plain c.args.op 39 c.in-39.is c.requires.0) in d.ready

pub returns-in-39 : goal.returns-in-39
returns-in-39 g c = record {
  runs = runs_at c.args.linked.now g.out c.args.s.now Plain c.args.op 39 0 1 _ _ c.in-39.is (op_27 c.args.linked.now g.out c.args.s.now (can_at c.args.linked.now g.out c.args.s.now Plain c.args.op 39 c.in-39.is c.requires.0)) c.push_value-in-39.ensures.runs;
  limit = c.push_value-in-39.ensures.limit;
}

pub returns-in-40 : goal.returns-in-40
returns-in-40 g c = record {
  runs = runs_at c.args.linked.now g.out c.args.s.now Plain c.args.op 40 0 1 _ _ c.in-40.is (op_28 c.args.linked.now g.out c.args.s.now (can_at c.args.linked.now g.out c.args.s.now Plain c.args.op 40 c.in-40.is c.requires.0)) refl;
  limit = refl;
}

pub drop_top-requires : goal.drop_top-requires
drop_top-requires g c = let d = op_29 c.args.linked.now g.out c.args.s.now (can_at c.args.linked.now g.out c.args.s.now Plain c.args.op 41 c.in-41.is c.requires.0) in d.ready

pub returns-in-41 : goal.returns-in-41
returns-in-41 g c = record {
  runs = runs_at c.args.linked.now g.out c.args.s.now Plain c.args.op 41 1 0 _ _ c.in-41.is (op_29 c.args.linked.now g.out c.args.s.now (can_at c.args.linked.now g.out c.args.s.now Plain c.args.op 41 c.in-41.is c.requires.0)) c.drop_top.ensures.runs;
  limit = c.drop_top.ensures.limit;
}

pub double_top-requires : goal.double_top-requires
double_top-requires g c = let d = op_2A c.args.linked.now g.out c.args.s.now (can_at c.args.linked.now g.out c.args.s.now Plain c.args.op 42 c.in-42.is c.requires.0) in d.ready

pub returns-in-42 : goal.returns-in-42
returns-in-42 g c = record {
  runs = runs_at c.args.linked.now g.out c.args.s.now Plain c.args.op 42 1 2 _ _ c.in-42.is (op_2A c.args.linked.now g.out c.args.s.now (can_at c.args.linked.now g.out c.args.s.now Plain c.args.op 42 c.in-42.is c.requires.0)) c.double_top.ensures.runs;
  limit = c.double_top.ensures.limit;
}

pub exchange-requires : goal.exchange-requires
exchange-requires g c = let d = op_2B c.args.linked.now g.out c.args.s.now (can_at c.args.linked.now g.out c.args.s.now Plain c.args.op 43 c.in-43.is c.requires.0) in d.ready

pub returns-in-43 : goal.returns-in-43
returns-in-43 g c = record {
  runs = runs_at c.args.linked.now g.out c.args.s.now Plain c.args.op 43 2 2 _ _ c.in-43.is (op_2B c.args.linked.now g.out c.args.s.now (can_at c.args.linked.now g.out c.args.s.now Plain c.args.op 43 c.in-43.is c.requires.0)) c.exchange.ensures.runs;
  limit = c.exchange.ensures.limit;
}

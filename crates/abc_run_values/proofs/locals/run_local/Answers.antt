use Rattle.abc_run_values.proofs.MovingOps.{op_D0, op_D1, op_D2, op_D3, op_D4, op_D5, op_D6, op_D7}
use Rattle.abc_run_values.proofs.Doing.{can_at, runs_at}
use Rattle.abc_file_types.specs.declared.code.Instr.TheVariants.{Plain}
use Rattle.abc_run_values.proofs.locals.run_local.Goals as goal

pub read_local-requires : goal.read_local-requires
read_local-requires g c = let d = op_D0 c.args.linked.now g.out c.args.s.now (can_at c.args.linked.now g.out c.args.s.now Plain c.args.op 208 c.in-208.is c.requires.0) in (d.0.ready, d.1)

pub returns-in-208 : goal.returns-in-208
returns-in-208 g c = record {
  runs = runs_at c.args.linked.now g.out c.args.s.now Plain c.args.op 208 0 1 _ _ c.in-208.is ((op_D0 c.args.linked.now g.out c.args.s.now (can_at c.args.linked.now g.out c.args.s.now Plain c.args.op 208 c.in-208.is c.requires.0)).0) c.read_local.ensures.runs;
  limit = c.read_local.ensures.limit;
}

pub read_local-requires-in-209 : goal.read_local-requires-in-209
read_local-requires-in-209 g c = let d = op_D1 c.args.linked.now g.out c.args.s.now (can_at c.args.linked.now g.out c.args.s.now Plain c.args.op 209 c.in-209.is c.requires.0) in (d.0.ready, d.1)

pub returns-in-209 : goal.returns-in-209
returns-in-209 g c = record {
  runs = runs_at c.args.linked.now g.out c.args.s.now Plain c.args.op 209 0 1 _ _ c.in-209.is ((op_D1 c.args.linked.now g.out c.args.s.now (can_at c.args.linked.now g.out c.args.s.now Plain c.args.op 209 c.in-209.is c.requires.0)).0) c.read_local-in-209.ensures.runs;
  limit = c.read_local-in-209.ensures.limit;
}

pub read_local-requires-in-210 : goal.read_local-requires-in-210
read_local-requires-in-210 g c = let d = op_D2 c.args.linked.now g.out c.args.s.now (can_at c.args.linked.now g.out c.args.s.now Plain c.args.op 210 c.in-210.is c.requires.0) in (d.0.ready, d.1)

pub returns-in-210 : goal.returns-in-210
returns-in-210 g c = record {
  runs = runs_at c.args.linked.now g.out c.args.s.now Plain c.args.op 210 0 1 _ _ c.in-210.is ((op_D2 c.args.linked.now g.out c.args.s.now (can_at c.args.linked.now g.out c.args.s.now Plain c.args.op 210 c.in-210.is c.requires.0)).0) c.read_local-in-210.ensures.runs;
  limit = c.read_local-in-210.ensures.limit;
}

pub read_local-requires-in-211 : goal.read_local-requires-in-211
read_local-requires-in-211 g c = let d = op_D3 c.args.linked.now g.out c.args.s.now (can_at c.args.linked.now g.out c.args.s.now Plain c.args.op 211 c.in-211.is c.requires.0) in (d.0.ready, d.1)

pub returns-in-211 : goal.returns-in-211
returns-in-211 g c = record {
  runs = runs_at c.args.linked.now g.out c.args.s.now Plain c.args.op 211 0 1 _ _ c.in-211.is ((op_D3 c.args.linked.now g.out c.args.s.now (can_at c.args.linked.now g.out c.args.s.now Plain c.args.op 211 c.in-211.is c.requires.0)).0) c.read_local-in-211.ensures.runs;
  limit = c.read_local-in-211.ensures.limit;
}

pub take_local-requires : goal.take_local-requires
take_local-requires g c = let d = op_D4 c.args.linked.now g.out c.args.s.now (can_at c.args.linked.now g.out c.args.s.now Plain c.args.op 212 c.in-212.is c.requires.0) in (d.0.ready, d.1)

pub returns-in-212 : goal.returns-in-212
returns-in-212 g c = record {
  runs = runs_at c.args.linked.now g.out c.args.s.now Plain c.args.op 212 1 0 _ _ c.in-212.is ((op_D4 c.args.linked.now g.out c.args.s.now (can_at c.args.linked.now g.out c.args.s.now Plain c.args.op 212 c.in-212.is c.requires.0)).0) c.take_local.ensures.runs;
  limit = c.take_local.ensures.limit;
}

pub take_local-requires-in-213 : goal.take_local-requires-in-213
take_local-requires-in-213 g c = let d = op_D5 c.args.linked.now g.out c.args.s.now (can_at c.args.linked.now g.out c.args.s.now Plain c.args.op 213 c.in-213.is c.requires.0) in (d.0.ready, d.1)

pub returns-in-213 : goal.returns-in-213
returns-in-213 g c = record {
  runs = runs_at c.args.linked.now g.out c.args.s.now Plain c.args.op 213 1 0 _ _ c.in-213.is ((op_D5 c.args.linked.now g.out c.args.s.now (can_at c.args.linked.now g.out c.args.s.now Plain c.args.op 213 c.in-213.is c.requires.0)).0) c.take_local-in-213.ensures.runs;
  limit = c.take_local-in-213.ensures.limit;
}

pub take_local-requires-in-214 : goal.take_local-requires-in-214
take_local-requires-in-214 g c = let d = op_D6 c.args.linked.now g.out c.args.s.now (can_at c.args.linked.now g.out c.args.s.now Plain c.args.op 214 c.in-214.is c.requires.0) in (d.0.ready, d.1)

pub returns-in-214 : goal.returns-in-214
returns-in-214 g c = record {
  runs = runs_at c.args.linked.now g.out c.args.s.now Plain c.args.op 214 1 0 _ _ c.in-214.is ((op_D6 c.args.linked.now g.out c.args.s.now (can_at c.args.linked.now g.out c.args.s.now Plain c.args.op 214 c.in-214.is c.requires.0)).0) c.take_local-in-214.ensures.runs;
  limit = c.take_local-in-214.ensures.limit;
}

pub take_local-requires-in-215 : goal.take_local-requires-in-215
take_local-requires-in-215 g c = let d = op_D7 c.args.linked.now g.out c.args.s.now (can_at c.args.linked.now g.out c.args.s.now Plain c.args.op 215 c.in-215.is c.requires.0) in (d.0.ready, d.1)

pub returns-in-215 : goal.returns-in-215
returns-in-215 g c = record {
  runs = runs_at c.args.linked.now g.out c.args.s.now Plain c.args.op 215 1 0 _ _ c.in-215.is ((op_D7 c.args.linked.now g.out c.args.s.now (can_at c.args.linked.now g.out c.args.s.now Plain c.args.op 215 c.in-215.is c.requires.0)).0) c.take_local-in-215.ensures.runs;
  limit = c.take_local-in-215.ensures.limit;
}

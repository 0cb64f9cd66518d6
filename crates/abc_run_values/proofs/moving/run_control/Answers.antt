use Rattle.abc_run_values.proofs.MovingOps.{op_02, op_03, op_09, op_1C, op_1D, op_30}
use Rattle.abc_run_values.proofs.Doing.{can_at, runs_at}
use Rattle.abc_file_types.specs.declared.code.Instr.TheVariants.{Plain}
use Rattle.abc_run_values.proofs.moving.run_control.Goals as goal

pub step_on-requires : goal.step_on-requires
step_on-requires g c = let d = op_02 c.args.linked.now g.out c.args.s.now (can_at c.args.linked.now g.out c.args.s.now Plain c.args.op 2 c.in-2.is c.requires.0) in d.ready

pub returns-in-2 : goal.returns-in-2
returns-in-2 g c = record {
  runs = runs_at c.args.linked.now g.out c.args.s.now Plain c.args.op 2 0 0 _ _ c.in-2.is (op_02 c.args.linked.now g.out c.args.s.now (can_at c.args.linked.now g.out c.args.s.now Plain c.args.op 2 c.in-2.is c.requires.0)) c.step_on.ensures.runs;
  limit = c.step_on.ensures.limit;
}

pub throw_top-requires : goal.throw_top-requires
throw_top-requires g c = let d = op_03 c.args.linked.now g.out c.args.s.now (can_at c.args.linked.now g.out c.args.s.now Plain c.args.op 3 c.in-3.is c.requires.0) in d.ready

pub returns-in-3 : goal.returns-in-3
returns-in-3 g c = record {
  runs = runs_at c.args.linked.now g.out c.args.s.now Plain c.args.op 3 1 0 _ _ c.in-3.is (op_03 c.args.linked.now g.out c.args.s.now (can_at c.args.linked.now g.out c.args.s.now Plain c.args.op 3 c.in-3.is c.requires.0)) c.throw_top.ensures.runs;
  limit = c.throw_top.ensures.limit;
}

pub step_on-requires-in-9 : goal.step_on-requires-in-9
step_on-requires-in-9 g c = let d = op_09 c.args.linked.now g.out c.args.s.now (can_at c.args.linked.now g.out c.args.s.now Plain c.args.op 9 c.in-9.is c.requires.0) in d.ready

pub returns-in-9 : goal.returns-in-9
returns-in-9 g c = record {
  runs = runs_at c.args.linked.now g.out c.args.s.now Plain c.args.op 9 0 0 _ _ c.in-9.is (op_09 c.args.linked.now g.out c.args.s.now (can_at c.args.linked.now g.out c.args.s.now Plain c.args.op 9 c.in-9.is c.requires.0)) c.step_on-in-9.ensures.runs;
  limit = c.step_on-in-9.ensures.limit;
}

pub enter_scope-requires : goal.enter_scope-requires
enter_scope-requires g c = let d = op_1C c.args.linked.now g.out c.args.s.now (can_at c.args.linked.now g.out c.args.s.now Plain c.args.op 28 c.in-28.is c.requires.0) in (d.0.ready, d.1)

pub returns-in-28 : goal.returns-in-28
returns-in-28 g c = record {
  runs = runs_at c.args.linked.now g.out c.args.s.now Plain c.args.op 28 1 0 _ _ c.in-28.is ((op_1C c.args.linked.now g.out c.args.s.now (can_at c.args.linked.now g.out c.args.s.now Plain c.args.op 28 c.in-28.is c.requires.0)).0) c.enter_scope.ensures.runs;
  limit = c.enter_scope.ensures.limit;
}

pub leave_scope-requires : goal.leave_scope-requires
leave_scope-requires g c = let d = op_1D c.args.linked.now g.out c.args.s.now (can_at c.args.linked.now g.out c.args.s.now Plain c.args.op 29 c.in-29.is c.requires.0) in (d.0.ready, d.1)

pub returns-in-29 : goal.returns-in-29
returns-in-29 g c = record {
  runs = runs_at c.args.linked.now g.out c.args.s.now Plain c.args.op 29 0 0 _ _ c.in-29.is ((op_1D c.args.linked.now g.out c.args.s.now (can_at c.args.linked.now g.out c.args.s.now Plain c.args.op 29 c.in-29.is c.requires.0)).0) c.leave_scope.ensures.runs;
  limit = c.leave_scope.ensures.limit;
}

pub enter_scope-requires-in-48 : goal.enter_scope-requires-in-48
enter_scope-requires-in-48 g c = let d = op_30 c.args.linked.now g.out c.args.s.now (can_at c.args.linked.now g.out c.args.s.now Plain c.args.op 48 c.in-48.is c.requires.0) in (d.0.ready, d.1)

pub returns-in-48 : goal.returns-in-48
returns-in-48 g c = record {
  runs = runs_at c.args.linked.now g.out c.args.s.now Plain c.args.op 48 1 0 _ _ c.in-48.is ((op_30 c.args.linked.now g.out c.args.s.now (can_at c.args.linked.now g.out c.args.s.now Plain c.args.op 48 c.in-48.is c.requires.0)).0) c.enter_scope-in-48.ensures.runs;
  limit = c.enter_scope-in-48.ensures.limit;
}

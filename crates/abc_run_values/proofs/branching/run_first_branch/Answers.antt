use Rattle.abc_run_values.proofs.OtherOps.{op_0C, op_0D, op_0E, op_0F, op_10, op_11, op_12}
use Rattle.abc_run_values.proofs.Doing.{can_at, runs_at}
use Rattle.abc_file_types.specs.declared.code.Instr.TheVariants.{Branch}
use Rattle.abc_run_values.proofs.branching.run_first_branch.Goals as goal

pub branch_not-requires : goal.branch_not-requires
branch_not-requires g c = let d = op_0C c.args.linked.now g.out c.args.s.now c.args.target (can_at c.args.linked.now g.out c.args.s.now (λ o. Branch o c.args.target) c.args.op 12 c.in-12.is c.requires.0) in (c.requires.0.set, d.ready)

pub returns-in-12 : goal.returns-in-12
returns-in-12 g c = record {
  runs = runs_at c.args.linked.now g.out c.args.s.now (λ o. Branch o c.args.target) c.args.op 12 2 0 _ _ c.in-12.is (op_0C c.args.linked.now g.out c.args.s.now c.args.target (can_at c.args.linked.now g.out c.args.s.now (λ o. Branch o c.args.target) c.args.op 12 c.in-12.is c.requires.0)) c.branch_not.ensures.runs;
  limit = c.branch_not.ensures.limit;
}

pub branch_not-requires-in-13 : goal.branch_not-requires-in-13
branch_not-requires-in-13 g c = let d = op_0D c.args.linked.now g.out c.args.s.now c.args.target (can_at c.args.linked.now g.out c.args.s.now (λ o. Branch o c.args.target) c.args.op 13 c.in-13.is c.requires.0) in (c.requires.0.set, d.ready)

pub returns-in-13 : goal.returns-in-13
returns-in-13 g c = record {
  runs = runs_at c.args.linked.now g.out c.args.s.now (λ o. Branch o c.args.target) c.args.op 13 2 0 _ _ c.in-13.is (op_0D c.args.linked.now g.out c.args.s.now c.args.target (can_at c.args.linked.now g.out c.args.s.now (λ o. Branch o c.args.target) c.args.op 13 c.in-13.is c.requires.0)) c.branch_not-in-13.ensures.runs;
  limit = c.branch_not-in-13.ensures.limit;
}

pub branch_not-requires-in-14 : goal.branch_not-requires-in-14
branch_not-requires-in-14 g c = let d = op_0E c.args.linked.now g.out c.args.s.now c.args.target (can_at c.args.linked.now g.out c.args.s.now (λ o. Branch o c.args.target) c.args.op 14 c.in-14.is c.requires.0) in (c.requires.0.set, d.ready)

pub returns-in-14 : goal.returns-in-14
returns-in-14 g c = record {
  runs = runs_at c.args.linked.now g.out c.args.s.now (λ o. Branch o c.args.target) c.args.op 14 2 0 _ _ c.in-14.is (op_0E c.args.linked.now g.out c.args.s.now c.args.target (can_at c.args.linked.now g.out c.args.s.now (λ o. Branch o c.args.target) c.args.op 14 c.in-14.is c.requires.0)) c.branch_not-in-14.ensures.runs;
  limit = c.branch_not-in-14.ensures.limit;
}

pub branch_not-requires-in-15 : goal.branch_not-requires-in-15
branch_not-requires-in-15 g c = let d = op_0F c.args.linked.now g.out c.args.s.now c.args.target (can_at c.args.linked.now g.out c.args.s.now (λ o. Branch o c.args.target) c.args.op 15 c.in-15.is c.requires.0) in (c.requires.0.set, d.ready)

pub returns-in-15 : goal.returns-in-15
returns-in-15 g c = record {
  runs = runs_at c.args.linked.now g.out c.args.s.now (λ o. Branch o c.args.target) c.args.op 15 2 0 _ _ c.in-15.is (op_0F c.args.linked.now g.out c.args.s.now c.args.target (can_at c.args.linked.now g.out c.args.s.now (λ o. Branch o c.args.target) c.args.op 15 c.in-15.is c.requires.0)) c.branch_not-in-15.ensures.runs;
  limit = c.branch_not-in-15.ensures.limit;
}

pub step_to-requires : goal.step_to-requires
step_to-requires g c = let d = op_10 c.args.linked.now g.out c.args.s.now c.args.target (can_at c.args.linked.now g.out c.args.s.now (λ o. Branch o c.args.target) c.args.op 16 c.in-16.is c.requires.0) in d.ready

pub returns-in-16 : goal.returns-in-16
returns-in-16 g c = record {
  runs = runs_at c.args.linked.now g.out c.args.s.now (λ o. Branch o c.args.target) c.args.op 16 0 0 _ _ c.in-16.is (op_10 c.args.linked.now g.out c.args.s.now c.args.target (can_at c.args.linked.now g.out c.args.s.now (λ o. Branch o c.args.target) c.args.op 16 c.in-16.is c.requires.0)) c.step_to.ensures.runs;
  limit = c.step_to.ensures.limit;
}

pub branch_if-requires : goal.branch_if-requires
branch_if-requires g c = let d = op_11 c.args.linked.now g.out c.args.s.now c.args.target (can_at c.args.linked.now g.out c.args.s.now (λ o. Branch o c.args.target) c.args.op 17 c.in-17.is c.requires.0) in d.ready

pub returns-in-17 : goal.returns-in-17
returns-in-17 g c = record {
  runs = runs_at c.args.linked.now g.out c.args.s.now (λ o. Branch o c.args.target) c.args.op 17 1 0 _ _ c.in-17.is (op_11 c.args.linked.now g.out c.args.s.now c.args.target (can_at c.args.linked.now g.out c.args.s.now (λ o. Branch o c.args.target) c.args.op 17 c.in-17.is c.requires.0)) c.branch_if.ensures.runs;
  limit = c.branch_if.ensures.limit;
}

pub branch_unless-requires : goal.branch_unless-requires
branch_unless-requires g c = let d = op_12 c.args.linked.now g.out c.args.s.now c.args.target (can_at c.args.linked.now g.out c.args.s.now (λ o. Branch o c.args.target) c.args.op 18 c.in-18.is c.requires.0) in d.ready

pub returns-in-18 : goal.returns-in-18
returns-in-18 g c = record {
  runs = runs_at c.args.linked.now g.out c.args.s.now (λ o. Branch o c.args.target) c.args.op 18 1 0 _ _ c.in-18.is (op_12 c.args.linked.now g.out c.args.s.now c.args.target (can_at c.args.linked.now g.out c.args.s.now (λ o. Branch o c.args.target) c.args.op 18 c.in-18.is c.requires.0)) c.branch_unless.ensures.runs;
  limit = c.branch_unless.ensures.limit;
}

use Rattle.abc_run_values.proofs.OtherOps.{op_13, op_14, op_15, op_16, op_17, op_18, op_19, op_1A}
use Rattle.abc_run_values.proofs.Doing.{can_at, runs_at}
use Rattle.abc_file_types.specs.declared.code.Instr.TheVariants.{Branch}
use Rattle.abc_run_values.proofs.branching.run_last_branch.Goals as goal

pub branch_so-requires : goal.branch_so-requires
branch_so-requires g c = let d = op_13 c.args.linked.now g.out c.args.s.now c.args.target (can_at c.args.linked.now g.out c.args.s.now (λ o. Branch o c.args.target) c.args.op 19 c.in-19.is c.requires.0) in (c.requires.0.set, d.ready)

pub returns-in-19 : goal.returns-in-19
returns-in-19 g c = record {
  runs = runs_at c.args.linked.now g.out c.args.s.now (λ o. Branch o c.args.target) c.args.op 19 2 0 _ _ c.in-19.is (op_13 c.args.linked.now g.out c.args.s.now c.args.target (can_at c.args.linked.now g.out c.args.s.now (λ o. Branch o c.args.target) c.args.op 19 c.in-19.is c.requires.0)) c.branch_so.ensures.runs;
  limit = c.branch_so.ensures.limit;
}

pub branch_not-requires : goal.branch_not-requires
branch_not-requires g c = let d = op_14 c.args.linked.now g.out c.args.s.now c.args.target (can_at c.args.linked.now g.out c.args.s.now (λ o. Branch o c.args.target) c.args.op 20 c.in-20.is c.requires.0) in (c.requires.0.set, d.ready)

pub returns-in-20 : goal.returns-in-20
returns-in-20 g c = record {
  runs = runs_at c.args.linked.now g.out c.args.s.now (λ o. Branch o c.args.target) c.args.op 20 2 0 _ _ c.in-20.is (op_14 c.args.linked.now g.out c.args.s.now c.args.target (can_at c.args.linked.now g.out c.args.s.now (λ o. Branch o c.args.target) c.args.op 20 c.in-20.is c.requires.0)) c.branch_not.ensures.runs;
  limit = c.branch_not.ensures.limit;
}

pub branch_so-requires-in-21 : goal.branch_so-requires-in-21
branch_so-requires-in-21 g c = let d = op_15 c.args.linked.now g.out c.args.s.now c.args.target (can_at c.args.linked.now g.out c.args.s.now (λ o. Branch o c.args.target) c.args.op 21 c.in-21.is c.requires.0) in (c.requires.0.set, d.ready)

pub returns-in-21 : goal.returns-in-21
returns-in-21 g c = record {
  runs = runs_at c.args.linked.now g.out c.args.s.now (λ o. Branch o c.args.target) c.args.op 21 2 0 _ _ c.in-21.is (op_15 c.args.linked.now g.out c.args.s.now c.args.target (can_at c.args.linked.now g.out c.args.s.now (λ o. Branch o c.args.target) c.args.op 21 c.in-21.is c.requires.0)) c.branch_so-in-21.ensures.runs;
  limit = c.branch_so-in-21.ensures.limit;
}

pub branch_so-requires-in-22 : goal.branch_so-requires-in-22
branch_so-requires-in-22 g c = let d = op_16 c.args.linked.now g.out c.args.s.now c.args.target (can_at c.args.linked.now g.out c.args.s.now (λ o. Branch o c.args.target) c.args.op 22 c.in-22.is c.requires.0) in (c.requires.0.set, d.ready)

pub returns-in-22 : goal.returns-in-22
returns-in-22 g c = record {
  runs = runs_at c.args.linked.now g.out c.args.s.now (λ o. Branch o c.args.target) c.args.op 22 2 0 _ _ c.in-22.is (op_16 c.args.linked.now g.out c.args.s.now c.args.target (can_at c.args.linked.now g.out c.args.s.now (λ o. Branch o c.args.target) c.args.op 22 c.in-22.is c.requires.0)) c.branch_so-in-22.ensures.runs;
  limit = c.branch_so-in-22.ensures.limit;
}

pub branch_so-requires-in-23 : goal.branch_so-requires-in-23
branch_so-requires-in-23 g c = let d = op_17 c.args.linked.now g.out c.args.s.now c.args.target (can_at c.args.linked.now g.out c.args.s.now (λ o. Branch o c.args.target) c.args.op 23 c.in-23.is c.requires.0) in (c.requires.0.set, d.ready)

pub returns-in-23 : goal.returns-in-23
returns-in-23 g c = record {
  runs = runs_at c.args.linked.now g.out c.args.s.now (λ o. Branch o c.args.target) c.args.op 23 2 0 _ _ c.in-23.is (op_17 c.args.linked.now g.out c.args.s.now c.args.target (can_at c.args.linked.now g.out c.args.s.now (λ o. Branch o c.args.target) c.args.op 23 c.in-23.is c.requires.0)) c.branch_so-in-23.ensures.runs;
  limit = c.branch_so-in-23.ensures.limit;
}

pub branch_so-requires-in-24 : goal.branch_so-requires-in-24
branch_so-requires-in-24 g c = let d = op_18 c.args.linked.now g.out c.args.s.now c.args.target (can_at c.args.linked.now g.out c.args.s.now (λ o. Branch o c.args.target) c.args.op 24 c.in-24.is c.requires.0) in (c.requires.0.set, d.ready)

pub returns-in-24 : goal.returns-in-24
returns-in-24 g c = record {
  runs = runs_at c.args.linked.now g.out c.args.s.now (λ o. Branch o c.args.target) c.args.op 24 2 0 _ _ c.in-24.is (op_18 c.args.linked.now g.out c.args.s.now c.args.target (can_at c.args.linked.now g.out c.args.s.now (λ o. Branch o c.args.target) c.args.op 24 c.in-24.is c.requires.0)) c.branch_so-in-24.ensures.runs;
  limit = c.branch_so-in-24.ensures.limit;
}

pub branch_so-requires-in-25 : goal.branch_so-requires-in-25
branch_so-requires-in-25 g c = let d = op_19 c.args.linked.now g.out c.args.s.now c.args.target (can_at c.args.linked.now g.out c.args.s.now (λ o. Branch o c.args.target) c.args.op 25 c.in-25.is c.requires.0) in (c.requires.0.set, d.ready)

pub returns-in-25 : goal.returns-in-25
returns-in-25 g c = record {
  runs = runs_at c.args.linked.now g.out c.args.s.now (λ o. Branch o c.args.target) c.args.op 25 2 0 _ _ c.in-25.is (op_19 c.args.linked.now g.out c.args.s.now c.args.target (can_at c.args.linked.now g.out c.args.s.now (λ o. Branch o c.args.target) c.args.op 25 c.in-25.is c.requires.0)) c.branch_so-in-25.ensures.runs;
  limit = c.branch_so-in-25.ensures.limit;
}

pub branch_not-requires-in-26 : goal.branch_not-requires-in-26
branch_not-requires-in-26 g c = let d = op_1A c.args.linked.now g.out c.args.s.now c.args.target (can_at c.args.linked.now g.out c.args.s.now (λ o. Branch o c.args.target) c.args.op 26 c.in-26.is c.requires.0) in (c.requires.0.set, d.ready)

pub returns-in-26 : goal.returns-in-26
returns-in-26 g c = record {
  runs = runs_at c.args.linked.now g.out c.args.s.now (λ o. Branch o c.args.target) c.args.op 26 2 0 _ _ c.in-26.is (op_1A c.args.linked.now g.out c.args.s.now c.args.target (can_at c.args.linked.now g.out c.args.s.now (λ o. Branch o c.args.target) c.args.op 26 c.in-26.is c.requires.0)) c.branch_not-in-26.ensures.runs;
  limit = c.branch_not-in-26.ensures.limit;
}

use Rattle.abc_run_values.proofs.OtherOps.{op_92, op_94, op_C2, op_C3}
use Rattle.abc_run_values.proofs.Doing.{can_at, runs_at}
use Rattle.abc_file_types.specs.declared.code.Instr.TheVariants.{One}
use Rattle.abc_run_values.proofs.numbered.run_count.Goals as goal

pub count_local-requires : goal.count_local-requires
count_local-requires g c = let d = op_92 c.args.linked.now g.out c.args.s.now c.args.n (can_at c.args.linked.now g.out c.args.s.now (λ o. One o c.args.n) c.args.op 146 c.in-146.is c.requires.0) in (c.requires.0.set, (d.0.ready, d.1))

pub returns-in-146 : goal.returns-in-146
returns-in-146 g c = record {
  runs = runs_at c.args.linked.now g.out c.args.s.now (λ o. One o c.args.n) c.args.op 146 0 0 _ _ c.in-146.is ((op_92 c.args.linked.now g.out c.args.s.now c.args.n (can_at c.args.linked.now g.out c.args.s.now (λ o. One o c.args.n) c.args.op 146 c.in-146.is c.requires.0)).0) c.count_local.ensures.runs;
  limit = c.count_local.ensures.limit;
}

pub count_local-requires-in-148 : goal.count_local-requires-in-148
count_local-requires-in-148 g c = let d = op_94 c.args.linked.now g.out c.args.s.now c.args.n (can_at c.args.linked.now g.out c.args.s.now (λ o. One o c.args.n) c.args.op 148 c.in-148.is c.requires.0) in (c.requires.0.set, (d.0.ready, d.1))

pub returns-in-148 : goal.returns-in-148
returns-in-148 g c = record {
  runs = runs_at c.args.linked.now g.out c.args.s.now (λ o. One o c.args.n) c.args.op 148 0 0 _ _ c.in-148.is ((op_94 c.args.linked.now g.out c.args.s.now c.args.n (can_at c.args.linked.now g.out c.args.s.now (λ o. One o c.args.n) c.args.op 148 c.in-148.is c.requires.0)).0) c.count_local-in-148.ensures.runs;
  limit = c.count_local-in-148.ensures.limit;
}

pub count_local-requires-in-194 : goal.count_local-requires-in-194
count_local-requires-in-194 g c = let d = op_C2 c.args.linked.now g.out c.args.s.now c.args.n (can_at c.args.linked.now g.out c.args.s.now (λ o. One o c.args.n) c.args.op 194 c.in-194.is c.requires.0) in (c.requires.0.set, (d.0.ready, d.1))

pub returns-in-194 : goal.returns-in-194
returns-in-194 g c = record {
  runs = runs_at c.args.linked.now g.out c.args.s.now (λ o. One o c.args.n) c.args.op 194 0 0 _ _ c.in-194.is ((op_C2 c.args.linked.now g.out c.args.s.now c.args.n (can_at c.args.linked.now g.out c.args.s.now (λ o. One o c.args.n) c.args.op 194 c.in-194.is c.requires.0)).0) c.count_local-in-194.ensures.runs;
  limit = c.count_local-in-194.ensures.limit;
}

pub count_local-requires-in-195 : goal.count_local-requires-in-195
count_local-requires-in-195 g c = let d = op_C3 c.args.linked.now g.out c.args.s.now c.args.n (can_at c.args.linked.now g.out c.args.s.now (λ o. One o c.args.n) c.args.op 195 c.in-195.is c.requires.0) in (c.requires.0.set, (d.0.ready, d.1))

pub returns-in-195 : goal.returns-in-195
returns-in-195 g c = record {
  runs = runs_at c.args.linked.now g.out c.args.s.now (λ o. One o c.args.n) c.args.op 195 0 0 _ _ c.in-195.is ((op_C3 c.args.linked.now g.out c.args.s.now c.args.n (can_at c.args.linked.now g.out c.args.s.now (λ o. One o c.args.n) c.args.op 195 c.in-195.is c.requires.0)).0) c.count_local-in-195.ensures.runs;
  limit = c.count_local-in-195.ensures.limit;
}

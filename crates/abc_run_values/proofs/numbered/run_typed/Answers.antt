use Rattle.abc_run_values.proofs.OtherOps.{op_80, op_86, op_B2}
use Rattle.abc_run_values.proofs.Doing.{can_at, runs_at}
use Rattle.abc_file_types.specs.declared.code.Instr.TheVariants.{One}
use Rattle.abc_run_values.proofs.numbered.run_typed.Goals as goal

pub coerce_to-requires : goal.coerce_to-requires
coerce_to-requires g c = let d = op_80 c.args.linked.now g.out c.args.s.now c.args.n (can_at c.args.linked.now g.out c.args.s.now (λ o. One o c.args.n) c.args.op 128 c.in-128.is c.requires.0) in (c.requires.0.set, (d.0.ready, d.1))

pub returns-in-128 : goal.returns-in-128
returns-in-128 g c = record {
  runs = runs_at c.args.linked.now g.out c.args.s.now (λ o. One o c.args.n) c.args.op 128 1 1 _ _ c.in-128.is ((op_80 c.args.linked.now g.out c.args.s.now c.args.n (can_at c.args.linked.now g.out c.args.s.now (λ o. One o c.args.n) c.args.op 128 c.in-128.is c.requires.0)).0) c.coerce_to.ensures.runs;
  limit = c.coerce_to.ensures.limit;
}

pub as_type-requires : goal.as_type-requires
as_type-requires g c = let d = op_86 c.args.linked.now g.out c.args.s.now c.args.n (can_at c.args.linked.now g.out c.args.s.now (λ o. One o c.args.n) c.args.op 134 c.in-134.is c.requires.0) in (c.requires.0.set, (d.0.ready, d.1))

pub returns-in-134 : goal.returns-in-134
returns-in-134 g c = record {
  runs = runs_at c.args.linked.now g.out c.args.s.now (λ o. One o c.args.n) c.args.op 134 1 1 _ _ c.in-134.is ((op_86 c.args.linked.now g.out c.args.s.now c.args.n (can_at c.args.linked.now g.out c.args.s.now (λ o. One o c.args.n) c.args.op 134 c.in-134.is c.requires.0)).0) c.as_type.ensures.runs;
  limit = c.as_type.ensures.limit;
}

pub is_type-requires : goal.is_type-requires
is_type-requires g c = let d = op_B2 c.args.linked.now g.out c.args.s.now c.args.n (can_at c.args.linked.now g.out c.args.s.now (λ o. One o c.args.n) c.args.op 178 c.in-178.is c.requires.0) in (c.requires.0.set, (d.0.ready, d.1))

pub returns-in-178 : goal.returns-in-178
returns-in-178 g c = record {
  runs = runs_at c.args.linked.now g.out c.args.s.now (λ o. One o c.args.n) c.args.op 178 1 1 _ _ c.in-178.is ((op_B2 c.args.linked.now g.out c.args.s.now c.args.n (can_at c.args.linked.now g.out c.args.s.now (λ o. One o c.args.n) c.args.op 178 c.in-178.is c.requires.0)).0) c.is_type.ensures.runs;
  limit = c.is_type.ensures.limit;
}

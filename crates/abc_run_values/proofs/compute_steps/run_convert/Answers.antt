use Rattle.abc_run_values.proofs.ComputingOps.{op_70, op_73, op_74, op_75, op_76, op_77, op_82, op_85}
use Rattle.abc_run_values.proofs.Doing.{can_at, runs_at}
use Rattle.abc_file_types.specs.declared.code.Instr.TheVariants.{Plain}
use Rattle.abc_run_values.proofs.compute_steps.run_convert.Goals as goal

pub convert_top-requires : goal.convert_top-requires
convert_top-requires g c = let d = op_70 c.args.linked.now g.out c.args.s.now (can_at c.args.linked.now g.out c.args.s.now Plain c.args.op 112 c.in-112.is c.requires.0) in (c.requires.0.set, d.ready)

pub returns-in-112 : goal.returns-in-112
returns-in-112 g c = record {
  runs = runs_at c.args.linked.now g.out c.args.s.now Plain c.args.op 112 1 1 _ _ c.in-112.is (op_70 c.args.linked.now g.out c.args.s.now (can_at c.args.linked.now g.out c.args.s.now Plain c.args.op 112 c.in-112.is c.requires.0)) c.convert_top.ensures.runs;
  limit = c.convert_top.ensures.limit;
}

pub convert_top-requires-in-115 : goal.convert_top-requires-in-115
convert_top-requires-in-115 g c = let d = op_73 c.args.linked.now g.out c.args.s.now (can_at c.args.linked.now g.out c.args.s.now Plain c.args.op 115 c.in-115.is c.requires.0) in (c.requires.0.set, d.ready)

pub returns-in-115 : goal.returns-in-115
returns-in-115 g c = record {
  runs = runs_at c.args.linked.now g.out c.args.s.now Plain c.args.op 115 1 1 _ _ c.in-115.is (op_73 c.args.linked.now g.out c.args.s.now (can_at c.args.linked.now g.out c.args.s.now Plain c.args.op 115 c.in-115.is c.requires.0)) c.convert_top-in-115.ensures.runs;
  limit = c.convert_top-in-115.ensures.limit;
}

pub convert_top-requires-in-116 : goal.convert_top-requires-in-116
convert_top-requires-in-116 g c = let d = op_74 c.args.linked.now g.out c.args.s.now (can_at c.args.linked.now g.out c.args.s.now Plain c.args.op 116 c.in-116.is c.requires.0) in (c.requires.0.set, d.ready)

pub returns-in-116 : goal.returns-in-116
returns-in-116 g c = record {
  runs = runs_at c.args.linked.now g.out c.args.s.now Plain c.args.op 116 1 1 _ _ c.in-116.is (op_74 c.args.linked.now g.out c.args.s.now (can_at c.args.linked.now g.out c.args.s.now Plain c.args.op 116 c.in-116.is c.requires.0)) c.convert_top-in-116.ensures.runs;
  limit = c.convert_top-in-116.ensures.limit;
}

pub convert_top-requires-in-117 : goal.convert_top-requires-in-117
convert_top-requires-in-117 g c = let d = op_75 c.args.linked.now g.out c.args.s.now (can_at c.args.linked.now g.out c.args.s.now Plain c.args.op 117 c.in-117.is c.requires.0) in (c.requires.0.set, d.ready)

pub returns-in-117 : goal.returns-in-117
returns-in-117 g c = record {
  runs = runs_at c.args.linked.now g.out c.args.s.now Plain c.args.op 117 1 1 _ _ c.in-117.is (op_75 c.args.linked.now g.out c.args.s.now (can_at c.args.linked.now g.out c.args.s.now Plain c.args.op 117 c.in-117.is c.requires.0)) c.convert_top-in-117.ensures.runs;
  limit = c.convert_top-in-117.ensures.limit;
}

pub convert_top-requires-in-118 : goal.convert_top-requires-in-118
convert_top-requires-in-118 g c = let d = op_76 c.args.linked.now g.out c.args.s.now (can_at c.args.linked.now g.out c.args.s.now Plain c.args.op 118 c.in-118.is c.requires.0) in (c.requires.0.set, d.ready)

pub returns-in-118 : goal.returns-in-118
returns-in-118 g c = record {
  runs = runs_at c.args.linked.now g.out c.args.s.now Plain c.args.op 118 1 1 _ _ c.in-118.is (op_76 c.args.linked.now g.out c.args.s.now (can_at c.args.linked.now g.out c.args.s.now Plain c.args.op 118 c.in-118.is c.requires.0)) c.convert_top-in-118.ensures.runs;
  limit = c.convert_top-in-118.ensures.limit;
}

pub convert_top-requires-in-119 : goal.convert_top-requires-in-119
convert_top-requires-in-119 g c = let d = op_77 c.args.linked.now g.out c.args.s.now (can_at c.args.linked.now g.out c.args.s.now Plain c.args.op 119 c.in-119.is c.requires.0) in (c.requires.0.set, d.ready)

pub returns-in-119 : goal.returns-in-119
returns-in-119 g c = record {
  runs = runs_at c.args.linked.now g.out c.args.s.now Plain c.args.op 119 1 1 _ _ c.in-119.is (op_77 c.args.linked.now g.out c.args.s.now (can_at c.args.linked.now g.out c.args.s.now Plain c.args.op 119 c.in-119.is c.requires.0)) c.convert_top-in-119.ensures.runs;
  limit = c.convert_top-in-119.ensures.limit;
}

pub step_on-requires : goal.step_on-requires
step_on-requires g c = let d = op_82 c.args.linked.now g.out c.args.s.now (can_at c.args.linked.now g.out c.args.s.now Plain c.args.op 130 c.in-130.is c.requires.0) in d.ready

pub returns-in-130 : goal.returns-in-130
returns-in-130 g c = record {
  runs = runs_at c.args.linked.now g.out c.args.s.now Plain c.args.op 130 0 0 _ _ c.in-130.is (op_82 c.args.linked.now g.out c.args.s.now (can_at c.args.linked.now g.out c.args.s.now Plain c.args.op 130 c.in-130.is c.requires.0)) c.step_on.ensures.runs;
  limit = c.step_on.ensures.limit;
}

pub convert_top-requires-in-133 : goal.convert_top-requires-in-133
convert_top-requires-in-133 g c = let d = op_85 c.args.linked.now g.out c.args.s.now (can_at c.args.linked.now g.out c.args.s.now Plain c.args.op 133 c.in-133.is c.requires.0) in (c.requires.0.set, d.ready)

pub returns-in-133 : goal.returns-in-133
returns-in-133 g c = record {
  runs = runs_at c.args.linked.now g.out c.args.s.now Plain c.args.op 133 1 1 _ _ c.in-133.is (op_85 c.args.linked.now g.out c.args.s.now (can_at c.args.linked.now g.out c.args.s.now Plain c.args.op 133 c.in-133.is c.requires.0)) c.convert_top-in-133.ensures.runs;
  limit = c.convert_top-in-133.ensures.limit;
}

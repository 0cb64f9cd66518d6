use Rattle.abc_run_dispatch.proofs.ObjectOps.{op_1E, op_1F, op_23}
use Rattle.abc_run_values.proofs.Doing.{can_at, runs_at}
use Rattle.abc_file_types.specs.declared.code.Instr.TheVariants.{Plain}
use Rattle.abc_run_dispatch.proofs.values.run_walk.Goals as goal

pub next_name-requires : goal.next_name-requires
next_name-requires g c = record { set = c.requires.0.set; ready = (op_1E c.args.linked.now g.out c.args.s.now (can_at c.args.linked.now g.out c.args.s.now Plain c.args.op 30 c.in-30.is c.requires.0)).ready }

pub returns-in-30 : goal.returns-in-30
returns-in-30 g c = record {
  runs = runs_at c.args.linked.now g.out c.args.s.now Plain c.args.op 30 2 1 _ _ c.in-30.is (op_1E c.args.linked.now g.out c.args.s.now (can_at c.args.linked.now g.out c.args.s.now Plain c.args.op 30 c.in-30.is c.requires.0)) (c.next_name.ensures.runs g.out);
  limit = c.next_name.ensures.limit;
}

pub walk_one-requires : goal.walk_one-requires
walk_one-requires g c = record { set = c.requires.0.set; ready = (op_1F c.args.linked.now g.out c.args.s.now (can_at c.args.linked.now g.out c.args.s.now Plain c.args.op 31 c.in-31.is c.requires.0)).ready }

pub returns-in-31 : goal.returns-in-31
returns-in-31 g c = record {
  runs = runs_at c.args.linked.now g.out c.args.s.now Plain c.args.op 31 2 1 _ _ c.in-31.is (op_1F c.args.linked.now g.out c.args.s.now (can_at c.args.linked.now g.out c.args.s.now Plain c.args.op 31 c.in-31.is c.requires.0)) (c.walk_one.ensures.runs g.out);
  limit = c.walk_one.ensures.limit;
}

pub next_value-requires : goal.next_value-requires
next_value-requires g c = record { set = c.requires.0.set; ready = (op_23 c.args.linked.now g.out c.args.s.now (can_at c.args.linked.now g.out c.args.s.now Plain c.args.op 35 c.in-35.is c.requires.0)).ready }

pub returns-in-35 : goal.returns-in-35
returns-in-35 g c = record {
  runs = runs_at c.args.linked.now g.out c.args.s.now Plain c.args.op 35 2 1 _ _ c.in-35.is (op_23 c.args.linked.now g.out c.args.s.now (can_at c.args.linked.now g.out c.args.s.now Plain c.args.op 35 c.in-35.is c.requires.0)) (c.next_value.ensures.runs g.out);
  limit = c.next_value.ensures.limit;
}

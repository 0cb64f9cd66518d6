use Rattle.abc_run_dispatch.proofs.ObjectOps.{op_87, op_B1, op_B3, op_B4}
use Rattle.abc_run_values.proofs.Doing.{can_at, runs_at}
use Rattle.abc_file_types.specs.declared.code.Instr.TheVariants.{Plain}
use Rattle.abc_run_dispatch.proofs.values.run_late.Goals as goal

pub as_late-requires : goal.as_late-requires
as_late-requires g c = record { set = c.requires.0.set; ready = (op_87 c.args.linked.now g.out c.args.s.now (can_at c.args.linked.now g.out c.args.s.now Plain c.args.op 135 c.in-135.is c.requires.0)).ready }

pub returns-in-135 : goal.returns-in-135
returns-in-135 g c = record {
  runs = runs_at c.args.linked.now g.out c.args.s.now Plain c.args.op 135 2 1 _ _ c.in-135.is (op_87 c.args.linked.now g.out c.args.s.now (can_at c.args.linked.now g.out c.args.s.now Plain c.args.op 135 c.in-135.is c.requires.0)) (c.as_late.ensures.runs g.out);
  limit = c.as_late.ensures.limit;
}

pub is_instance_of-requires : goal.is_instance_of-requires
is_instance_of-requires g c = record { set = c.requires.0.set; ready = (op_B1 c.args.linked.now g.out c.args.s.now (can_at c.args.linked.now g.out c.args.s.now Plain c.args.op 177 c.in-177.is c.requires.0)).ready }

pub returns-in-177 : goal.returns-in-177
returns-in-177 g c = record {
  runs = runs_at c.args.linked.now g.out c.args.s.now Plain c.args.op 177 2 1 _ _ c.in-177.is (op_B1 c.args.linked.now g.out c.args.s.now (can_at c.args.linked.now g.out c.args.s.now Plain c.args.op 177 c.in-177.is c.requires.0)) (c.is_instance_of.ensures.runs g.out);
  limit = c.is_instance_of.ensures.limit;
}

pub is_late-requires : goal.is_late-requires
is_late-requires g c = record { set = c.requires.0.set; ready = (op_B3 c.args.linked.now g.out c.args.s.now (can_at c.args.linked.now g.out c.args.s.now Plain c.args.op 179 c.in-179.is c.requires.0)).ready }

pub returns-in-179 : goal.returns-in-179
returns-in-179 g c = record {
  runs = runs_at c.args.linked.now g.out c.args.s.now Plain c.args.op 179 2 1 _ _ c.in-179.is (op_B3 c.args.linked.now g.out c.args.s.now (can_at c.args.linked.now g.out c.args.s.now Plain c.args.op 179 c.in-179.is c.requires.0)) (c.is_late.ensures.runs g.out);
  limit = c.is_late.ensures.limit;
}

pub has_name-requires : goal.has_name-requires
has_name-requires g c = (c.requires.0.set, (op_B4 c.args.linked.now g.out c.args.s.now (can_at c.args.linked.now g.out c.args.s.now Plain c.args.op 180 c.in-180.is c.requires.0)).ready)

pub returns-in-180 : goal.returns-in-180
returns-in-180 g c = record {
  runs = runs_at c.args.linked.now g.out c.args.s.now Plain c.args.op 180 2 1 _ _ c.in-180.is (op_B4 c.args.linked.now g.out c.args.s.now (can_at c.args.linked.now g.out c.args.s.now Plain c.args.op 180 c.in-180.is c.requires.0)) c.has_name.ensures.runs;
  limit = c.has_name.ensures.limit;
}

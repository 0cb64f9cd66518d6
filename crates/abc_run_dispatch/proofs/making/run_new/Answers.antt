use Rattle.std.proofs.Common.{◌*◌}
use Rattle.abc_run_dispatch.proofs.NewOps.{op_40, op_55, op_56}
use Rattle.abc_run_dispatch.proofs.Dispatched.{here_at}
use Rattle.abc_run_values.proofs.Doing.{can_at, runs_at}
use Rattle.abc_file_types.specs.declared.code.Instr.TheVariants.{One}
use Rattle.abc_run_dispatch.proofs.making.run_new.Goals as goal

pub new_function-requires : goal.new_function-requires
new_function-requires g c = let can = can_at c.args.linked.now g.out c.args.s.now (λ o. One o c.args.n) c.args.op 64 c.in-64.is c.requires.0 in let d = op_40 c.args.linked.now g.out c.args.s.now c.args.n can in record { set = can.set; ready = d.0.ready; method = d.1 }

pub returns-in-64 : goal.returns-in-64
returns-in-64 g c = record {
  runs = runs_at c.args.linked.now g.out c.args.s.now (λ o. One o c.args.n) c.args.op 64 0 1 _ _ c.in-64.is ((op_40 c.args.linked.now g.out c.args.s.now c.args.n (can_at c.args.linked.now g.out c.args.s.now (λ o. One o c.args.n) c.args.op 64 c.in-64.is c.requires.0)).0) (c.new_function.ensures.runs g.out);
  limit = c.new_function.ensures.limit;
}

pub new_object-requires : goal.new_object-requires
new_object-requires g c = let can = can_at c.args.linked.now g.out c.args.s.now (λ o. One o c.args.n) c.args.op 85 c.in-85.is c.requires.0 in (can.set, ((op_55 c.args.linked.now g.out c.args.s.now c.args.n can).ready, can.spelled.1))

pub returns-in-85 : goal.returns-in-85
returns-in-85 g c = record {
  runs = runs_at c.args.linked.now g.out c.args.s.now (λ o. One o c.args.n) c.args.op 85 (2 * c.args.n) 1 _ _ c.in-85.is (op_55 c.args.linked.now g.out c.args.s.now c.args.n (can_at c.args.linked.now g.out c.args.s.now (λ o. One o c.args.n) c.args.op 85 c.in-85.is c.requires.0)) c.new_object.ensures.runs;
  limit = c.new_object.ensures.limit;
}

pub new_array-requires : goal.new_array-requires
new_array-requires g c = let can = can_at c.args.linked.now g.out c.args.s.now (λ o. One o c.args.n) c.args.op 86 c.in-86.is c.requires.0 in record { set = can.set; ready = (op_56 c.args.linked.now g.out c.args.s.now c.args.n can).ready }

pub returns-in-86 : goal.returns-in-86
returns-in-86 g c = record {
  runs = runs_at c.args.linked.now g.out c.args.s.now (λ o. One o c.args.n) c.args.op 86 c.args.n 1 _ _ c.in-86.is (op_56 c.args.linked.now g.out c.args.s.now c.args.n (can_at c.args.linked.now g.out c.args.s.now (λ o. One o c.args.n) c.args.op 86 c.in-86.is c.requires.0)) (c.new_array.ensures.runs g.out);
  limit = c.new_array.ensures.limit;
}

pub make_catch-requires : goal.make_catch-requires
make_catch-requires g c = can_at c.args.linked.now g.out c.args.s.now (λ o. One o c.args.n) c.args.op 90 c.in-90.is c.requires.0

pub returns-in-90 : goal.returns-in-90
returns-in-90 g c = here_at c.args.linked.now g.out c.args.s.now (λ o. One o c.args.n) c.args.op 90 _ _ c.in-90.is c.make_catch.ensures

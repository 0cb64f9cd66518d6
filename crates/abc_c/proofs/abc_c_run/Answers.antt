use Rattle.std.proofs.Common.{[], refl, arith, rules}
use Rattle.abc_base.specs.declared.status.Status.TheVariants as status
use Rattle.abc_c.specs.Outcome.{use_of}
use Rattle.abc_c.proofs.Using.{came_nowhere}
use Rattle.abc_c.proofs.abc_c_run.Goals as goal

pub returns-in-Ok : goal.returns-in-Ok
returns-in-Ok c = record {
  status = c.open_and_run-came.result.status;
  code = c.code.ensures;
  written = c.open_and_run-came.new.out.taken;
  comes = c.open_and_run-came.ensures.came;
  many = c.copy_out.ensures.count;
  output = c.copy_out.ensures.output;
}

pub returns-in-Err : goal.returns-in-Err
returns-in-Err c = record {
  status = status.NoMemory;
  code = c.code-in-Err.ensures;
  written = [];
  comes = came_nowhere (use_of c.args.file.now c.args.bounds.now c.args.names.now c.args.calls.now) c.args.answers.now status.NoMemory c.unrefused.result 0 [] refl c.unrefused.ensures refl refl;
  many = omega arith;
  output = search rules;
}

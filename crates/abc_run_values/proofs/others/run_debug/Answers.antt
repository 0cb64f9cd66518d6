use Rattle.abc_run_values.proofs.OtherOps.{op_EF}
use Rattle.abc_run_values.proofs.Doing.{turns_as}
use Rattle.abc_file_types.specs.declared.code.Instr.TheVariants.{Debug}
use Rattle.abc_run_values.proofs.others.run_debug.Goals as goal

pub step_on-requires : goal.step_on-requires
step_on-requires g c = let d = op_EF c.args.linked.now g.out c.args.s.now c.args.kind c.args.name c.args.reg c.args.extra c.requires in d.ready

pub returns : goal.returns
returns g c = record {
  runs = turns_as c.args.linked.now g.out c.args.s.now (Debug c.args.kind c.args.name c.args.reg c.args.extra) 0 0 _ _ (op_EF c.args.linked.now g.out c.args.s.now c.args.kind c.args.name c.args.reg c.args.extra c.requires) c.step_on.ensures.runs;
  limit = c.step_on.ensures.limit;
}

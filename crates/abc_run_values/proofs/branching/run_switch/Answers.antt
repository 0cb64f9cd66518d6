use Rattle.abc_run_values.proofs.OtherOps.{op_1B}
use Rattle.abc_run_values.proofs.Doing.{open_as, turns_as}
use Rattle.abc_file_types.specs.declared.code.Instr.TheVariants.{Switch}
use Rattle.abc_run_values.proofs.branching.run_switch.Goals as goal

pub switch-requires : goal.switch-requires
switch-requires g c = let d = op_1B c.args.linked.now g.out c.args.s.now c.args.default c.args.cases.now c.requires in (d.ready, open_as c.args.linked.now g.out c.args.s.now (Switch c.args.default c.args.cases.now) 1 0 _ d c.requires.free)

pub returns : goal.returns
returns g c = record {
  runs = turns_as c.args.linked.now g.out c.args.s.now (Switch c.args.default c.args.cases.now) 1 0 _ _ (op_1B c.args.linked.now g.out c.args.s.now c.args.default c.args.cases.now c.requires) c.switch.ensures.runs;
  limit = c.switch.ensures.limit;
}

use Rattle.abc_run_values.proofs.OtherOps.{op_65}
use Rattle.abc_run_values.proofs.Doing.{turns_as}
use Rattle.abc_file_types.specs.declared.code.Instr.TheVariants.{ScopeObject}
use Rattle.abc_run_values.proofs.others.run_scope_object.Goals as goal

pub read_scope-requires : goal.read_scope-requires
read_scope-requires g c = let d = op_65 c.args.linked.now g.out c.args.s.now c.args.n c.requires in (d.0.ready, d.1)

pub returns : goal.returns
returns g c = record {
  runs = turns_as c.args.linked.now g.out c.args.s.now (ScopeObject c.args.n) 0 1 _ _ ((op_65 c.args.linked.now g.out c.args.s.now c.args.n c.requires).0) c.read_scope.ensures.runs;
  limit = c.read_scope.ensures.limit;
}

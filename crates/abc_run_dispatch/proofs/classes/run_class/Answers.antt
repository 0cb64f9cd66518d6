use Rattle.abc_run_values.proofs.Doing.{open_as, turns_as}
use Rattle.abc_file_types.specs.declared.code.Instr.TheVariants.{One}
use Rattle.abc_run_dispatch.proofs.ScopeOps.{op_58}
use Rattle.abc_run_dispatch.proofs.classes.run_class.Goals as goal

pub new_class-requires : goal.new_class-requires
new_class-requires g c =
    let m = op_58 c.args.linked.now g.out c.args.s.now c.args.n c.requires.0 in (record { set = c.requires.0.set; known = c.requires.1; free = open_as c.args.linked.now g.out c.args.s.now (One 0x58 c.args.n) 1 1 _ m.does c.requires.0.free }, (m.does.ready, m.class))

pub returns : goal.returns
returns g c = record {
  runs = turns_as c.args.linked.now g.out c.args.s.now (One 0x58 c.args.n) 1 1 _ _ (op_58 c.args.linked.now g.out c.args.s.now c.args.n c.requires.0).does c.new_class.ensures.runs;
  limit = c.new_class.ensures.limit;
}

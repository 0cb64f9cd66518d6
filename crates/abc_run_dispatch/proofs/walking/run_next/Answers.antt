use Rattle.abc_run_dispatch.proofs.Walked.{op_32}
use Rattle.abc_run_values.proofs.Doing.{turns_as}
use Rattle.abc_file_types.specs.declared.code.Instr.TheVariants.{Two}
use Rattle.abc_run_dispatch.proofs.walking.run_next.Goals as goal

pub walk_on-requires : goal.walk_on-requires
walk_on-requires g c = let o = op_32 c.args.linked.now g.out c.args.s.now c.args.holder c.args.position c.requires in record { set = c.requires.set; ready = o.does.ready; holder = o.holder; position = o.position }

pub returns : goal.returns
returns g c = record {
  runs = turns_as c.args.linked.now g.out c.args.s.now (Two 50 c.args.holder c.args.position) 0 1 _ _ ((op_32 c.args.linked.now g.out c.args.s.now c.args.holder c.args.position c.requires).does) (c.walk_on.ensures.runs g.out);
  limit = c.walk_on.ensures.limit;
}

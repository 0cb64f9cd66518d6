use Rattle.abc_run_dispatch.proofs.Bodied.{body_there}
use Rattle.abc_run_dispatch.proofs.NewOps.{op_57}
use Rattle.abc_run_values.proofs.Doing.{turns_as}
use Rattle.abc_file_types.specs.declared.code.Instr.TheVariants.{Plain}
use Rattle.abc_run_dispatch.proofs.scoping.make_activation.Goals as goal

pub body_here-body-requires : goal.body_here-body-requires
body_here-body-requires g c = record { live = c.requires.live; there = body_there c.args.linked.now g.out c.args.s.now (Plain 87) c.requires }

pub new_activation-requires : goal.new_activation-requires
new_activation-requires g c = let d = op_57 c.args.linked.now g.out c.args.s.now c.body_here-body.result c.requires c.body_here-body.ensures in record { set = c.requires.set; ready = d.0.ready; layout = d.1 }

pub returns : goal.returns
returns g c = record {
  runs = turns_as c.args.linked.now g.out c.args.s.now (Plain 87) 0 1 _ _ ((op_57 c.args.linked.now g.out c.args.s.now c.body_here-body.result c.requires c.body_here-body.ensures).0) (c.new_activation.ensures.runs g.out);
  limit = c.new_activation.ensures.limit;
}

use Rattle.abc_run_dispatch.proofs.Bodied.{body_there}
use Rattle.abc_run_dispatch.proofs.NewOps.{op_5A}
use Rattle.abc_run_values.proofs.Doing.{turns_as}
use Rattle.abc_file_types.specs.declared.code.Instr.TheVariants.{One}
use Rattle.abc_run_dispatch.proofs.making.make_catch.Goals as goal

pub body_here-body-requires : goal.body_here-body-requires
body_here-body-requires g c = record { live = c.requires.live; there = body_there c.args.linked.now g.out c.args.s.now (One 90 c.args.handler) c.requires }

pub new_catch-requires : goal.new_catch-requires
new_catch-requires g c = let d = op_5A c.args.linked.now g.out c.args.s.now c.args.handler c.body_here-body.result c.requires c.body_here-body.ensures in record { set = c.requires.set; ready = d.0.ready; layout = d.1 }

pub returns : goal.returns
returns g c = record {
  runs = turns_as c.args.linked.now g.out c.args.s.now (One 90 c.args.handler) 0 1 _ _ ((op_5A c.args.linked.now g.out c.args.s.now c.args.handler c.body_here-body.result c.requires c.body_here-body.ensures).0) (c.new_catch.ensures.runs g.out);
  limit = c.new_catch.ensures.limit;
}

use Rattle.std.proofs.Common.{ap}
use Rattle.abc_run_dispatch.specs.Homes.{class_of_owner}
use Rattle.abc_run_dispatch.proofs.Homes.{home_inside}
use Rattle.abc_run_dispatch.proofs.scopes_here.class_in.Goals as goal

pub returns-in-Iinit-clause-inside : goal.returns-in-Iinit-clause-inside
returns-in-Iinit-clause-inside c = home_inside c.args.linked.now c.args.owner c.in-Iinit.class c.requires (ap class_of_owner c.in-Iinit.is)

pub returns-in-Instance-clause-inside : goal.returns-in-Instance-clause-inside
returns-in-Instance-clause-inside c = home_inside c.args.linked.now c.args.owner c.in-Instance.class c.requires (ap class_of_owner c.in-Instance.is)

use Rattle.std.proofs.Common.{arith}
use Rattle.abc_link_interfaces.proofs.Settling.{put}
use Rattle.abc_link_interfaces.proofs.sets.settle.Goals as goal

pub returns : goal.returns
returns c = put c.args.abc.now c.args.sets.now _ c.args.class c.in_ok-settled.settled c.requires.sets c.in_ok-settled.ensures (omega arith) c.set.ensures

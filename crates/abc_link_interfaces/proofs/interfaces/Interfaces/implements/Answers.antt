use Rattle.abc_link_interfaces.proofs.Settling.{has_above}
use Rattle.abc_link_interfaces.proofs.interfaces.Interfaces.implements.Goals as goal

pub returns : goal.returns
returns c = has_above c.args.abc.now c.args.self.now.sets c.args.class c.args.interface _ c.requires.sets c.requires.known c.has.ensures

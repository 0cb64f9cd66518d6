use Rattle.abc_asm.proofs.Beneath.{instance_is}
use Rattle.abc_asm.proofs.classes.InstancesHeaded.make.Goals as goal

pub returns : goal.returns
returns c = instance_is c.args.head c.args.below c.fetch.result c.fetch.ensures

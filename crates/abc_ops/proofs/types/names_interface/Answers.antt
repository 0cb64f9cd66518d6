use Rattle.std.proofs.Common.{subst}
use Rattle.abc_link_names.specs.Parts.{HasLayout}
use Rattle.abc_ops.proofs.types.names_interface.Goals as goal

pub implements-requires : goal.implements-requires
implements-requires c = subst (HasLayout c.args.l.now.file) c.in-Instance.is c.requires

use Rattle.std.proofs.Common.{length}
use Rattle.abc_lookup.proofs.Along.{base_in, base_some}
use Rattle.abc_lookup.proofs.tables.slots_under.Goals as goal

pub slots-requires : goal.slots-requires
slots-requires c =
    base_in c.args.l.now c.linked_law.ensures c.args.x.0 c.in-Some.base.0 (length c.args.l.now.parts) (base_some c.args.l.now c.args.x.0 c.base.result c.in-Some.base c.base.ensures c.in-Some.is) c.requires

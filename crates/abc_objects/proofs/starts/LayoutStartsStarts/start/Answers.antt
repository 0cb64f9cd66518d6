use Rattle.abc_objects.proofs.Ways.{starts_short, start_read}
use Rattle.abc_objects.proofs.starts.LayoutStartsStarts.start.Goals as goal

pub value_at_start-requires : goal.value_at_start-requires
value_at_start-requires c = starts_short c.args.self.now.pool.now c.args.self.now.slots.now c.args.k c.get.result.now c.args.self.now.sound c.requires c.get.ensures

pub returns : goal.returns
returns c = start_read c.args.self.now.pool.now c.args.self.now.slots.now c.args.k c.get.result.now c.value_at_start.result c.requires c.get.ensures c.value_at_start.ensures

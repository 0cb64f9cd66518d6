use Rattle.std.proofs.Common.{ap}
use Rattle.abc_file_types.specs.declared.tables.Abc.{Abc}
use Rattle.abc_objects.proofs.Made.{can_start}
use Rattle.abc_objects.proofs.starts.starts_of.Goals as goal

pub new-requires : goal.new-requires
new-requires c = can_start c.args.l.now c.args.layout.0 c.abc.result.now.strings c.slots.result.now (ap (λ (a : Abc). a.strings) c.abc.ensures) c.slots.ensures (c.requires.starts c.args.layout.0 c.requires.layout)

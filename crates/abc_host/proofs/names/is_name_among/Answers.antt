use Rattle.std.proofs.Common.{arith}
use Rattle.abc_host.proofs.Taken.{found}
use Rattle.abc_host.proofs.names.is_name_among.Goals as goal

pub returns-then-is_named : goal.returns-then-is_named
returns-then-is_named g c = found (λ entry. entry.formula.name) c.args.entries.now c.loop-entry.entry-index c.entry-item.result c.args.name.now _ (omega arith) c.entry-item.is c.is_named.ensures c.if-is_named.true

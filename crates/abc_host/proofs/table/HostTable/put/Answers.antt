use Rattle.abc_host.proofs.Adding.{formed_after}
use Rattle.abc_host.proofs.table.HostTable.put.Goals as goal

pub invariant_of-self : goal.invariant_of-self
invariant_of-self g c = record { formed = formed_after (λ entry. entry.formula) c.args.self.now.entries.items c.args.entry _ c.push.result c.args.self.now.formed c.requires c.push.ensures.items }

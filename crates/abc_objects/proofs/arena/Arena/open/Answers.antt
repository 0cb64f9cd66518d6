use Rattle.abc_objects.proofs.Started.{starts_exist}
use Rattle.abc_objects.proofs.Steps.{ledger_opened, stands_opened}
use Rattle.abc_objects.proofs.arena.Arena.open.Goals as goal

pub open_store-requires : goal.open_store-requires
open_store-requires g c = starts_exist c.args.l.now c.linked_law.ensures c.slots_law.ensures

pub returns-clause-counts : goal.returns-clause-counts
returns-clause-counts g c = ledger_opened c.args.l.now (g.H.Host.formulas c.args.host.now) c.args.limits.now _ c.linked_law.ensures c.in_ok-store.ensures.1

pub returns-clause-over : goal.returns-clause-over
returns-clause-over g c = stands_opened c.args.l.now (g.H.Host.formulas c.args.host.now) c.args.limits.now _ c.linked_law.ensures (starts_exist c.args.l.now c.linked_law.ensures c.slots_law.ensures) (g.met.H.Host.formed c.args.host.now).few c.in_ok-store.ensures.1

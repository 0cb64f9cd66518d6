use Rattle.std.proofs.Common.{subst}
use Rattle.abc_base.specs.Hosts.{builtin_formulas}
use Rattle.abc_heap_store.specs.declared.records.Limits.{Limits}
use Rattle.abc_machine.specs.Machines.{IsOpened}
use Rattle.abc_c.proofs.kept.Kept.open.Goals as goal

pub invariant_of-result : goal.invariant_of-result
invariant_of-result c = record { beside = c.sessions_stay_beside.ensures.opened _ builtin_formulas _ c.in-Ok.session c.in-Ok.ensures }

pub returns-in-Ok : goal.returns-in-Ok
returns-in-Ok c = subst (λ (x : Limits). IsOpened c.args.verified builtin_formulas x c.in-Ok.session) c.limits.ensures c.in-Ok.ensures

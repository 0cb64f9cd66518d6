use Rattle.std.proofs.Common.{◌<◌, ◌^◌, subst, rules}
use Rattle.abc_meaning.specs.Openings.{IsOpeningRefused, setting}
use Rattle.abc_link_names.specs.Linked.{LinkedFile}
use Rattle.abc_machine.specs.Machines.{IsFirstState}
use Rattle.abc_machine.proofs.Opening.{open_keeps, opened_as}
use Rattle.abc_machine.proofs.machine.Machine.open.Goals as goal

pub invariant_of-result : goal.invariant_of-result
invariant_of-result g c =
    let fs = g.H.Host.formulas c.args.host.now in
    let first = c.in-Ok.first in
    let here = subst (λ (l : LinkedFile). IsFirstState l fs c.args.limits.now first.state first.seen) c.linked.ensures c.in-Ok.ensures in
    let counted : c.args.limits.now.cells < 2 ^ 32 = search rules in
    open_keeps c.args.verified fs c.args.limits.now first.state first.seen here.begun counted here.none

pub returns-in-Ok : goal.returns-in-Ok
returns-in-Ok g c =
    let fs = g.H.Host.formulas c.args.host.now in
    let first = c.in-Ok.first in
    let here = subst (λ (l : LinkedFile). IsFirstState l fs c.args.limits.now first.state first.seen) c.linked.ensures c.in-Ok.ensures in
    opened_as c.args.verified fs c.args.limits.now first.state here.begun

pub returns-in-Err : goal.returns-in-Err
returns-in-Err g c = subst (λ (l : LinkedFile). IsOpeningRefused (setting l (g.H.Host.formulas c.args.host.now)) c.args.limits.now c.in-Err.e) c.linked.ensures c.in-Err.ensures

use Rattle.std.proofs.Common.{Option, subst, sym, ◌∙◌}
use Rattle.abc_verify_typing.specs.declared.state.State.{State}
use Rattle.abc_verify_typing.specs.Work.{at}
use Rattle.abc_verify_flow.specs.Telling.{Raises}
use Rattle.abc_verify_flow.proofs.Told.{raised_most, raised_ready, told_before, told_nobody, told_seen}
use Rattle.abc_verify_flow.proofs.telling.tell_at.Goals as goal

pub returns-then-first-eq0 : goal.returns-then-first-eq0
returns-then-first-eq0 g c = told_nobody _ _ _ c.args.stabs.now c.args.node c.args.seen.now.locals _ _ c.args.told.now (sym c.first.ensures ∙ c.if-first-eq0.true) c.requires.opened c.requires.kept

pub tell_more-requires-clause-ready : goal.tell_more-requires-clause-ready
tell_more-requires-clause-ready g c = λ h here. raised_ready _ _ _ c.args.stabs.now c.args.node c.args.told.now c.args.states.now c.args.seen.now c.in-Some.caught h (subst (λ (o : Option State). Raises (g.F.Flow.file c.args.flow.now) (at c.args.told.now c.args.node) c.args.seen.now o) c.in-Some.is c.in_ok-caught.ensures) c.requires.kept here (c.requires.ready h here)

pub returns-in_ok-tell_more-in-Some : goal.returns-in_ok-tell_more-in-Some
returns-in_ok-tell_more-in-Some g c =
    let p = g.F.Flow.file c.args.flow.now in
    let m = g.F.Flow.routine c.args.flow.now in
    let heads = g.F.Flow.heads c.args.flow.now in
    told_seen p m heads c.args.stabs.now c.args.node c.args.seen.now.locals c.in-Some.caught.locals _ _ _ _ _
    (raised_most p m heads (at c.args.told.now c.args.node) c.args.seen.now c.in-Some.caught (subst (λ (o : Option State). Raises p (at c.args.told.now c.args.node) c.args.seen.now o) c.in-Some.is c.in_ok-caught.ensures))
    c.in_ok-tell_more-in-Some.ensures

pub returns-in-None : goal.returns-in-None
returns-in-None g c =
    let r = subst (λ (o : Option State). Raises (g.F.Flow.file c.args.flow.now) (at c.args.told.now c.args.node) c.args.seen.now o) c.in-None.is c.in_ok-caught.ensures in
    told_before _ _ _ c.args.stabs.now c.args.node c.args.seen.now r.0 _ _ c.args.told.now r.1 r.2 c.requires.opened c.requires.kept

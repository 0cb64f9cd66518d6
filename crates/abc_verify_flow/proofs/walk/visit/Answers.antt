use Rattle.std.proofs.Common.{ap, refl, subst}
use Rattle.std.specs.Prelude.{Bool}
use Rattle.abc_verify_typing.specs.Work.{flat_state}
use Rattle.abc_verify_flow.specs.Kept.{IsLoaded}
use Rattle.abc_verify_flow.proofs.Walks.{visit_none, visit_walked}
use Rattle.abc_verify_flow.proofs.walk.visit.Goals as goal

pub returns : goal.returns
returns g c =
    let known = subst (λ (b : Bool). IsLoaded c.args.states.now c.args.place c.load.new.state b) c.if-not-branch.false c.in_ok-load.ensures in
    visit_walked _ _ _ c.args.handled.now.all c.walk_from.new.told c.args.states.now c.walk_from.new.states c.args.place c.load.new.state c.load.new.state c.args.work.now c.walk_from.new.work c.requires.under_way (ap flat_state known) refl c.in_ok-walk_from.ensures

pub returns-then-not-branch : goal.returns-then-not-branch
returns-then-not-branch g c =
    visit_none _ _ _ c.args.handled.now.all c.args.walker.now.told c.args.states.now c.args.place c.args.work.now c.requires.under_way
    (subst (λ (b : Bool). IsLoaded c.args.states.now c.args.place c.load.new.state b) c.if-not-branch.true c.in_ok-load.ensures)
    c.requires.kept

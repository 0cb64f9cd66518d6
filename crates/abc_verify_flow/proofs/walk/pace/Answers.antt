use Rattle.std.proofs.Common.{◌≡◌, List, length, subst, sym, refl}
use Rattle.abc_verify_typing.specs.Effects.{covering}
use Rattle.abc_verify_typing.specs.declared.catch.Catch.{Catch}
use Rattle.abc_verify_flow.specs.Handled.{IsCover}
use Rattle.abc_verify_flow.specs.Walking.{IsPending, Passed}
use Rattle.abc_verify_flow.specs.declared.step.Onward.{Onward}
use Rattle.abc_verify_flow.specs.declared.step.Onward.TheVariants.{Stops, GoesOn}
use Rattle.abc_verify_flow.specs.declared.step.Written.{Written}
use Rattle.abc_verify_flow.proofs.Walks.{walk_init, walk_step, walk_stop}
use Rattle.abc_verify_flow.proofs.walk.pace.Goals as goal

stops : (o : Onward) → ((w : Written) → o ≡ GoesOn w → ⊥) → o ≡ Stops
stops Stops h = refl
stops (GoesOn w) h = absurd (h w refl)

pub passing-init : goal.passing-init
passing-init g c = walk_init _ _ _ (covering (g.F.Flow.routine c.args.flow.now) c.args.start) c.args.start c.args.now.now c.args.seen.now _ _ c.requires.opened c.requires.place c.requires.derived refl c.requires.seen_is

pub pass-requires-clause-cover : goal.pass-requires-clause-cover
pass-requires-clause-cover g c = subst (λ (hs : List Catch). IsCover hs (length (g.F.Flow.routine c.args.flow.now).code) c.args.cover) c.passing.invariant.covers c.requires.cover

pub pass-requires-clause-pending : goal.pass-requires-clause-pending
pass-requires-clause-pending g c = subst (λ (hs : List Catch). IsPending (g.F.Flow.file c.args.flow.now) (g.F.Flow.routine c.args.flow.now) (g.F.Flow.heads c.args.flow.now) hs c.passing.seen c.passing.now.locals c.passing.written) c.passing.invariant.covers c.passing.invariant.pending

pub passing-preserved : goal.passing-preserved
passing-preserved g c =
    let m = g.F.Flow.routine c.args.flow.now in
    walk_step _ _ _ (covering m c.args.start) c.args.start c.args.now.now c.passing.place c.passing.now c.pass.new.now c.passing.seen c.pass.new.seen c.passing.written c.in-GoesOn.next _ _ _ _ _ _ c.requires.heads c.passing.invariant
    (subst (λ (hs : List Catch). Passed (g.F.Flow.file c.args.flow.now) m (g.F.Flow.heads c.args.flow.now) hs c.passing.place c.passing.now c.pass.new.now c.passing.seen c.pass.new.seen c.passing.states c.passing.work c.pass.new.states c.pass.new.work (GoesOn c.in-GoesOn.next)) (sym c.passing.invariant.covers)
    (subst (λ (o : Onward). Passed (g.F.Flow.file c.args.flow.now) m (g.F.Flow.heads c.args.flow.now) (covering m c.passing.place) c.passing.place c.passing.now c.pass.new.now c.passing.seen c.pass.new.seen c.passing.states c.passing.work c.pass.new.states c.pass.new.work o) c.in-GoesOn.is c.in_ok-next.ensures))

pub returns : goal.returns
returns g c =
    let m = g.F.Flow.routine c.args.flow.now in
    walk_stop _ _ _ (covering m c.args.start) c.args.start c.args.now.now c.passing.place c.passing.now c.pass.new.now c.passing.seen c.pass.new.seen c.passing.written _ _ _ _ _ _ c.passing.invariant
    (subst (λ (hs : List Catch). Passed (g.F.Flow.file c.args.flow.now) m (g.F.Flow.heads c.args.flow.now) hs c.passing.place c.passing.now c.pass.new.now c.passing.seen c.pass.new.seen c.passing.states c.passing.work c.pass.new.states c.pass.new.work Stops) (sym c.passing.invariant.covers)
    (subst (λ (o : Onward). Passed (g.F.Flow.file c.args.flow.now) m (g.F.Flow.heads c.args.flow.now) (covering m c.passing.place) c.passing.place c.passing.now c.pass.new.now c.passing.seen c.pass.new.seen c.passing.states c.passing.work c.pass.new.states c.pass.new.work o) (stops c.in_ok-next.field-0 c.in_default.not-GoesOn) c.in_ok-next.ensures))

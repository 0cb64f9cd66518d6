use Rattle.std.proofs.Common.{List, Option, subst, sym}
use Rattle.abc_verify_typing.specs.declared.state.State.{State}
use Rattle.abc_verify_flow.specs.Telling.{HasToldAt}
use Rattle.abc_verify_flow.proofs.Told.{told_now}
use Rattle.abc_verify_flow.proofs.telling.tell_more.Goals as goal

pub returns : goal.returns
returns g c =
    subst (λ (last : List (Option State)). HasToldAt (g.F.Flow.file c.args.flow.now) (g.F.Flow.routine c.args.flow.now) (g.F.Flow.heads c.args.flow.now) c.args.stabs.now c.args.node c.args.caught.locals c.args.states.now c.args.work.now last c.catch_all.new.states c.catch_all.new.work) (sym c.in_ok-set.ensures)
    (told_now _ _ _ c.args.stabs.now c.args.node c.catch_all.new.caught c.args.caught.locals _ _ _ _ c.args.told.now c.requires.inside c.in_ok-catch_all.ensures.1 c.requires.ready c.requires.kept c.in_ok-catch_all.ensures.0)

use Rattle.std.proofs.Common.{length}
use Rattle.abc_verify_typing.specs.Effects.{covering}
use Rattle.abc_verify_flow.proofs.Told.{kept_on}
use Rattle.abc_verify_flow.proofs.Walks.{seen_first, walked_all}
use Rattle.abc_verify_flow.proofs.walk.walk_from.Goals as goal

pub pace-requires-clause-cover : goal.pace-requires-clause-cover
pace-requires-clause-cover g c = c.cover_at-cover.ensures (g.F.Flow.routine c.args.flow.now).handlers (length (g.F.Flow.routine c.args.flow.now).code) c.requires.handled

pub pace-requires-clause-seen_is : goal.pace-requires-clause-seen_is
pace-requires-clause-seen_is g c =
    seen_first (covering (g.F.Flow.routine c.args.flow.now) c.args.start) (length (g.F.Flow.routine c.args.flow.now).code) c.cover_at-cover.result _ _
    (c.cover_at-cover.ensures (g.F.Flow.routine c.args.flow.now).handlers (length (g.F.Flow.routine c.args.flow.now).code) c.requires.handled)
    c.in_ok-see_first.ensures

pub tell-requires-clause-kept : goal.tell-requires-clause-kept
tell-requires-clause-kept g c = kept_on _ _ _ _ _ _ _ _ _ c.in_ok-pace.ensures.advances c.requires.kept

pub returns : goal.returns
returns g c = walked_all _ _ _ _ _ _ _ _ _ _ _ _ _ _ c.in_ok-pace.ensures c.in_ok-tell.ensures

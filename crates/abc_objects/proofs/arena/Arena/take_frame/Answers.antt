use Rattle.std.proofs.Common.{sym, subst}
use Rattle.abc_objects.specs.Stands.{StandsOver}
use Rattle.abc_objects.proofs.Kept.{over_frames}
use Rattle.abc_objects.proofs.Ways.{either_way}
use Rattle.abc_objects.proofs.arena.Arena.take_frame.Goals as goal

pub returns-clause-over : goal.returns-clause-over
returns-clause-over c = λ l old.
    let h = c.self.inside.store in
    let s = subst (StandsOver l) (sym c.self.view_is) old in
    either_way (StandsOver l c.take_frame.new.self) c.take_frame.result _ _ c.take_frame.ensures
    (λ r p. subst (StandsOver l) (sym p.2) (over_frames l h _ _ s))
    (λ e q. subst (StandsOver l) (sym q.0) s)

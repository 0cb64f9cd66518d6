use Rattle.std.proofs.Common.{sym, subst}
use Rattle.abc_objects.specs.Stands.{StandsOver}
use Rattle.abc_objects.proofs.Kept.{over_frames}
use Rattle.abc_objects.proofs.arena.Arena.give_frame.Goals as goal

pub returns-clause-over : goal.returns-clause-over
returns-clause-over c = λ l old.
    let h = c.self.inside.store in
    let s = subst (StandsOver l) (sym c.self.view_is) old in
    subst (StandsOver l) (sym c.give_frame.ensures) (over_frames l h _ _ s)

use Rattle.std.proofs.Common.{sym, subst}
use Rattle.abc_objects.specs.Stands.{StandsOver}
use Rattle.abc_objects.proofs.Kept.{over_made}
use Rattle.abc_objects.proofs.Ways.{either_way}
use Rattle.abc_objects.proofs.arena.Arena.text_of_number.Goals as goal

pub returns-clause-over : goal.returns-clause-over
returns-clause-over c = λ l old.
    let h = c.self.inside.store in
    let s = subst (StandsOver l) (sym c.self.view_is) old in
    either_way (StandsOver l c.text_of_number.new.self) c.text_of_number.result _ _ c.text_of_number.ensures
    (λ r p. subst (StandsOver l) (sym p.heap) (over_made l h _ s))
    (λ e q. subst (StandsOver l) (sym q.2) s)

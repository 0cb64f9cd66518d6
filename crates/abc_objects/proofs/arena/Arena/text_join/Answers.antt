use Rattle.std.proofs.Common.{sym, subst}
use Rattle.abc_objects.specs.Stands.{StandsOver}
use Rattle.abc_objects.proofs.Kept.{over_made}
use Rattle.abc_objects.proofs.Ways.{either_way}
use Rattle.abc_objects.proofs.arena.Arena.text_join.Goals as goal

pub returns-clause-over : goal.returns-clause-over
returns-clause-over c =
    let l = c.args.l.now in
    let h = c.self.inside.store in
    let s = subst (StandsOver l) (sym c.self.view_is) c.requires.over in
    either_way (StandsOver l c.text_join.new.self) c.text_join.result _ _ c.text_join.ensures
    (λ r p. subst (StandsOver l) (sym p.heap) (over_made l h _ s))
    (λ e q. subst (StandsOver l) (sym q.2) s)

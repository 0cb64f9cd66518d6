use Rattle.std.proofs.Common.{◌∙◌, ℕ, List, subst}
use Rattle.abc_link_known.specs.Slates.{AreSpotsMarked}
use Rattle.abc_link_known.proofs.finder.Finder.tell_set.Goals as goal

pub tell_in_set-requires : goal.tell_in_set-requires
tell_in_set-requires c = record {
  marked = subst (λ (spaces : List ℕ). AreSpotsMarked c.args.self.now.names.abc.now c.args.self.now.names.tables.now.numbers c.mark_spots.new.slate spaces) c.set_at.ensures c.in_ok-mark_spots.ensures.marked;
  places = c.in_ok-mark_spots.ensures.len ∙ c.requires.places;
  public = c.holds_public-public.ensures;
  known = c.loop-name.invariant;
}

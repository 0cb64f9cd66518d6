use Rattle.std.proofs.Common.{◌∙◌}
use Rattle.abc_link_known.proofs.finder.Finder.tell_text.Goals as goal

pub tell_in_text-requires : goal.tell_in_text-requires
tell_in_text-requires c = record {
  firsts = c.in_ok-write_firsts.ensures.firsts;
  places = c.in_ok-write_firsts.ensures.len ∙ c.requires.places;
  classes = c.classes_of-classes.ensures;
  known = c.loop-name.invariant;
}

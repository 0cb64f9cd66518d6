use Rattle.std.proofs.Common.{◌∙◌, sym}
use Rattle.abc_link_known.proofs.Telling.{resolved}
use Rattle.abc_link_known.proofs.finder.Finder.tell_in_set.Goals as goal

pub meaning_in_set-named-requires : goal.meaning_in_set-named-requires
meaning_in_set-named-requires c = record {
  marked = c.requires.marked;
  places = c.requires.places;
  spaces = c.has_set.ensures c.if-not-has_set.false;
  public = c.requires.public;
}

pub note-requires : goal.note-requires
note-requires c = record {
  known = c.requires.known;
  named = resolved c.args.self.now.names.abc.now c.args.name c.in-Some.plain c.meaning_in_set-named.result (sym c.plain_name_at.ensures ∙ c.in-Some.is) c.meaning_in_set-named.ensures;
}

use Rattle.std.proofs.Common.{◌∙◌, sym}
use Rattle.abc_link_known.proofs.Telling.{told_like}
use Rattle.abc_link_known.proofs.known.tell_like.Goals as goal

pub note-requires : goal.note-requires
note-requires c = record {
  known = c.requires;
  named = told_like c.args.names.now.abc.now c.args.known.now c.args.name c.args.other c.in-Some.a c.in-Some-plain_name_at.b c.in-Some-known_at.found c.requires
      (sym c.known_at.ensures ∙ c.in-Some-known_at.is) (sym c.plain_name_at.ensures ∙ c.in-Some.is) (sym c.plain_name_at-2.ensures ∙ c.in-Some-plain_name_at.is) (c.are_alike.ensures c.if-not-are_alike.false);
}

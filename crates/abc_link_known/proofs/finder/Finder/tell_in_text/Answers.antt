use Rattle.std.proofs.Common.{◌≡◌, ◌∙◌, ap, sym}
use Rattle.abc_link_names.specs.Numbers.{classes_of, number_of_text}
use Rattle.abc_link_known.proofs.finder.Finder.tell_in_text.Goals as goal

pub meaning_in_text-named-requires : goal.meaning_in_text-named-requires
meaning_in_text-named-requires c =
    let names = c.args.self.now.names in
    let numbers = names.tables.now.numbers in
    let same : c.args.text ≡ number_of_text numbers c.in-Some.plain.string = cc in
    record {
      firsts = c.requires.firsts;
      places = c.requires.places;
      classes = c.requires.classes ∙ ap (classes_of names.abc.now numbers) same;
      plain = sym c.plain_name_at.ensures ∙ c.in-Some.is;
    }

pub note-requires : goal.note-requires
note-requires c = record { known = c.requires.known; named = c.meaning_in_text-named.ensures }

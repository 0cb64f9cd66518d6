use Rattle.std.proofs.Common.{◌+◌, [], bytes_eq, inr, refl, subst}
use Rattle.std.proofs.lemmas.Slice.Eq.{bytes_eq-Decides}
use Rattle.abc_base_graphs.specs.Texts.{texts_of}
use Rattle.abc_tidy_entries.specs.Entries.{text_places}
use Rattle.abc_tidy_entries.specs.Heads.{TellApart}
use Rattle.abc_tidy_entries.proofs.Placing.{in_place, placed_tell}
use Rattle.abc_tidy_entries.proofs.places.text_places.Goals as goal

pub returns : goal.returns
returns c =
    let strings = c.args.abc.now.strings in
    subst (λ n. TellApart c.args.marks.now n c.in_ok-places.places (text_places c.args.abc.now)) (λ i. 1 + c.len.ensures i + c.len-2.ensures i + c.len-3.ensures i)
    (placed_tell bytes_eq bytes_eq-Decides c.args.marks.now (1 + c.len.result + c.len-2.result + c.len-3.result) strings strings (texts_of strings) c.in_ok-places.places [] refl c.in_ok-places.ensures (λ i l. inr (in_place strings i [] l)))

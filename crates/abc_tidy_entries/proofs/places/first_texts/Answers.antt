use Rattle.std.proofs.Common.{◌≤◌, [], bytes_eq, length, refl, arith}
use Rattle.abc_base_graphs.specs.Texts.{texts_of}
use Rattle.abc_tidy_entries.proofs.Placing.{holds_after, placed_all}
use Rattle.abc_tidy_entries.proofs.places.first_texts.Goals as goal

pub returns : goal.returns
returns c =
    let all : length c.args.strings.now ≤ length c.args.strings.now = omega arith in
    placed_all bytes_eq c.args.marks.now c.args.begin c.args.strings.now (texts_of c.in_ok-chosen.chosen) (texts_of c.in_ok-chosen.chosen) c.in_ok-places.places (length c.args.strings.now)
    (holds_after c.args.marks.now c.args.begin c.args.strings.now c.in_ok-chosen.chosen (length c.args.strings.now) [] c.in_ok-chosen.ensures.holds) refl c.in_ok-places.ensures all all

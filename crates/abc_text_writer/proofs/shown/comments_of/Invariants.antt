use Rattle.std.proofs.Common.{◌≡◌, ◌∷◌, [], map, take}
use Rattle.abc_text_lines.specs.Listing.{quoted_comment}
use Rattle.abc_text_writer.proofs.shown.comments_of.Given as goal

abbrev pub invariant-loop-string : goal.invariant-loop-string
invariant-loop-string l = l.rows ≡ map quoted_comment ([] ∷ take l.string-index l.strings)

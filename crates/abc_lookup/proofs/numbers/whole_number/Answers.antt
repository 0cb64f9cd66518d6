use Rattle.std.proofs.Common.{ap, List, ℕ, ◌∙◌}
use Rattle.std.specs.Str.{bytes_eq}
use Rattle.abc_base_graphs.specs.Index.{first}
use Rattle.abc_base_graphs.specs.Texts.{texts_of}
use Rattle.abc_lookup.proofs.WholeStrings.{whole_string}
use Rattle.abc_lookup.proofs.numbers.whole_number.Goals as goal

pub returns-then-is_whole_string : goal.returns-then-is_whole_string
returns-then-is_whole_string c = λ h.
    let pool = c.args.l.now.file.strings in
    let is = whole_string pool h c.args.text (c.is_whole_string.ensures c.if-is_whole_string.true) in
    ap (λ (t : List ℕ). first (bytes_eq t) (texts_of pool)) is ∙ c.string_number.ensures

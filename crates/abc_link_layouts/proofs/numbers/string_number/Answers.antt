use Rattle.std.proofs.Common.{◌∙◌, ℕ, List, Some, ap, get_or, sym}
use Rattle.abc_link_layouts.proofs.Grouping.{string_numbered}
use Rattle.abc_link_layouts.proofs.numbers.string_number.Goals as goal

pub returns : goal.returns
returns c =
    string_numbered c.args.texts.now c.args.abc.now.strings c.requires.texts c.args.string
    ∙ ap (λ n. Some n) (ap (λ (ns : List ℕ). get_or ns c.args.string 0) (sym c.requires.numbers) ∙ sym c.number_at.ensures)

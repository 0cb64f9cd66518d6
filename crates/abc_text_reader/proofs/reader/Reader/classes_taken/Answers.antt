use Rattle.std.proofs.Common.{ℕ, ◌-◌, sym, ap, ◌∙◌}
use Rattle.abc_text_reader.proofs.Fresh.{left_counted}
use Rattle.abc_text_reader.proofs.reader.Reader.classes_taken.Goals as goal

pub returns : goal.returns
returns c = ap (λ (n : ℕ). c.args.self.now.sizes.classes - n) (c.requires.classes ∙ sym (left_counted c.args.self.now 20))

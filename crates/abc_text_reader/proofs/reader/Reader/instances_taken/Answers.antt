use Rattle.std.proofs.Common.{ℕ, ◌-◌, sym, ap, ◌∙◌}
use Rattle.abc_text_reader.proofs.Fresh.{left_counted}
use Rattle.abc_text_reader.proofs.reader.Reader.instances_taken.Goals as goal

pub returns : goal.returns
returns c = ap (λ (n : ℕ). c.args.self.now.instances - n) (c.requires.instances ∙ sym (left_counted c.args.self.now 14))

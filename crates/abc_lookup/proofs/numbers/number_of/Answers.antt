use Rattle.std.proofs.Common.{ap, List, ℕ, ◌∙◌}
use Rattle.std.specs.Str.{bytes_eq}
use Rattle.abc_base_graphs.specs.Index.{first}
use Rattle.abc_base_graphs.specs.Texts.{texts_of}
use Rattle.abc_lookup.proofs.numbers.number_of.Goals as goal

pub returns-in-Some : goal.returns-in-Some
returns-in-Some c = ap (λ (t : List ℕ). first (bytes_eq t) (texts_of c.args.l.now.file.strings)) c.requires ∙ c.in-Some.ensures c.args.a.now

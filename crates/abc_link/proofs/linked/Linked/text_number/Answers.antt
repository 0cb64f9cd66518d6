use Rattle.std.proofs.Common.{◌∙◌, ap}
use Rattle.std.specs.Str.{bytes_eq}
use Rattle.abc_base_graphs.specs.Index.{first}
use Rattle.abc_base_graphs.specs.Texts.{texts_of}
use Rattle.abc_link_names.specs.Linked.{LinkedFile}
use Rattle.abc_link.proofs.linked.Linked.text_number.Goals as goal

pub returns : goal.returns
returns c = c.number_of.ensures ∙ c.self.invariant.names_are.texts.has c.args.text.now ∙ ap (λ (l : LinkedFile). first (bytes_eq c.args.text.now) (texts_of l.file.strings)) c.self.view_is

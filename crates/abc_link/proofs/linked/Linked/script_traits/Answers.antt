use Rattle.std.proofs.Common.{◌∙◌, ap}
use Rattle.std.specs.Str.{bytes_eq}
use Rattle.abc_base_graphs.specs.Index.{first}
use Rattle.abc_base_graphs.specs.Texts.{texts_of}
use Rattle.abc_link_names.specs.Linked.{LinkedFile}
use Rattle.abc_link.specs.ScriptTraits.{script_traits}
use Rattle.abc_link.proofs.linked.Linked.script_traits.Goals as goal

pub returns : goal.returns
returns c = λ t e.
    c.numbered.ensures t (c.self.invariant.names_are.texts.has t ∙ ap (λ (l : LinkedFile). first (bytes_eq t) (texts_of l.file.strings)) c.self.view_is ∙ e) ∙ ap (λ (l : LinkedFile). script_traits l.file t) c.self.view_is

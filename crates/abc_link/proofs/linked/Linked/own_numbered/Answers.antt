use Rattle.std.proofs.Common.{◌∙◌, ap}
use Rattle.std.specs.Str.{bytes_eq}
use Rattle.abc_base_graphs.specs.Index.{first}
use Rattle.abc_base_graphs.specs.Texts.{texts_of}
use Rattle.abc_link_names.specs.Linked.{LinkedFile}
use Rattle.abc_link_names.specs.Traits.{own_traits}
use Rattle.abc_link.proofs.linked.Linked.own_numbered.Goals as goal

pub returns : goal.returns
returns c = λ t e.
    c.own_numbered.ensures t (c.self.invariant.names_are.texts.has t ∙ ap (λ (l : LinkedFile). first (bytes_eq t) (texts_of l.file.strings)) c.self.view_is ∙ e) ∙ ap (λ (l : LinkedFile). own_traits l c.args.layout.0 t) c.self.view_is

use Rattle.std.proofs.Common.{◌≡◌, [], Some, get_or, subst}
use Rattle.std.specs.Str.{bytes_eq}
use Rattle.abc_base_graphs.specs.Index.{first}
use Rattle.abc_base_graphs.specs.Texts.{texts_of}
use Rattle.abc_link_names.specs.Linked.{LinkedFile}
use Rattle.abc_link.proofs.linked.Linked.string_number.Goals as goal

pub returns : goal.returns
returns c =
    subst (λ (l : LinkedFile). first (bytes_eq (get_or (texts_of l.file.strings) c.args.string [])) (texts_of l.file.strings) ≡ Some c.string_number.result) c.self.view_is c.string_number.ensures

use Rattle.std.proofs.Common.{◌∙◌, List, ap}
use Rattle.std.specs.List.{find}
use Rattle.abc_meaning.specs.Exports.{is_export, method_of_trait}
use Rattle.abc_file_types.specs.declared.traits.TraitInfo.{TraitInfo}
use Rattle.abc_session.proofs.exports.export.Goals as goal

pub returns : goal.returns
returns c = λ formulas. c.export_among.ensures ∙ ap (λ (ts : List TraitInfo). method_of_trait (find (is_export c.args.linked.now.file c.args.text.now) ts)) (c.last_traits.ensures formulas)

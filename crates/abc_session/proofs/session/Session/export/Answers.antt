use Rattle.std.proofs.Common.{◌∙◌, ap}
use Rattle.abc_meaning.specs.Exports.{export as export_of}
use Rattle.abc_machine.specs.Machines.{Opened}
use Rattle.abc_meaning.specs.Openings.{setting}
use Rattle.abc_link_names.specs.Linked.{LinkedFile}
use Rattle.abc_session.proofs.Found.{exported}
use Rattle.abc_session.proofs.session.Session.export.Goals as goal

pub returns-clause-export : goal.returns-clause-export
returns-clause-export c = λ formulas. c.export.ensures formulas ∙ ap (λ (l : LinkedFile). export_of (setting l formulas) c.args.name.now) (c.linked.ensures ∙ ap (λ (m : Opened). m.linked) c.self.view_is)

pub returns-clause-method : goal.returns-clause-method
returns-clause-method c =
    λ formulas. exported (setting c.args.self.now.linked formulas) c.args.name.now c.export.result (c.export.ensures formulas ∙ ap (λ (l : LinkedFile). export_of (setting l formulas) c.args.name.now) (c.linked.ensures ∙ ap (λ (m : Opened). m.linked) c.self.view_is))

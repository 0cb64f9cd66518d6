use Rattle.std.proofs.Common.{◌∙◌, ap}
use Rattle.abc_objects.specs.declared.found.Found.{Found}
use Rattle.abc_run_state.specs.Outer.{setting_in, world}
use Rattle.abc_meaning.specs.Members.{delete_found}
use Rattle.abc_run_names.proofs.deleting.delete_found.Goals as goal

pub returns-in-Property-clause-part : goal.returns-in-Property-clause-part
returns-in-Property-clause-part c = λ out. ap (λ (f : Found). delete_found (setting_in c.args.linked.now out) c.args.o c.args.text f (world c.args.s.now out)) c.in-Property.is ∙ c.delete_own.ensures.part out

pub returns-in-Element-clause-part : goal.returns-in-Element-clause-part
returns-in-Element-clause-part c = λ out. ap (λ (f : Found). delete_found (setting_in c.args.linked.now out) c.args.o c.args.text f (world c.args.s.now out)) c.in-Element.is ∙ c.delete_element.ensures.part out

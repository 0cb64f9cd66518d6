use Rattle.abc_run_state.specs.Outer.{setting_in}
use Rattle.abc_run_names.proofs.Forms.{whole_form, whole_text}
use Rattle.abc_run_names.proofs.runtime_names.whole_name.Goals as goal

pub returns-in-Some-clause-form : goal.returns-in-Some-clause-form
returns-in-Some-clause-form g c = whole_form c.whole_of.result c.in-Some.form _ c.whole_of.ensures (c.in-Some.ensures g.out)

pub returns-in-Some-clause-text : goal.returns-in-Some-clause-text
returns-in-Some-clause-text g c = λ h. whole_text (setting_in c.args.linked.now g.out) h c.args.name c.whole_of.result (whole_form c.whole_of.result c.in-Some.form _ c.whole_of.ensures (c.in-Some.ensures g.out))

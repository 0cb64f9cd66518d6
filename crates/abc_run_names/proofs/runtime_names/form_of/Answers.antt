use Rattle.abc_run_state.specs.Outer.{setting_in}
use Rattle.abc_run_names.proofs.Forms.{multi_is, multil_is, qname_is, rt_is, rtl_is}
use Rattle.abc_run_names.proofs.runtime_names.form_of.Goals as goal

pub returns-in-QName : goal.returns-in-QName
returns-in-QName c = λ out. qname_is (setting_in c.args.linked.now out) c.args.name.now c.in-QName.attr c.in-QName.ns c.in-QName.name c.spaces_of-spaces.result c.string_at-text.result c.unless_attribute.result c.in-QName.is c.spaces_of-spaces.ensures c.string_at-text.ensures c.unless_attribute.ensures

pub returns-in-Multi : goal.returns-in-Multi
returns-in-Multi c = λ out. multi_is (setting_in c.args.linked.now out) c.args.name.now c.in-Multi.attr c.in-Multi.name c.in-Multi.set c.string_at-text-in-Multi.result c.unless_attribute-in-Multi.result c.in-Multi.is c.string_at-text-in-Multi.ensures c.unless_attribute-in-Multi.ensures

pub returns-in-Rt : goal.returns-in-Rt
returns-in-Rt c = λ out. rt_is (setting_in c.args.linked.now out) c.args.name.now c.in-Rt.attr c.in-Rt.name c.string_at-text-in-Rt.result c.unless_attribute-in-Rt.result c.in-Rt.is c.string_at-text-in-Rt.ensures c.unless_attribute-in-Rt.ensures

pub returns-in-MultiL : goal.returns-in-MultiL
returns-in-MultiL c = λ out. multil_is (setting_in c.args.linked.now out) c.args.name.now c.in-MultiL.attr c.in-MultiL.set c.unless_attribute-in-MultiL.result c.in-MultiL.is c.unless_attribute-in-MultiL.ensures

pub returns-in-RtL : goal.returns-in-RtL
returns-in-RtL c = λ out. rtl_is (setting_in c.args.linked.now out) c.args.name.now c.in-RtL.attr c.unless_attribute-in-RtL.result c.in-RtL.is c.unless_attribute-in-RtL.ensures

use Rattle.abc_run_names.proofs.Counted.{multi_late_takes, multi_takes, qname_takes, rt_late_takes, rt_takes}
use Rattle.abc_run_names.proofs.runtime_names.parts_in.Goals as goal

pub returns-in-QName : goal.returns-in-QName
returns-in-QName c = λ p. qname_takes p c.args.name.now c.in-QName.attr c.in-QName.ns c.in-QName.name c.in-QName.is

pub returns-in-Multi : goal.returns-in-Multi
returns-in-Multi c = λ p. multi_takes p c.args.name.now c.in-Multi.attr c.in-Multi.name c.in-Multi.set c.in-Multi.is

pub returns-in-Rt : goal.returns-in-Rt
returns-in-Rt c = λ p. rt_takes p c.args.name.now c.in-Rt.attr c.in-Rt.name c.parts_unless.result c.in-Rt.is c.parts_unless.ensures

pub returns-in-MultiL : goal.returns-in-MultiL
returns-in-MultiL c = λ p. multi_late_takes p c.args.name.now c.in-MultiL.attr c.in-MultiL.set c.parts_unless-in-MultiL.result c.in-MultiL.is c.parts_unless-in-MultiL.ensures

pub returns-in-RtL : goal.returns-in-RtL
returns-in-RtL c = λ p. rt_late_takes p c.args.name.now c.in-RtL.attr c.parts_unless-in-RtL.result c.in-RtL.is c.parts_unless-in-RtL.ensures

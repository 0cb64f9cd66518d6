use Rattle.std.proofs.Common.{◌∙◌, ap}
use Rattle.std.specs.Prelude.{is_some}
use Rattle.std.specs.declared.option.Option.{Option}
use Rattle.abc_heap_values.specs.declared.values.Value.{Value}
use Rattle.abc_run_state.specs.Outer.{setting_in, world}
use Rattle.abc_run_members.proofs.Written.{dynamic_takes, own_takes}
use Rattle.abc_run_members.proofs.writing.may_take.Goals as goal

pub returns-then-is_dynamic : goal.returns-then-is_dynamic
returns-then-is_dynamic c = λ out. dynamic_takes (setting_in c.args.linked.now out) c.args.o c.args.text (world c.args.s.now out) c.is_dynamic.result c.requires.inside (c.is_dynamic.ensures out) c.if-is_dynamic.true

pub returns : goal.returns
returns c = λ out. own_takes (setting_in c.args.linked.now out) c.args.o c.args.text (world c.args.s.now out) c.is_dynamic.result _ c.requires.inside (c.is_dynamic.ensures out) c.if-is_dynamic.false (c.is_some.ensures ∙ ap (λ (r : Option Value). is_some r) c.property.ensures)

use Rattle.std.proofs.Common.{sym, ◌∙◌}
use Rattle.abc_text_operands.proofs.Sloted.{slot_empty, slot_known, slot_unknown}
use Rattle.abc_text_operands.proofs.slots.slot_value.Goals as goal

pub returns-in_default : goal.returns-in_default
returns-in_default c labels = sym (slot_empty c.args.sizes.now labels c.args.fields.now c.in_default.ensures)

pub returns-in-Ok : goal.returns-in-Ok
returns-in-Ok c labels = c.known.ensures labels ∙ sym (slot_known c.args.sizes.now labels c.args.fields.now c.in-Some.index c.in-Some.kinds.now c.in-Ok.value c.in-Some.ensures c.in-Ok.ensures)

pub returns-in-Err : goal.returns-in-Err
returns-in-Err c labels = sym (slot_unknown c.args.sizes.now labels c.args.fields.now c.in-Some.index c.in-Some.kinds.now c.in-Err.reason c.unknown.result c.in-Some.ensures c.in-Err.ensures (c.unknown.ensures labels))

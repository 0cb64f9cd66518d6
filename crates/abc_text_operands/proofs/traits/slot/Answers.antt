use Rattle.std.proofs.Common.{Ok, Err, sym}
use Rattle.abc_text_operands.proofs.Traitlemmas.{slot_good, slot_none, slot_one}
use Rattle.abc_text_operands.proofs.traits.slot.Goals as goal

pub returns-in_default : goal.returns-in_default
returns-in_default c labels = sym (slot_none c.args.sizes.now c.args.constant labels c.args.fields.now c.in_default.ensures)

pub returns-in_default-first_and_rest : goal.returns-in_default-first_and_rest
returns-in_default-first_and_rest c labels = sym (slot_one c.args.sizes.now c.args.constant labels c.args.fields.now c.in-Some.id c.in-Some.others.now c.in-Some.ensures c.in_default-first_and_rest.ensures)

pub returns-in-Ok : goal.returns-in-Ok
returns-in-Ok c labels =
    sym (slot_good c.args.sizes.now c.args.constant labels c.args.fields.now c.in-Some.id c.in-Some.others.now c.in-Some-first_and_rest.ty c.in-Some-first_and_rest.others.now c.u30-id.result c.index_upto-ty.result c.slot_value.result c.two-last.result (Ok (c.in-Ok.id, (c.in-Ok.ty, c.in-Ok.value))) c.in-Some.ensures c.in-Some-first_and_rest.ensures c.u30-id.ensures c.index_upto-ty.ensures (c.slot_value.ensures labels) c.two-last.ensures c.in-Ok.ensures)

pub returns-in-Err : goal.returns-in-Err
returns-in-Err c labels =
    sym (slot_good c.args.sizes.now c.args.constant labels c.args.fields.now c.in-Some.id c.in-Some.others.now c.in-Some-first_and_rest.ty c.in-Some-first_and_rest.others.now c.u30-id.result c.index_upto-ty.result c.slot_value.result c.two-last.result (Err c.in-Err.reason) c.in-Some.ensures c.in-Some-first_and_rest.ensures c.u30-id.ensures c.index_upto-ty.ensures (c.slot_value.ensures labels) c.two-last.ensures c.in-Err.ensures)

use Rattle.std.proofs.Common.{Ok, Err, sym}
use Rattle.abc_text_operands.proofs.Traitlemmas.{named_empty, named_good, named_one}
use Rattle.abc_text_operands.proofs.traits.named.Goals as goal

pub returns-in_default : goal.returns-in_default
returns-in_default c labels = sym (named_empty c.args.sizes.now c.args.kind labels c.args.fields.now c.in_default.ensures)

pub returns-in_default-first_and_rest : goal.returns-in_default-first_and_rest
returns-in_default-first_and_rest c labels = sym (named_one c.args.sizes.now c.args.kind labels c.args.fields.now c.in-Some.attrs c.in-Some.others.now c.in-Some.ensures c.in_default-first_and_rest.ensures)

pub returns-in-Ok : goal.returns-in-Ok
returns-in-Ok c labels =
    sym (named_good c.args.sizes.now c.args.kind labels c.args.fields.now c.in-Some.attrs c.in-Some.others.now c.in-Some-first_and_rest.name c.in-Some-first_and_rest.others.now c.small-attrs.result c.entry_upto.result c.body.result c.two-last.result (Ok (c.in-Ok.attrs, (c.in-Ok.name, c.in-Ok.body))) c.in-Some.ensures c.in-Some-first_and_rest.ensures c.small-attrs.ensures c.entry_upto.ensures (c.body.ensures labels) c.two-last.ensures c.in-Ok.ensures)

pub returns-in-Err : goal.returns-in-Err
returns-in-Err c labels =
    sym (named_good c.args.sizes.now c.args.kind labels c.args.fields.now c.in-Some.attrs c.in-Some.others.now c.in-Some-first_and_rest.name c.in-Some-first_and_rest.others.now c.small-attrs.result c.entry_upto.result c.body.result c.two-last.result (Err c.in-Err.reason) c.in-Some.ensures c.in-Some-first_and_rest.ensures c.small-attrs.ensures c.entry_upto.ensures (c.body.ensures labels) c.two-last.ensures c.in-Err.ensures)

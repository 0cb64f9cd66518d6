-- An optional value of a known kind, and of none.
use Rattle.std.proofs.Common.{Ok, Err, sym, ap, ◌∙◌}
use Rattle.abc_text_operands.proofs.More.{option_bad, option_known, option_unknown, refused_as}
use Rattle.abc_text_operands.proofs.pools.option_line.Goals as goal

pub returns-in_default : goal.returns-in_default
returns-in_default c labels = option_bad c.args.sizes.now c.args.tokens.now labels c.in_default.ensures

pub returns-in-Ok-value_index : goal.returns-in-Ok-value_index
returns-in-Ok-value_index c labels =
    sym (option_known c.args.sizes.now c.args.tokens.now c.in-Some.kind c.in-Some.value labels c.in-Ok.kind (Ok c.in-Ok-value_index.value) c.in-Some.ensures c.in-Ok.ensures c.in-Ok-value_index.ensures)

pub returns-in-Err-value_index : goal.returns-in-Err-value_index
returns-in-Err-value_index c labels =
    sym (option_known c.args.sizes.now c.args.tokens.now c.in-Some.kind c.in-Some.value labels c.in-Ok.kind (Err c.in-Err-value_index.reason) c.in-Some.ensures c.in-Ok.ensures c.in-Err-value_index.ensures)

pub returns-in-Err : goal.returns-in-Err
returns-in-Err c labels =
    ap refused_as c.earlier.ensures ∙ sym (option_unknown c.args.sizes.now c.args.tokens.now c.in-Some.kind c.in-Some.value labels c.in-Err.reason c.u30.result c.in-Some.ensures c.in-Err.ensures c.u30.ensures)

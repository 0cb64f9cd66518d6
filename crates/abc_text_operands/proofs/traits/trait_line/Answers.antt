-- By the kind.
use Rattle.std.proofs.Common.{Ok, Err, sym, ap, ◌∙◌}
use Rattle.std.specs.declared.result.Result.{Result}
use Rattle.abc_text_operands.proofs.Traitlemmas.{trait_empty, trait_known, trait_unknown}
use Rattle.abc_text_operands.proofs.traits.trait_line.Goals as goal

pub returns-in_default : goal.returns-in_default
returns-in_default c labels = sym (trait_empty c.args.sizes.now labels c.args.tokens.now c.in_default.ensures)

pub returns-in-Ok : goal.returns-in-Ok
returns-in-Ok c labels = c.named.ensures labels ∙ sym (trait_known c.args.sizes.now labels c.args.tokens.now c.in-Some.kind c.in-Some.fields.now c.in-Ok.kind c.in-Some.ensures c.in-Ok.ensures)

pub returns-in-Err : goal.returns-in-Err
returns-in-Err c labels = sym (trait_unknown c.args.sizes.now labels c.args.tokens.now c.in-Some.kind c.in-Some.fields.now c.in-Err.reason c.in-Some.ensures c.in-Err.ensures)

use Rattle.std.proofs.Common.{Ok, Err, sym}
use Rattle.abc_text_lines.specs.Operands.{any_number, entry_upto, index_upto, number_below}
use Rattle.abc_text_lines.specs.Lineforms as forms
use Rattle.abc_text_operands.proofs.Joining.{three_bad, three_good}
use Rattle.abc_text_operands.proofs.lines.instance_line.Goals as goal

pub returns-in_default : goal.returns-in_default
unfolding forms.instance_line any_number
returns-in_default c labels = sym (three_bad (λ x. record { name = x.0; super_name = x.1.0; flags = x.1.1.0 }) (λ i. (i.name, (i.super_name, (i.flags, tt)))) (entry_upto c.args.sizes.now.names) (index_upto c.args.sizes.now.names) (number_below 256) c.args.tokens.now labels c.in_default.ensures)

pub returns-in-Ok : goal.returns-in-Ok
unfolding forms.instance_line any_number
returns-in-Ok c labels =
    sym (three_good (λ x. record { name = x.0; super_name = x.1.0; flags = x.1.1.0 }) (λ i. (i.name, (i.super_name, (i.flags, tt)))) (entry_upto c.args.sizes.now.names) (index_upto c.args.sizes.now.names) (number_below 256) c.args.tokens.now c.in-Some.name c.in-Some.super_name c.in-Some.flags labels c.entry_upto-name.result c.index_upto-super_name.result c.byte.result c.two.result (Ok (c.in-Ok.name, (c.in-Ok.super_name, c.in-Ok.flags))) c.in-Some.ensures c.entry_upto-name.ensures c.index_upto-super_name.ensures c.byte.ensures c.two.ensures c.in-Ok.ensures)

pub returns-in-Err : goal.returns-in-Err
unfolding forms.instance_line any_number
returns-in-Err c labels =
    sym (three_good (λ x. record { name = x.0; super_name = x.1.0; flags = x.1.1.0 }) (λ i. (i.name, (i.super_name, (i.flags, tt)))) (entry_upto c.args.sizes.now.names) (index_upto c.args.sizes.now.names) (number_below 256) c.args.tokens.now c.in-Some.name c.in-Some.super_name c.in-Some.flags labels c.entry_upto-name.result c.index_upto-super_name.result c.byte.result c.two.result (Err c.in-Err.reason) c.in-Some.ensures c.entry_upto-name.ensures c.index_upto-super_name.ensures c.byte.ensures c.two.ensures c.in-Err.ensures)

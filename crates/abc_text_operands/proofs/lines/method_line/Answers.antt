use Rattle.std.proofs.Common.{Ok, Err, sym}
use Rattle.abc_text_lines.specs.Operands.{any_number, index_upto, number_below}
use Rattle.abc_text_lines.specs.Lineforms as forms
use Rattle.abc_text_operands.proofs.Joining.{three_bad, three_good}
use Rattle.abc_text_operands.proofs.lines.method_line.Goals as goal

pub returns-in_default : goal.returns-in_default
unfolding forms.method_line any_number
returns-in_default c labels = sym (three_bad (λ x. record { ret = x.0; name = x.1.0; flags = x.1.1.0 }) (λ m. (m.ret, (m.name, (m.flags, tt)))) (index_upto c.args.sizes.now.names) (index_upto c.args.sizes.now.strings) (number_below 256) c.args.tokens.now labels c.in_default.ensures)

pub returns-in-Ok : goal.returns-in-Ok
unfolding forms.method_line any_number
returns-in-Ok c labels =
    sym (three_good (λ x. record { ret = x.0; name = x.1.0; flags = x.1.1.0 }) (λ m. (m.ret, (m.name, (m.flags, tt)))) (index_upto c.args.sizes.now.names) (index_upto c.args.sizes.now.strings) (number_below 256) c.args.tokens.now c.in-Some.ret c.in-Some.name c.in-Some.flags labels c.index_upto-ret.result c.index_upto-name.result c.byte.result c.two.result (Ok (c.in-Ok.ret, (c.in-Ok.name, c.in-Ok.flags))) c.in-Some.ensures c.index_upto-ret.ensures c.index_upto-name.ensures c.byte.ensures c.two.ensures c.in-Ok.ensures)

pub returns-in-Err : goal.returns-in-Err
unfolding forms.method_line any_number
returns-in-Err c labels =
    sym (three_good (λ x. record { ret = x.0; name = x.1.0; flags = x.1.1.0 }) (λ m. (m.ret, (m.name, (m.flags, tt)))) (index_upto c.args.sizes.now.names) (index_upto c.args.sizes.now.strings) (number_below 256) c.args.tokens.now c.in-Some.ret c.in-Some.name c.in-Some.flags labels c.index_upto-ret.result c.index_upto-name.result c.byte.result c.two.result (Err c.in-Err.reason) c.in-Some.ensures c.index_upto-ret.ensures c.index_upto-name.ensures c.byte.ensures c.two.ensures c.in-Err.ensures)

-- Five operands.
use Rattle.std.proofs.Common.{Ok, Err, sym}
use Rattle.abc_text_lines.specs.Operands.{any_number, index_upto, target}
use Rattle.abc_text_lines.specs.Lineforms as forms
use Rattle.abc_text_operands.proofs.More.{five_bad, five_good}
use Rattle.abc_text_operands.proofs.handlers.catch_line.Goals as goal

pub returns-in_default : goal.returns-in_default
unfolding forms.catch_line any_number
returns-in_default c labels places = sym (five_bad (λ x. record { from = x.0; to = x.1.0; target = x.1.1.0; exc_type = x.1.1.1.0; var_name = x.1.1.1.1.0 }) (λ h. (h.from, (h.to, (h.target, (h.exc_type, (h.var_name, tt)))))) target target target (index_upto c.args.sizes.now.names) (index_upto c.args.sizes.now.names) c.args.tokens.now labels c.in_default.ensures)

pub returns-in-Ok : goal.returns-in-Ok
unfolding forms.catch_line any_number
returns-in-Ok c labels places =
    sym (five_good (λ x. record { from = x.0; to = x.1.0; target = x.1.1.0; exc_type = x.1.1.1.0; var_name = x.1.1.1.1.0 }) (λ h. (h.from, (h.to, (h.target, (h.exc_type, (h.var_name, tt)))))) target target target (index_upto c.args.sizes.now.names) (index_upto c.args.sizes.now.names) c.args.tokens.now c.in-Some.from c.in-Some.to c.in-Some.leads c.in-Some.exc_type c.in-Some.var_name labels c.target-from.result c.target-to.result c.target-leads.result c.index_upto-exc_type.result c.index_upto.result c.two-names.result c.two-last.result c.two-ends.result (Ok (c.in-Ok.from, (c.in-Ok.to, (c.in-Ok.target, (c.in-Ok.exc_type, c.in-Ok.var_name))))) c.in-Some.ensures (c.target-from.ensures labels places) (c.target-to.ensures labels places) (c.target-leads.ensures labels places) c.index_upto-exc_type.ensures c.index_upto.ensures c.two-names.ensures c.two-last.ensures c.two-ends.ensures c.in-Ok.ensures)

pub returns-in-Err : goal.returns-in-Err
unfolding forms.catch_line any_number
returns-in-Err c labels places =
    sym (five_good (λ x. record { from = x.0; to = x.1.0; target = x.1.1.0; exc_type = x.1.1.1.0; var_name = x.1.1.1.1.0 }) (λ h. (h.from, (h.to, (h.target, (h.exc_type, (h.var_name, tt)))))) target target target (index_upto c.args.sizes.now.names) (index_upto c.args.sizes.now.names) c.args.tokens.now c.in-Some.from c.in-Some.to c.in-Some.leads c.in-Some.exc_type c.in-Some.var_name labels c.target-from.result c.target-to.result c.target-leads.result c.index_upto-exc_type.result c.index_upto.result c.two-names.result c.two-last.result c.two-ends.result (Err c.in-Err.reason) c.in-Some.ensures (c.target-from.ensures labels places) (c.target-to.ensures labels places) (c.target-leads.ensures labels places) c.index_upto-exc_type.ensures c.index_upto.ensures c.two-names.ensures c.two-last.ensures c.two-ends.ensures c.in-Err.ensures)

-- Five operands.
use Rattle.std.proofs.Common.{Ok, Err, sym}
use Rattle.abc_text_lines.specs.Operands.{any_number, index_operand_below, u30_operand}
use Rattle.abc_text_lines.specs.Lineforms as forms
use Rattle.abc_text_operands.proofs.More.{five_bad, five_good}
use Rattle.abc_text_operands.proofs.lines.body_line.Goals as goal

pub returns-in_default : goal.returns-in_default
unfolding forms.body_line any_number
returns-in_default c labels = sym (five_bad (λ x. record { method = x.0; max_stack = x.1.0; local_count = x.1.1.0; init_scope = x.1.1.1.0; max_scope = x.1.1.1.1.0 }) (λ b. (b.method, (b.max_stack, (b.local_count, (b.init_scope, (b.max_scope, tt)))))) (index_operand_below c.args.sizes.now.methods) u30_operand u30_operand u30_operand u30_operand c.args.tokens.now labels c.in_default.ensures)

pub returns-in-Ok : goal.returns-in-Ok
unfolding forms.body_line any_number
returns-in-Ok c labels =
    sym (five_good (λ x. record { method = x.0; max_stack = x.1.0; local_count = x.1.1.0; init_scope = x.1.1.1.0; max_scope = x.1.1.1.1.0 }) (λ b. (b.method, (b.max_stack, (b.local_count, (b.init_scope, (b.max_scope, tt)))))) (index_operand_below c.args.sizes.now.methods) u30_operand u30_operand u30_operand u30_operand c.args.tokens.now c.in-Some.method c.in-Some.stack c.in-Some.locals c.in-Some.from c.in-Some.most labels c.index_below-method.result c.u30-stack.result c.u30-locals.result c.u30-from.result c.u30.result c.two-scopes.result c.two-last.result c.two-sizes.result (Ok (c.in-Ok.method, (c.in-Ok.max_stack, (c.in-Ok.local_count, (c.in-Ok.init_scope, c.in-Ok.max_scope))))) c.in-Some.ensures c.index_below-method.ensures c.u30-stack.ensures c.u30-locals.ensures c.u30-from.ensures c.u30.ensures c.two-scopes.ensures c.two-last.ensures c.two-sizes.ensures c.in-Ok.ensures)

pub returns-in-Err : goal.returns-in-Err
unfolding forms.body_line any_number
returns-in-Err c labels =
    sym (five_good (λ x. record { method = x.0; max_stack = x.1.0; local_count = x.1.1.0; init_scope = x.1.1.1.0; max_scope = x.1.1.1.1.0 }) (λ b. (b.method, (b.max_stack, (b.local_count, (b.init_scope, (b.max_scope, tt)))))) (index_operand_below c.args.sizes.now.methods) u30_operand u30_operand u30_operand u30_operand c.args.tokens.now c.in-Some.method c.in-Some.stack c.in-Some.locals c.in-Some.from c.in-Some.most labels c.index_below-method.result c.u30-stack.result c.u30-locals.result c.u30-from.result c.u30.result c.two-scopes.result c.two-last.result c.two-sizes.result (Err c.in-Err.reason) c.in-Some.ensures c.index_below-method.ensures c.u30-stack.ensures c.u30-locals.ensures c.u30-from.ensures c.u30.ensures c.two-scopes.ensures c.two-last.ensures c.two-sizes.ensures c.in-Err.ensures)

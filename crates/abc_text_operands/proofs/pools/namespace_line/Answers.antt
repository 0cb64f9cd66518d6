use Rattle.std.proofs.Common.{Ok, Err, sym}
use Rattle.abc_text_lines.specs.Operands.{any_number, index_upto}
use Rattle.abc_text_lines.specs.Kinds.{space_kind}
use Rattle.abc_text_lines.specs.Lineforms as forms
use Rattle.abc_text_operands.proofs.Joining.{two_bad, two_good}
use Rattle.abc_text_operands.proofs.pools.namespace_line.Goals as goal

pub returns-in_default : goal.returns-in_default
unfolding forms.namespace_line
returns-in_default c labels = sym (two_bad (λ x. record { kind = x.0; name = x.1.0 }) (λ n. (n.kind, (n.name, tt))) space_kind (index_upto c.args.sizes.now.strings) c.args.tokens.now labels c.in_default.ensures)

pub returns-in-Ok : goal.returns-in-Ok
unfolding forms.namespace_line any_number space_kind
returns-in-Ok c labels =
    sym (two_good (λ x. record { kind = x.0; name = x.1.0 }) (λ n. (n.kind, (n.name, tt))) space_kind (index_upto c.args.sizes.now.strings) c.args.tokens.now c.in-Some.kind c.in-Some.name labels c.space_kind.result c.index_upto.result (Ok (c.in-Ok.kind, c.in-Ok.name)) c.in-Some.ensures c.space_kind.ensures c.index_upto.ensures c.in-Ok.ensures)

pub returns-in-Err : goal.returns-in-Err
unfolding forms.namespace_line any_number space_kind
returns-in-Err c labels =
    sym (two_good (λ x. record { kind = x.0; name = x.1.0 }) (λ n. (n.kind, (n.name, tt))) space_kind (index_upto c.args.sizes.now.strings) c.args.tokens.now c.in-Some.kind c.in-Some.name labels c.space_kind.result c.index_upto.result (Err c.in-Err.reason) c.in-Some.ensures c.space_kind.ensures c.index_upto.ensures c.in-Err.ensures)

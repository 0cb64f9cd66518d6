use Rattle.std.proofs.Common.{Ok, Err, sym}
use Rattle.abc_text_lines.specs.Operands.{any_number, entry_upto, index_upto}
use Rattle.abc_file_types.specs.declared.names.Multiname.TheVariants as names
use Rattle.abc_text_lines.specs.Lineforms.{two_of}
use Rattle.abc_text_operands.proofs.Joining.{two_bad, two_good}
use Rattle.abc_text_operands.proofs.multinames.qualified.Goals as goal

pub returns-in_default : goal.returns-in_default
returns-in_default c labels = sym (two_bad (λ x. names.QName c.args.attr x.0 x.1.0) (λ m. ((two_of m).0, ((two_of m).1, tt))) (index_upto c.args.sizes.now.namespaces) (index_upto c.args.sizes.now.strings) c.args.fields.now labels c.in_default.ensures)

pub returns-in-Ok : goal.returns-in-Ok
unfolding any_number
returns-in-Ok c labels =
    sym (two_good (λ x. names.QName c.args.attr x.0 x.1.0) (λ m. ((two_of m).0, ((two_of m).1, tt))) (index_upto c.args.sizes.now.namespaces) (index_upto c.args.sizes.now.strings) c.args.fields.now c.in-Some.ns c.in-Some.name labels c.index_upto.result c.index_upto-2.result (Ok (c.in-Ok.ns, c.in-Ok.name)) c.in-Some.ensures c.index_upto.ensures c.index_upto-2.ensures c.in-Ok.ensures)

pub returns-in-Err : goal.returns-in-Err
unfolding any_number
returns-in-Err c labels =
    sym (two_good (λ x. names.QName c.args.attr x.0 x.1.0) (λ m. ((two_of m).0, ((two_of m).1, tt))) (index_upto c.args.sizes.now.namespaces) (index_upto c.args.sizes.now.strings) c.args.fields.now c.in-Some.ns c.in-Some.name labels c.index_upto.result c.index_upto-2.result (Err c.in-Err.reason) c.in-Some.ensures c.index_upto.ensures c.index_upto-2.ensures c.in-Err.ensures)

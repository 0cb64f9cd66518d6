use Rattle.std.proofs.Common.{Ok, Err, sym}
use Rattle.abc_text_lines.specs.Operands.{any_number, entry_upto, index_upto}
use Rattle.abc_file_types.specs.declared.names.Multiname.TheVariants as names
use Rattle.abc_text_lines.specs.Lineforms.{two_of}
use Rattle.abc_text_operands.proofs.Joining.{two_bad, two_good}
use Rattle.abc_text_operands.proofs.multinames.in_set.Goals as goal

pub returns-in_default : goal.returns-in_default
returns-in_default c labels = sym (two_bad (λ x. names.Multi c.args.attr x.0 x.1.0) (λ m. ((two_of m).0, ((two_of m).1, tt))) (index_upto c.args.sizes.now.strings) (entry_upto c.args.sizes.now.sets) c.args.fields.now labels c.in_default.ensures)

pub returns-in-Ok : goal.returns-in-Ok
unfolding any_number
returns-in-Ok c labels =
    sym (two_good (λ x. names.Multi c.args.attr x.0 x.1.0) (λ m. ((two_of m).0, ((two_of m).1, tt))) (index_upto c.args.sizes.now.strings) (entry_upto c.args.sizes.now.sets) c.args.fields.now c.in-Some.name c.in-Some.set labels c.index_upto.result c.entry_upto.result (Ok (c.in-Ok.name, c.in-Ok.set)) c.in-Some.ensures c.index_upto.ensures c.entry_upto.ensures c.in-Ok.ensures)

pub returns-in-Err : goal.returns-in-Err
unfolding any_number
returns-in-Err c labels =
    sym (two_good (λ x. names.Multi c.args.attr x.0 x.1.0) (λ m. ((two_of m).0, ((two_of m).1, tt))) (index_upto c.args.sizes.now.strings) (entry_upto c.args.sizes.now.sets) c.args.fields.now c.in-Some.name c.in-Some.set labels c.index_upto.result c.entry_upto.result (Err c.in-Err.reason) c.in-Some.ensures c.index_upto.ensures c.entry_upto.ensures c.in-Err.ensures)

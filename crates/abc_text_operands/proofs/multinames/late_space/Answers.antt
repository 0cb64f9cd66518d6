use Rattle.std.proofs.Common.{Ok, Err, sym}
use Rattle.abc_text_lines.specs.Operands.{any_number, entry_upto, index_upto}
use Rattle.abc_file_types.specs.declared.names.Multiname.TheVariants as names
use Rattle.abc_text_lines.specs.Lineforms.{one_of}
use Rattle.abc_text_operands.proofs.Kinded.{single_bad, single_good}
use Rattle.abc_text_operands.proofs.multinames.late_space.Goals as goal

pub returns-in_default : goal.returns-in_default
returns-in_default c labels = sym (single_bad (λ x. names.Rt c.args.attr x.0) (λ m. (one_of m, tt)) (index_upto c.args.sizes.now.strings) c.args.fields.now labels c.in_default.ensures)

pub returns-in-Ok : goal.returns-in-Ok
unfolding any_number
returns-in-Ok c labels = sym (single_good (λ x. names.Rt c.args.attr x.0) (λ m. (one_of m, tt)) (index_upto c.args.sizes.now.strings) c.args.fields.now c.in-Some.name labels (Ok c.in-Ok.name) c.in-Some.ensures c.in-Ok.ensures)

pub returns-in-Err : goal.returns-in-Err
unfolding any_number
returns-in-Err c labels = sym (single_good (λ x. names.Rt c.args.attr x.0) (λ m. (one_of m, tt)) (index_upto c.args.sizes.now.strings) c.args.fields.now c.in-Some.name labels (Err c.in-Err.reason) c.in-Some.ensures c.in-Err.ensures)

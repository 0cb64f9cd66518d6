use Rattle.std.proofs.Common.{◌≡◌, ap, arith, get_or, None, ◌∙◌}
use Rattle.abc_file_types.specs.declared.opcodes.TheConstants.{OPCODES}
use Rattle.abc_file_types.specs.Rows.{info_in, name_in_row}
use Rattle.abc_file_types.proofs.Rows.{same_info, same_name}
use Rattle.abc_file_types.proofs.opcodes.row_at.Goals as goal

pub returns-clause-info : goal.returns-clause-info
returns-clause-info c = ap (λ rows. info_in (get_or rows c.args.op None)) c.requires ∙ same_info c.args.op (omega arith)

pub returns-clause-name : goal.returns-clause-name
returns-clause-name c = ap (λ rows. name_in_row (get_or rows c.args.op None)) c.requires ∙ same_name c.args.op (omega arith)

use Rattle.std.proofs.Common.{ℕ, List, Ok, Err, sym}
use Rattle.abc_file_types.specs.declared.tables.Eight.{Eight}
use Rattle.abc_text_lines.specs.Operands as operands
use Rattle.abc_text_lines.specs.Lineforms as forms
use Rattle.abc_text_operands.proofs.Kinded.{single_bad, single_good}
use Rattle.abc_text_operands.proofs.doubles.double_line.Goals as goal

abbrev as_eight : List ℕ × Unit {0} → Eight
as_eight x = record { 0 = x.0 }

abbrev of_eight : Eight → List ℕ × Unit {0}
of_eight d = (d.0, tt)

pub returns-in_default : goal.returns-in_default
unfolding forms.double_line
returns-in_default c labels = sym (single_bad as_eight of_eight operands.eight c.args.tokens.now labels c.in_default.ensures)

pub returns-in-Ok : goal.returns-in-Ok
unfolding forms.double_line operands.eight
returns-in-Ok c labels = sym (single_good as_eight of_eight operands.eight c.args.tokens.now c.in-Some.token labels (Ok c.in-Ok.bytes) c.in-Some.ensures c.in-Ok.ensures)

pub returns-in-Err : goal.returns-in-Err
unfolding forms.double_line operands.eight
returns-in-Err c labels = sym (single_good as_eight of_eight operands.eight c.args.tokens.now c.in-Some.token labels (Err c.in-Err.reason) c.in-Some.ensures c.in-Err.ensures)

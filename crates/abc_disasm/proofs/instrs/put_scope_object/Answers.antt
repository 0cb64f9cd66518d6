-- A line of a word and a number.
use Rattle.std.proofs.Common.{List, ℕ, sym, subst}
use Rattle.abc_varint.specs.Puts.{Puts}
use Rattle.abc_disasm.proofs.PutForms.{scope_text}
use Rattle.abc_disasm.proofs.instrs.put_scope_object.Goals as goal

pub returns : goal.returns
returns c = subst (λ (b : List ℕ). Puts c.args.out.now.items c.put_number_line.new.out.items c.put_number_line.result b) (sym (scope_text c.args._abc.now c.args.n)) c.put_number_line.ensures

-- A switch with a case.
use Rattle.std.proofs.Common.{List, ℕ, sym, subst}
use Rattle.abc_varint.specs.Puts.{Puts}
use Rattle.abc_disasm.proofs.PutForms.{switch_text}
use Rattle.abc_disasm.proofs.instrs.put_switch.Goals as goal

pub returns : goal.returns
returns c = subst (λ (b : List ℕ). Puts c.args.out.now.items c.put_target_line.new.out.items c.put_target_line.result b) (sym (switch_text c.args._abc.now c.args.default c.args.cases.now c.requires)) c.put_target_line.ensures

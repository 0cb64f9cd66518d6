use Rattle.std.proofs.Common.{ℕ, List, ◌≤◌, take, get_or, ap, subst, sym, ◌∙◌, arith}
use Rattle.abc_disasm.proofs.Begun.{count_is, head_is}
use Rattle.abc_disasm.proofs.heads.row_at.Goals as goal

pub returns-clause-bytes : goal.returns-clause-bytes
returns-clause-bytes c = ap (λ (l : List (List ℕ × ℕ)). let row = get_or l c.args.op _ in take row.1 row.0) c.requires ∙ head_is c.args.op _ (omega arith)

pub returns-clause-count : goal.returns-clause-count
returns-clause-count c = subst (λ (l : List (List ℕ × ℕ)). (get_or l c.args.op _).1 ≤ 16) (sym c.requires) (count_is c.args.op _ (omega arith))

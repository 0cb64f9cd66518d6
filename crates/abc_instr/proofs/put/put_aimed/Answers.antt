use Rattle.std.proofs.Common.{◌-◌, ◌<◌, ◌^◌, All, get_or, length, subst, sym, arith}
use Rattle.abc_file_types.proofs.Lengths.{below_all}
use Rattle.abc_instr.proofs.put.put_aimed.Goals as goal

pub put_switch-requires-clause-cases : goal.put_switch-requires-clause-cases
put_switch-requires-clause-cases c =
    let can = rw c.in-Switch.is at c.requires.can in
    subst (λ ts. All (λ t. (t < length c.args.starts.now) × (get_or c.args.starts.now t 0 < 2 ^ 23)) ts) (sym c.list.ensures)
    (below_all c.args.starts.now (length c.args.starts.now - 1) c.in-Switch.cases (omega (arith, c.requires.some)) c.requires.small can.1)

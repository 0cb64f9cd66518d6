use Rattle.std.proofs.Common.{ℕ, ◌+◌, List, get_or, ap, arith}
use Rattle.std.proofs.lemmas.List.{get_or_default, length-set}
use Rattle.abc_instr.proofs.Aiming.{aims_on}
use Rattle.abc_instr.proofs.resolve.resolve_all.Goals as goal

pub loop-aim-preserved : goal.loop-aim-preserved
loop-aim-preserved c =
    let ss = c.args.starts.now in
    let aims = c.args.aims.now in
    let k = c.loop-aim.aim-index in
    let lt = c.loop-aim-test.true in
    let a = get_or aims k 0 in
    let is = c.loop-aim.instrs in
    rw (c.set.ensures, c.replace-instr.ensures.list) (
      aims_on ss aims k a lt (get_or_default aims k 0 a lt) is _ c.loop-aim.invariant.0 c.replace-instr.result (omega (arith, c.requires.aims k 0 lt, c.loop-aim.invariant.1)) c.replace-instr.ensures.is _ _
          (ap (λ (l : List ℕ). get_or l a 0) c.as_slice-places.ensures) (ap (λ (l : List ℕ). get_or l (a + 1) 0) c.as_slice-places.ensures) c.in_ok-instr.instr c.in_ok-instr.ensures,
      simp length-set c.loop-aim.invariant.1,
    )

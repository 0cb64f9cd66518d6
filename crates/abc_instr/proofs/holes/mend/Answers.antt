use mir.Val.{of_z, to_z}
use Rattle.std.proofs.Common.{◌≡◌, ◌-ℤ◌, ◌<◌, ◌^◌, pos, get_or, rules}
use Rattle.std.specs.Int.{w32}
use Rattle.std.proofs.lemmas.Result.{err_from_is_err_and}
use Rattle.abc_instr.specs.Marks.{mark_at}
use Rattle.abc_instr.proofs.Mending.{mends_on, mends_wrong}
use Rattle.abc_instr.proofs.holes.mend.Goals as goal

pub loop-hole-preserved : goal.loop-hole-preserved
loop-hole-preserved c =
    let so_far = c.loop-hole.invariant in
    let start = c.in_ok-start.start in
    let moved = (get_or c.args.holes.now c.loop-hole.hole-index (record { place = 0; at = 0; base = 0; moved = 0; offset = pos 0 })).moved in
    let small : start < 2 ^ 23 = c.in_ok-start.ensures.bound in
    -- the difference of the two is one of ℤ
    let same : to_z w32 (of_z w32 (to_z w32 start -ℤ to_z w32 moved)) ≡ pos start -ℤ pos moved = search rules in
    rw (c.overwrite.ensures, same) (mends_on (mark_at c.args.marks.now) c.args.holes.now c.loop-hole.hole-index _ c.loop-hole-test.true c.loop-hole.code _ so_far c.in_ok-start.start c.in_ok-start.ensures.is)

pub returns-in_err-start : goal.returns-in_err-start
returns-in_err-start c =
    let p = err_from_is_err_and c.from_residual.result c.from_residual.ensures.1 in
    rw (p.1, p.2) (mends_wrong (mark_at c.args.marks.now) c.args.holes.now c.loop-hole.hole-index _ c.loop-hole-test.true c.loop-hole.code _ c.loop-hole.invariant c.in_err-start.field-0.0 c.in_err-start.ensures.is)

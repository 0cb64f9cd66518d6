use Rattle.std.proofs.Common.{◌≡◌, ◌<◌, ◌∙◌, false, true, get_or, length, add-one, arith}
use Rattle.abc_log.proofs.Noting.{passed}
use Rattle.abc_log.proofs.seen.started_since.Goals as goal
use Rattle.abc_log.proofs.seen.started_since.Goals.{else-not-before-script-via-then-not-before-script+else-now-script, else-not-before-script-via-else-not-before-script}

pub loop-script-preserved : goal.loop-script-preserved
loop-script-preserved c =
    let n = c.loop-script.script in
    let before = c.args.before.now in
    let now = c.args.now.now in
    let lt_before : n < length before = omega arith in
    let lt_now : n < length now = omega arith in
    let never : get_or before n false ≡ false → get_or now n false ≡ true → ⊥ = λ b y.
    elim c.else-not-before-script.branch [ else-not-before-script-via-then-not-before-script+else-now-script w ↦ cc | else-not-before-script-via-else-not-before-script w ↦ cc ] in
    rw add-one (c.loop-script.invariant ∙ passed n before now lt_before lt_now never)

use Rattle.std.proofs.Common.{◌≡◌, ◌≤◌, ◌∙◌, ℕ, List, Some, ap, subst}
use Rattle.std.specs.Prelude.{IfOk}
use Rattle.abc_log.specs.Followed.{start_and_since}
use Rattle.abc_meaning.specs.Logs.{log, steps}
use Rattle.abc_log.specs.Checks.{IsWritten}
use Rattle.abc_log.proofs.Judging.{same_name}
use Rattle.abc_meaning.specs.Openings.{setting}
use Rattle.abc_replay.proofs.Lent.{begins_so, compared_so, lent_later}
use Rattle.abc_replay.proofs.run.compare_lent.Goals as goal

pub returns-clause-compared : goal.returns-clause-compared
returns-clause-compared g c =
    let p = setting c.args.verified (g.H.Host.formulas c.args.host.now) in
    let lines : List ℕ = log p c.args.line.now.limits c.args.line.now.fuel in
    let count : ℕ = steps p c.args.line.now.limits c.args.line.now.fuel in
    let old = c.new-compare.result in
    let now = c.write_log-steps.new.log in
    let r = c.write_log-steps.result in
    let written = subst (λ (b : List ℕ). IfOk r (λ n. IsWritten lines count n (Some (start_and_since old.history.start b)) (Some (start_and_since now.history.start now.history.bytes)) old.compare.faults now.compare.faults)) c.new-compare.ensures.bytes c.write_log-steps.ensures.written in
    rw (c.into_inner.ensures, c.agreed-agreed.ensures, c.verdict-verdict.ensures)
    (compared_so lines old.history.start now.history.start now.history.bytes _ _ count _ _ _ _ now.compare.agreed now.compare.verdict old.compare.faults now.compare.faults r c.new-compare.ensures.start written now.quiet now.follows)

pub returns-clause-later : goal.returns-clause-later
returns-clause-later g c =
    let p = setting c.args.verified (g.H.Host.formulas c.args.host.now) in
    let lines : List ℕ = log p c.args.line.now.limits c.args.line.now.fuel in
    let count : ℕ = steps p c.args.line.now.limits c.args.line.now.fuel in
    let old = c.new-compare.result in
    let now = c.write_log-steps.new.log in
    let r = c.write_log-steps.result in
    let written = subst (λ (b : List ℕ). IfOk r (λ n. IsWritten lines count n (Some (start_and_since old.history.start b)) (Some (start_and_since now.history.start now.history.bytes)) old.compare.faults now.compare.faults)) c.new-compare.ensures.bytes c.write_log-steps.ensures.written in
    let same = begins_so lines old.history.start now.history.start now.history.bytes count old.compare.faults now.compare.faults r written (λ (e : now ≡ old). ap (λ l. l.history.start) e) c.write_log-steps.ensures.none in
    let low : g.S.Source.faults c.args.source.now ≤ g.S.Source.faults now.compare.source.now = lent_later old.history.start now.history.start now.history.bytes _ _ _ _ _ _ _ _ c.new-compare.ensures.start same now.follows in
    rw c.into_inner.ensures low

pub returns-clause-same : goal.returns-clause-same
returns-clause-same g c =
    let p = setting c.args.verified (g.H.Host.formulas c.args.host.now) in
    let lines : List ℕ = log p c.args.line.now.limits c.args.line.now.fuel in
    let count : ℕ = steps p c.args.line.now.limits c.args.line.now.fuel in
    let old = c.new-compare.result in
    let now = c.write_log-steps.new.log in
    let r = c.write_log-steps.result in
    let written = subst (λ (b : List ℕ). IfOk r (λ n. IsWritten lines count n (Some (start_and_since old.history.start b)) (Some (start_and_since now.history.start now.history.bytes)) old.compare.faults now.compare.faults)) c.new-compare.ensures.bytes c.write_log-steps.ensures.written in
    let same = begins_so lines old.history.start now.history.start now.history.bytes count old.compare.faults now.compare.faults r written (λ (e : now ≡ old). ap (λ l. l.history.start) e) c.write_log-steps.ensures.none in
    ap (λ s. s.ghost_name) c.into_inner.ensures ∙ same_name old.history.start now.history.start _ _ _ now.compare.source.ghost_name _ _ c.new-compare.ensures.start same now.named

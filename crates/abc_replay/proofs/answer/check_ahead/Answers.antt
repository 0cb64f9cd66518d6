use Rattle.std.proofs.Common.{◌≤◌, ℕ, subst, sym}
use Rattle.abc_base.specs.Faults.{Rose}
use Rattle.abc_log_blocks.specs.BlockSources.{source_of}
use Rattle.abc_replay.proofs.Judged.{answers_below}
use Rattle.abc_replay.proofs.answer.check_ahead.Goals as goal

pub returns-clause-answers : goal.returns-clause-answers
returns-clause-answers g c =
    let f = c.args.preface in
    answers_below (g.H.Host.formulas c.args.host.now) (g.S.Source.left c.args.source.now) _ _ (g.S.Source.left c.into_inner.result.now) f.verified f.line f.place c.check_log-answer.result
    c.new-ahead.ensures.left c.into_inner.ensures.ended c.check_log-answer.ensures.answers

pub returns-clause-later : goal.returns-clause-later
returns-clause-later g c =
    subst (λ s. g.S.Source.faults c.args.source.now ≤ g.S.Source.faults s) (sym c.into_inner.ensures.is)
    (subst (λ (n : ℕ). n ≤ g.S.Source.faults (source_of c.check_log-answer.new.source)) c.new-ahead.ensures.faults c.check_log-answer.ensures.later)

pub returns-clause-cause : goal.returns-clause-cause
returns-clause-cause g c = λ e.
    subst (λ s. Rose (g.S.Source.faults c.args.source.now) (g.S.Source.faults s)) (sym c.into_inner.ensures.is)
    (subst (λ (n : ℕ). Rose n (g.S.Source.faults (source_of c.check_log-answer.new.source))) c.new-ahead.ensures.faults (c.check_log-answer.ensures.cause e))

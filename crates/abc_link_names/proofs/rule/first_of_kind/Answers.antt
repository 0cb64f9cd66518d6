use Rattle.std.proofs.Common.{ℕ, below_more}
use Rattle.abc_link_names.specs.Firsts.{item}
use Rattle.abc_link_names.specs.Rules.{Breaks}
use Rattle.abc_link_names.proofs.rule.first_of_kind.Goals as goal

-- By hand, since the search tries each rule.
pub loop-index-preserved : goal.loop-index-preserved
loop-index-preserved g c =
    below_more (λ (i : ℕ). Breaks (g.R.Rule.file c.args.rule.now) (g.R.Rule.rule c.args.rule.now) (item c.args.kind i) → ⊥) c.loop-index.index c.loop-index.invariant
    (λ b. let broken = c.in_ok-is_broken.ensures.1 b in let kept = c.if-branch.false in cc)

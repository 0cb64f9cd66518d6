use Rattle.std.proofs.Common.{ℕ, ◌<◌}
use Rattle.abc_link_names.specs.Rules.{Breaks}
use Rattle.abc_link_names.specs.Firsts.{item}
use Rattle.abc_link_names.proofs.rule.first_of_kind.Given as goal

abbrev pub invariant-loop-index : goal.invariant-loop-index
invariant-loop-index g l = (i : ℕ) → i < l.index → Breaks (g.R.Rule.file l.rule) (g.R.Rule.rule l.rule) (item l.kind i) → ⊥

use Rattle.std.proofs.Common.{sym, arith, below_more}
use Rattle.std.proofs.lemmas.Bool.{false≢true}
use Rattle.abc_link_rules.proofs.SidedRepeats.{sideless}
use Rattle.abc_link_rules.proofs.same_name.has_sides.Goals as goal

pub returns-then-has_side : goal.returns-then-has_side
returns-then-has_side c = λ e. absurd (false≢true (sym e))

pub returns : goal.returns
returns c = λ _ i lt. c.loop-i.invariant i (omega arith)

pub loop-i-preserved : goal.loop-i-preserved
loop-i-preserved c = below_more _ _ c.loop-i.invariant (sideless _ c.if-has_side.ensures)

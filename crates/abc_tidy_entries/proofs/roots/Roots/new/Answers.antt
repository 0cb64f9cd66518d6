use Rattle.abc_tidy_entries.proofs.Rooted.{begun}
use Rattle.abc_tidy_entries.proofs.roots.Roots.new.Goals as goal

pub invariant_of-result : goal.invariant_of-result
invariant_of-result c = begun c.args.counts c.nodes-count.result c.in_ok-marks.marks c.new-none.result c.requires c.nodes-count.ensures c.in_ok-marks.ensures c.new-none.ensures

use Rattle.std.proofs.Common.{subst}
use Rattle.abc_tidy_entries.specs.Kept.{AreRowsKept}
use Rattle.abc_tidy_entries.proofs.Cyclic.{first_cyclic, kept_graph}
use Rattle.abc_tidy_entries.proofs.cycles.first_cyclic.Goals as goal

pub first_return-requires-clause-in_range : goal.first_return-requires-clause-in_range
first_return-requires-clause-in_range c = kept_graph c.args.abc.now c.deref.result.now c.in_ok-graph.graph c.in_ok-rows.rows c.in_ok-graph.ensures c.in_ok-rows.ensures

pub returns : goal.returns
returns c =
    first_cyclic c.args.abc.now c.in_ok-marks.marks.items c.in_ok-graph.graph c.in_ok-rows.rows c.in_ok-first.first c.in_ok-graph.ensures c.in_ok-marks.ensures
    (subst (λ ms. AreRowsKept ms c.in_ok-graph.graph c.in_ok-rows.rows) c.deref.ensures.value c.in_ok-rows.ensures) c.in_ok-first.ensures

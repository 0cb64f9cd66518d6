use Rattle.abc_tidy_entries.proofs.Building.{entries_built}
use Rattle.abc_tidy_entries.proofs.entries.entries_of.Goals as goal

pub returns : goal.returns
returns c =
    entries_built c.args.abc.now c.args.counts.now c.in_ok-graph.graph c.add_spaces.new.graph c.add_sets.new.graph c.add_names.new.graph
    c.requires.counts c.in_ok-graph.ensures c.in_ok-add_spaces.ensures c.in_ok-add_sets.ensures c.in_ok-add_names.ensures

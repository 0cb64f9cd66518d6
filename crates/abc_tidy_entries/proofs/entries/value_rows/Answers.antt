use Rattle.std.proofs.Common.{◌∙◌}
use Rattle.abc_tidy_entries.proofs.Building.{values_are}
use Rattle.abc_tidy_entries.proofs.entries.value_rows.Goals as goal

pub returns : goal.returns
returns c =
    values_are c.args.abc.now c.new-graph.result c.push.new.self c.add_values.new.graph c.add_values-2.new.graph c.add_values-3.new.graph c.add_values-4.new.graph c.len.result c.len-2.result c.len-3.result c.len-4.result
    c.new-graph.ensures c.in_ok-push.ensures.ok c.in_ok-add_values.ensures c.in_ok-add_values-2.ensures c.in_ok-add_values-3.ensures c.in_ok-add_values-4.ensures c.len.ensures c.len-2.ensures c.len-3.ensures c.len-4.ensures

use Rattle.std.proofs.Common.{◌≡◌, map, take}
use Rattle.abc_link_rules.specs.Repeats.{sided_key}
use Rattle.abc_link_rules.proofs.same_name.sided_keys.Given as goal

abbrev pub invariant-loop-info : goal.invariant-loop-info
invariant-loop-info l = l.keys.items ≡ map (sided_key l.names.abc.now l.names.tables.now.numbers) (take l.info-index l.table)

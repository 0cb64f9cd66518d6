use Rattle.std.proofs.Common.{◌≡◌, ◌++◌, map, take}
use Rattle.abc_link.specs.SetKeys.{set_key}
use Rattle.abc_link.proofs.sets.push_set.Given as goal

abbrev pub invariant-loop-space : goal.invariant-loop-space
invariant-loop-space l = l.keys.items ≡ l.initial.keys.items ++ map (set_key l.names.abc.now l.names.tables.now.numbers l.set) (take l.space-index l.spaces)

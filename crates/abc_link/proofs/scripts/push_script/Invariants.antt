use Rattle.std.proofs.Common.{◌≡◌, ◌++◌, map, take}
use Rattle.abc_link.specs.ScriptTraits.{keys_of}
use Rattle.abc_link.proofs.scripts.push_script.Given as goal

abbrev pub invariant-loop-info : goal.invariant-loop-info
invariant-loop-info l = record {
  keys : l.keys.items ≡ l.initial.keys.items ++ keys_of l.abc l.numbers (take l.info-index l.traits);
  owners : l.owners ≡ l.initial.owners ++ map (λ t. l.script) (take l.info-index l.traits);
}

use Rattle.std.proofs.Common.{◌≡◌, take}
use Rattle.abc_link.specs.ScriptTraits.{keys_of, owners_from, traits_of_scripts}
use Rattle.abc_link.proofs.scripts.push_scripts.Given as goal

abbrev pub invariant-loop-script : goal.invariant-loop-script
invariant-loop-script l = record {
  keys : l.keys.items ≡ keys_of l.abc l.numbers (traits_of_scripts (take l.script l.abc.scripts));
  owners : l.owners ≡ owners_from 0 (take l.script l.abc.scripts);
}

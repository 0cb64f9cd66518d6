use Rattle.std.proofs.Common.{◌≡◌, ◌++◌, drop}
use Rattle.abc_link_names.specs.Owners.{namings_from, of_script}
use Rattle.abc_link_layouts.proofs.namings.push_scripts.Given as goal

abbrev pub invariant-loop-s : goal.invariant-loop-s
invariant-loop-s l = l.list ++ namings_from of_script l.s (drop l.s l.abc.scripts) ≡ l.initial.list ++ namings_from of_script 0 l.abc.scripts

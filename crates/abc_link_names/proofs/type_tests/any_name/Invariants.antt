use Rattle.std.proofs.Common.{◌≡◌, false, take}
use Rattle.std.specs.List.{list_any}
use Rattle.abc_link_names.proofs.type_tests.any_name.Given as goal

abbrev pub invariant-loop-name : goal.invariant-loop-name
invariant-loop-name g l = list_any (g.T.TypeTest.fails l.test) (take l.name-index l.names) ≡ false

use Rattle.std.proofs.Common.{◌≡◌, map, take}
use Rattle.std.specs.List.{list_any}
use Rattle.abc_link_names.specs.Pool.{is_public}
use Rattle.abc_link.proofs.sets.publics_of.Given as goal

abbrev pub invariant-loop-i : goal.invariant-loop-i
invariant-loop-i l = l.publics ≡ map (list_any (is_public l.names.abc.now)) (take l.i l.names.abc.now.sets)

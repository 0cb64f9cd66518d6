use Rattle.std.proofs.Common.{◌≡◌, map, take}
use Rattle.abc_link_layouts.proofs.owners.methods_of.Given as goal

abbrev pub invariant-loop-naming : goal.invariant-loop-naming
invariant-loop-naming l = l.methods.items ≡ map (λ n. n.method) (take l.naming-index l.list)

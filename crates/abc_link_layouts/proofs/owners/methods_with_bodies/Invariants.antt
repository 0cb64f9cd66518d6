use Rattle.std.proofs.Common.{◌≡◌, map, take}
use Rattle.abc_link_layouts.proofs.owners.methods_with_bodies.Given as goal

abbrev pub invariant-loop-body : goal.invariant-loop-body
invariant-loop-body l = l.list.items ≡ map (λ b. b.method) (take l.body-index l.body-items)

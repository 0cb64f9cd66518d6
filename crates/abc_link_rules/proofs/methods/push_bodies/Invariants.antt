use Rattle.std.proofs.Common.{◌≡◌, ◌++◌, take}
use Rattle.std.specs.List.{flat_map}
use Rattle.abc_link_names.specs.Methods.{of_body}
use Rattle.abc_link_rules.proofs.methods.push_bodies.Given as goal

abbrev pub invariant-loop-body : goal.invariant-loop-body
invariant-loop-body l = l.list.items ≡ l.initial.list.items ++ flat_map of_body (take l.body-index l.body-items)

use Rattle.std.proofs.Common.{◌≡◌, false, not, take}
use Rattle.std.specs.List.{list_any}
use Rattle.abc_link_interfaces.specs.Sets.{is_settled}
use Rattle.abc_link_interfaces.proofs.sets.any_missing.Given as goal

abbrev pub invariant-loop-class : goal.invariant-loop-class
invariant-loop-class l = list_any (λ t. not (is_settled l.sets t)) (take l.class-index l.classes) ≡ false

use Rattle.std.proofs.Common.{◌≡◌, get_or, map, take}
use Rattle.abc_link_names.specs.Traits.{trait_name}
use Rattle.abc_link_layouts.proofs.numbers.keys_of.Given as goal

abbrev pub invariant-loop-info : goal.invariant-loop-info
invariant-loop-info l = l.keys.items ≡ map (λ t. get_or l.numbers (trait_name l.abc t).string 0) (take l.info-index l.table)

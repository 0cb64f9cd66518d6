use Rattle.std.proofs.Common.{◌≡◌, map, take, unwrap_or}
use Rattle.abc_link_names.specs.Keys.{keys_eq}
use Rattle.indexmap.specs.IndexMap.{get}
use Rattle.abc_link_known.proofs.spots.spots_of_keys.Given as goal

abbrev pub invariant-loop-key : goal.invariant-loop-key
invariant-loop-key l = l.spots ≡ map (λ k. unwrap_or (get keys_eq l.found k) 0) (take l.key-index l.keys)

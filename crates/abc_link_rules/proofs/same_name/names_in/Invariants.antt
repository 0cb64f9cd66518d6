use Rattle.std.proofs.Common.{◌≡◌, map, take}
use Rattle.abc_link_rules.proofs.same_name.names_in.Given as goal

abbrev pub invariant-loop-key : goal.invariant-loop-key
invariant-loop-key l = l.names.items ≡ map (λ k. k.name) (take l.key-index l.keys)

use Rattle.std.proofs.Common.{◌≡◌, length}
use Rattle.abc_link_names.specs.ItemTypes.{any_pair}
use Rattle.abc_link_names.proofs.pairs.any_pair_of.Given as goal

abbrev pub invariant-loop-parts : goal.invariant-loop-parts
invariant-loop-parts g l = any_pair (g.C.Clash.clash l.clash) l.left ≡ any_pair (g.C.Clash.clash l.clash) l.items

abbrev pub decreases-loop-parts : goal.decreases-loop-parts
decreases-loop-parts g l = length l.left

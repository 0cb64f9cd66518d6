use Rattle.std.proofs.Common.{◌≡◌, false, take}
use Rattle.std.specs.List.{list_any}
use Rattle.abc_link_names.proofs.pairs.clashes_in.Given as goal

abbrev pub invariant-loop-other : goal.invariant-loop-other
invariant-loop-other g l = list_any (g.C.Clash.clash l.clash l.first) (take l.other-index l.others) ≡ false

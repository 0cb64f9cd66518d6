use Rattle.std.proofs.Common.{◌≡◌, false, take}
use Rattle.std.specs.List.{list_any}
use Rattle.abc_link_names.specs.Pool.{same_space}
use Rattle.abc_link_names.proofs.names.Names.is_among.Given as goal

abbrev pub invariant-loop-one : goal.invariant-loop-one
invariant-loop-one l = list_any (same_space l.self.abc.now l.space) (take l.one-index l.spaces) ≡ false

use Rattle.std.proofs.Common.{◌≡◌, false, take}
use Rattle.std.specs.List.{list_any}
use Rattle.abc_link_names.specs.Pool.{is_public}
use Rattle.abc_link_names.proofs.names.Names.is_any_public.Given as goal

abbrev pub invariant-loop-space : goal.invariant-loop-space
invariant-loop-space l = list_any (is_public l.self.abc.now) (take l.space-index l.spaces) ≡ false

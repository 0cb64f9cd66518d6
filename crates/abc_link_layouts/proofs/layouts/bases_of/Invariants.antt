use Rattle.std.proofs.Common.{◌≡◌, map, take}
use Rattle.abc_link_layouts.specs.Laid.{base_found}
use Rattle.abc_link_layouts.proofs.layouts.bases_of.Given as goal

abbrev pub invariant-loop-part : goal.invariant-loop-part
invariant-loop-part l = l.bases ≡ map (base_found l.meanings.abc.now l.places) (take l.part-index l.parts)

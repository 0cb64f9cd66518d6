use Rattle.std.proofs.Common.{◌≡◌, map, take}
use Rattle.abc_link_names.specs.Meaning.{resolve}
use Rattle.abc_link_layouts.specs.Forest.{class_in}
use Rattle.abc_link_layouts.proofs.forest.class_bases.Given as goal

abbrev pub invariant-loop-instance : goal.invariant-loop-instance
invariant-loop-instance l = l.bases ≡ map (λ i. class_in (resolve l.meanings.abc.now i.super_name)) (take l.instance-index l.instance-items)

use Rattle.std.proofs.Common.{◌≡◌, map, take}
use Rattle.abc_link_names.specs.Meaning.{resolve}
use Rattle.abc_link_names.specs.Bases.{classes_named}
use Rattle.abc_link_rules.proofs.graphs.base_graph.Given as goal

abbrev pub invariant-loop-instance : goal.invariant-loop-instance
invariant-loop-instance l = l.graph ≡ map (λ i. classes_named (resolve l.meanings.abc.now i.super_name)) (take l.instance-index l.instance-items)

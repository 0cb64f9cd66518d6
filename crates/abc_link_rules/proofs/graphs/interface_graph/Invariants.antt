use Rattle.std.proofs.Common.{◌≡◌, map, take}
use Rattle.abc_link_names.specs.Bases.{targets_of}
use Rattle.abc_link_rules.proofs.graphs.interface_graph.Given as goal

abbrev pub invariant-loop-instance : goal.invariant-loop-instance
invariant-loop-instance l = l.graph ≡ map (targets_of l.meanings.abc.now) (take l.instance-index l.instance-items)

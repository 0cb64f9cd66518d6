use Rattle.std.proofs.Common.{◌≡◌, map, take}
use Rattle.abc_link_names.specs.Interfaces.{above_class}
use Rattle.abc_link_interfaces.proofs.graph.class_graph.Given as goal

abbrev pub invariant-loop-instance : goal.invariant-loop-instance
invariant-loop-instance l = l.graph ≡ map (above_class l.meanings.abc.now) (take l.instance-index l.instance-items)

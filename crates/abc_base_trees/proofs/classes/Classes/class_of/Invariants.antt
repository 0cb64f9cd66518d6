use Rattle.std.proofs.Common.{◌≡◌}
use Rattle.abc_base_graphs.specs.Graph.{leads_to}
use Rattle.abc_base_trees.specs.Classes.{IsBuilt}
use Rattle.abc_base_trees.proofs.classes.Classes.class_of.Given as goal

abbrev pub invariant-loop-part : goal.invariant-loop-part
invariant-loop-part l = record {
  built : IsBuilt l.heads l.graph l.node l.part-index l.fn.self.keys.keys l.self.keys.keys l.self.classes l.class;
  classes : l.self.classes ≡ l.fn.self.classes;
  parts : l.part-items ≡ leads_to l.graph l.node;
}

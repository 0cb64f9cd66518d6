use Rattle.std.proofs.Common.{take}
use Rattle.abc_base_trees.specs.Classes.{AllClassed}
use Rattle.abc_base_trees.proofs.classes.Classes.have.Given as goal

abbrev pub invariant-loop-node : goal.invariant-loop-node
invariant-loop-node l = AllClassed l.self.classes (take l.node-index l.nodes)

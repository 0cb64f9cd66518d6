use Rattle.std.proofs.Common.{ℕ, ◌<◌, All, [], length, take}
use Rattle.abc_base_trees.specs.Classes.{AreTreeClasses, AreDistinct, AreSettled, HasClass}
use Rattle.abc_base_trees.specs.Orders.{StandsIn, IsBehindAll}
use Rattle.abc_base_trees.proofs.classes.classes_of.Given as goal

abbrev pub invariant-loop-node : goal.invariant-loop-node
invariant-loop-node l = record {
  valid : AreTreeClasses l.heads l.graph l.classes.keys.keys l.classes.classes;
  distinct : AreDistinct l.classes.keys.keys;
  only : (y : ℕ) → HasClass l.classes.classes y → StandsIn y (take l.node-index l.order);
  settled : IsBehindAll l.graph [] l.order → All (λ y. y < length l.graph) l.order → AreSettled l.classes.classes l.order l.node-index;
}

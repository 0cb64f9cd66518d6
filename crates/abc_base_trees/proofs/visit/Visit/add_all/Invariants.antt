use Rattle.std.proofs.Common.{◌≡◌, ◌++◌, drop}
use Rattle.abc_base_trees.proofs.visit.Visit.add_all.Given as goal

abbrev pub invariant-loop-i : goal.invariant-loop-i
invariant-loop-i l = record {
  todo : l.self.todo ≡ drop l.i l.nodes ++ l.initial.self.todo;
  met : l.self.met.items ≡ l.initial.self.met.items;
  opened : l.self.opened.items ≡ l.initial.self.opened.items;
  seen : l.self.seen ≡ l.initial.self.seen;
}

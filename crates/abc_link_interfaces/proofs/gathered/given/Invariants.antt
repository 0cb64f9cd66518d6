use Rattle.abc_link_interfaces.specs.Sets.{GathersInterfaces}
use Rattle.abc_link_interfaces.proofs.gathered.given.Given as goal

abbrev pub invariant-loop-class : goal.invariant-loop-class
invariant-loop-class l = GathersInterfaces l.abc l.sets l.classes l.list.items l.class-index

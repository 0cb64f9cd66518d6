use Rattle.abc_link_interfaces.specs.Sets.{AddsEach}
use Rattle.abc_link_interfaces.proofs.gathered.push_all.Given as goal

abbrev pub invariant-loop-number : goal.invariant-loop-number
invariant-loop-number l = AddsEach l.initial.list.items l.list.items l.numbers l.number-index

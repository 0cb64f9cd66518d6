use Rattle.std.proofs.Common.{◌≡◌, ◌++◌, drop}
use Rattle.abc_link_names.specs.Owners.{namings_from, of_instance}
use Rattle.abc_link_layouts.proofs.namings.push_instances.Given as goal

abbrev pub invariant-loop-k : goal.invariant-loop-k
invariant-loop-k l = l.list ++ namings_from of_instance l.k (drop l.k l.abc.instances) ≡ l.initial.list ++ namings_from of_instance 0 l.abc.instances

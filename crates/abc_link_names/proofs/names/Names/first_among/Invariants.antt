use Rattle.std.proofs.Common.{◌≡◌, drop}
use Rattle.std.specs.List.{find}
use Rattle.abc_link_names.specs.Instances.{instance_at}
use Rattle.abc_link_names.specs.Meaning.{is_class_named}
use Rattle.abc_link_names.proofs.names.Names.first_among.Given as goal

abbrev pub invariant-loop-class : goal.invariant-loop-class
invariant-loop-class l = find (λ i. is_class_named l.self.abc.now l.name (instance_at l.self.abc.now i)) l.classes ≡ find (λ i. is_class_named l.self.abc.now l.name (instance_at l.self.abc.now i)) (drop l.class-index l.classes)

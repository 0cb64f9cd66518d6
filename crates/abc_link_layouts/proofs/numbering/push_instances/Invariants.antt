use Rattle.std.proofs.Common.{◌≡◌, ◌++◌, map, take}
use Rattle.abc_link_names.specs.declared.part.Part.TheVariants as parts
use Rattle.abc_link_layouts.proofs.numbering.push_instances.Given as goal

abbrev pub invariant-loop-class : goal.invariant-loop-class
invariant-loop-class l = l.parts ≡ l.initial.parts ++ map (λ k. parts.Instance k) (take l.class-index l.classes)

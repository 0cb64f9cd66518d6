use Rattle.std.proofs.Common.{◌≡◌, ◌++◌, map}
use Rattle.std.specs.List.{range_with_len}
use Rattle.abc_link_names.specs.declared.part.Part.TheVariants as parts
use Rattle.abc_link_layouts.proofs.numbering.push_class_objects.Given as goal

abbrev pub invariant-loop-class : goal.invariant-loop-class
invariant-loop-class l = l.parts ≡ l.initial.parts ++ map (λ k. parts.ClassObject k) (range_with_len 0 l.class)

use Rattle.std.proofs.Common.{◌≡◌, ◌++◌}
use Rattle.std.specs.List.{flat_map, range_with_len}
use Rattle.abc_link_layouts.specs.Numbering.{parts_in}
use Rattle.abc_link_layouts.proofs.numbering.push_bodies.Given as goal

abbrev pub invariant-loop-body : goal.invariant-loop-body
invariant-loop-body l = l.parts ≡ l.initial.parts ++ flat_map (parts_in l.abc) (range_with_len 0 l.body)

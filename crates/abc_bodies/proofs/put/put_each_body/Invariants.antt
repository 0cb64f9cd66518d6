use Rattle.std.proofs.Common.{◌≡◌, ◌++◌, take}
use Rattle.std.specs.List.{flat_map}
use Rattle.abc_file_types.specs.Bodies.{body_bytes}
use Rattle.abc_bodies.proofs.put.put_each_body.Given as goal

abbrev pub invariant-loop-body : goal.invariant-loop-body
invariant-loop-body l = l.out.items ≡ l.initial.out.items ++ flat_map body_bytes (take l.body-index l.bodies)

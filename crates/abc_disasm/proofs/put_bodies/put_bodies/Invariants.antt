use Rattle.std.proofs.Common.{◌≡◌, ◌++◌, take}
use Rattle.std.specs.List.{flat_map}
use Rattle.abc_disasm.specs.Texts.{whole_body}
use Rattle.abc_disasm.proofs.put_bodies.put_bodies.Given as goal

abbrev pub invariant-loop-body : goal.invariant-loop-body
invariant-loop-body l = l.out.items ≡ l.initial.out.items ++ flat_map (whole_body l.abc) (take l.body-index l.bodies)

use Rattle.std.proofs.Common.{◌<◌, ℕ, length, subst, sym}
use Rattle.abc_objects.specs.Values.{Exists}
use Rattle.abc_ops.proofs.Parts.{layout_there}
use Rattle.abc_run_finish.proofs.stopping.thrown_as.Goals as goal

pub part_of-requires : goal.part_of-requires
part_of-requires g c =
    let l = c.args.linked.now in
    let a = c.args.s.now.arena in
    let there = subst (Exists l a) c.in-Obj.is c.requires.1 in
    subst (λ (n : ℕ). n < length l.parts) (sym c.layout.ensures) (layout_there l a c.in-Obj.o.0 c.requires.0 there)

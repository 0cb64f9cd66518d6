use Rattle.std.proofs.Common.{◌∙◌, ℕ, ap, length, sym}
use Rattle.std.specs.Prelude.{pos}
use Rattle.abc_heap_values.specs.declared.values.Value.{Value}
use Rattle.abc_heap_values.specs.declared.values.Value.TheVariants.{Num}
use Rattle.abc_heap_store.specs.Heap.{Object}
use Rattle.abc_run_state.specs.Outer.{world}
use Rattle.abc_meaning.specs.World.{Went, pure}
use Rattle.abc_run_members.proofs.Places.{length_is, object_inner}
use Rattle.abc_run_members.proofs.values.length_of.Goals as goal

pub length-count-requires : goal.length-count-requires
length-count-requires g c = object_inner c.args.holder (λ (ob : Object). pure (Num (pos (length ob.elements)))) (world c.args.s.now g.out) c.requires.1

pub returns-clause-part : goal.returns-clause-part
returns-clause-part g c =
    let w = world c.args.s.now g.out in
    length_is c.args.holder w c.requires.1 ∙ ap (λ (n : ℕ). Went w (Num (pos n))) (sym c.length-count.ensures) ∙ ap (λ (v : Value). Went w v) (sym c.number.ensures.is)

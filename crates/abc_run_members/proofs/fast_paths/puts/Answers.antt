use Rattle.std.proofs.Common.{◌∙◌, ap, refl, sym}
use Rattle.abc_heap_values.specs.declared.values.Value.{Value}
use Rattle.abc_heap_values.specs.declared.values.Value.TheVariants.{Undefined}
use Rattle.abc_heap_store.specs.Heap.{Heap}
use Rattle.abc_run_state.proofs.Made.{property_put}
use Rattle.abc_run_members.proofs.Settled.{came_goes}
use Rattle.abc_frames.specs.Frame.{newest}
use Rattle.abc_run_state.specs.Operands.{operand_at}
use Rattle.abc_run_state.specs.Outer.{at_heap, setting_in, world}
use Rattle.abc_meaning.specs.Objects.{set_property}
use Rattle.abc_run_state.specs.declared.state.How.TheVariants.{Drop}
use Rattle.abc_run_members.proofs.fast_paths.puts.Goals as goal

pub returns-in-Ok : goal.returns-in-Ok
returns-in-Ok g c =
    let p = setting_in c.args.linked.now g.out in
    let q = c.args.s.now.frames in
    let w = world c.args.s.now g.out in
    let x = operand_at 0 (newest q) in (
      came_goes p q q c.settle.new.frames (Drop 2) (set_property p c.args.o c.args.text x) (λ u. Undefined) w (at_heap c.set_property.new.self w) tt
          (ap (λ (v : Value). set_property p c.args.o c.args.text v w) (sym c.requires.1.1.1.1.1) ∙ property_put p w c.args.o c.args.text c.args.x c.set_property.new.self c.in-Ok.ensures.put)
          refl c.settle.ensures,
      refl,
    )

pub returns-in-Err : goal.returns-in-Err
returns-in-Err g c = ap (λ (h : Heap). record c.args.s.now { arena = h }) c.in-Err.ensures.put.2

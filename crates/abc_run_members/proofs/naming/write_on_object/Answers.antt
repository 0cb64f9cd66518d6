use Rattle.std.proofs.Common.{rules, ◌∙◌, ap, refl, subst, sym}
use Rattle.std.specs.Prelude.{length}
use Rattle.abc_heap_values.specs.declared.values.Value.TheVariants.{Obj, Undefined}
use Rattle.abc_heap_store.specs.Heap.{elements_of}
use Rattle.abc_heap_store.specs.Texts.{IsText}
use Rattle.abc_objects.specs.declared.name.Name.{Name}
use Rattle.abc_frames.specs.Frame.{newest}
use Rattle.abc_run_state.specs.Outer.{at_heap, setting_in, world}
use Rattle.abc_run_state.specs.Stops.{IsOpen}
use Rattle.abc_run_state.specs.Turns.{turn_of}
use Rattle.abc_meaning.specs.Members.{write_element, writes_to}
use Rattle.abc_run_members.specs.Members.{writes_on}
use Rattle.abc_run_members.proofs.Settled.{value_runs}
use Rattle.abc_run_members.proofs.Written.{element_kept}
use Rattle.abc_run_members.proofs.naming.write_on_object.Goals as goal

pub returns-in-Some : goal.returns-in-Some
returns-in-Some g c = record {
  runs =
      let p = setting_in c.args.linked.now g.out in
      let q = c.args.s.now.frames in
      let w = world c.args.s.now g.out in
      let n = length (elements_of c.args.s.now.arena.objects c.args.o.0) in
      value_runs p c.args.how q q c.settle.new.frames (writes_to p (Obj c.args.o) c.args.name.now c.args.x c.args.initial) (write_element c.args.o n c.in-Some.k c.args.x) (λ u. Undefined) w (at_heap c.set_element.new.self w) tt (c.in-Some.ensures.1 g.out c.args.x c.args.initial) (element_kept c.args.o n c.in-Some.k c.args.x w c.set_element.new.self c.in-Some.ensures.0 c.set_element.ensures.heap) refl c.settle.ensures;
  limit = search rules;
}

pub set_element-requires : goal.set_element-requires
set_element-requires g c = c.in-Some.ensures.0

pub write_searching-requires : goal.write_searching-requires
write_searching-requires g c =
    let same = sym c.again.ensures in (record { set = c.requires.0.set; known = c.requires.0.known; free = (subst (λ (n : Name). IsOpen (writes_on (setting_in c.args.linked.now g.out) (Obj c.args.o) n c.args.x c.args.initial c.args.how (newest c.args.s.now.frames) (world c.args.s.now g.out))) same c.requires.0.free) }, (c.requires.1.0, (c.requires.1.1.0, (c.requires.1.1.1.0, ((subst (λ (n : Name). IsText c.args.linked.now.file.strings c.args.s.now.arena n.text) same c.requires.1.1.1.1.0), (c.requires.1.1.1.1.1.0, c.requires.1.1.1.1.1.1))))))

pub returns-in-None : goal.returns-in-None
returns-in-None g c = record {
  runs =
      let p = setting_in c.args.linked.now g.out in
      let q = c.args.s.now.frames in
      let w = world c.args.s.now g.out in
      ap (λ (n : Name). turn_of p q (writes_on p (Obj c.args.o) n c.args.x c.args.initial c.args.how (newest q) w)) (sym c.again.ensures) ∙ c.write_searching.ensures.runs;
  limit = search rules;
}

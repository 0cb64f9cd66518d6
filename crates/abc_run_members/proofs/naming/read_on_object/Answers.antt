use Rattle.std.proofs.Common.{rules, refl, ◌∙◌, ap, subst, sym}
use Rattle.abc_heap_values.specs.declared.values.Value.TheVariants.{Obj}
use Rattle.abc_heap_store.specs.Texts.{IsText}
use Rattle.abc_objects.specs.declared.name.Name.{Name}
use Rattle.abc_frames.specs.Frame.{newest}
use Rattle.abc_run_state.specs.Outer.{setting_in, world}
use Rattle.abc_run_state.specs.Settling.{settles_how}
use Rattle.abc_run_state.specs.Stops.{IsOpen}
use Rattle.abc_run_state.specs.Turns.{turn_of}
use Rattle.abc_meaning.specs.Members.{read_found, reads}
use Rattle.abc_run_members.specs.Members.{reads_on}
use Rattle.abc_run_members.proofs.Cases.{reads_as}
use Rattle.abc_run_members.proofs.Searched.{element_first, property_first}
use Rattle.abc_run_members.proofs.Settled.{came_open, came_same}
use Rattle.abc_run_members.proofs.naming.read_on_object.Goals as goal

pub read_found-requires : goal.read_found-requires
read_found-requires g c = (
  record {
    set = search rules;
    known = search rules;
    free =
        let p = setting_in c.args.linked.now g.out in
        let w = world c.args.s.now g.out in
        came_open (settles_how c.args.how (newest c.args.s.now.frames)) (reads p (Obj c.args.o) c.args.name.now) (read_found p c.find_first_on-found.result (Obj c.args.o)) w
        (reads_as p (Obj c.args.o) c.args.name.now c.find_first_on-found.result w refl (property_first p.linked w.heap c.args.o c.args.name.now c.find_first_on-found.result _ _ c.find_first_on-found.ensures.first c.in-Property.is))
        c.requires.0.free;
  },
  search rules,
)

pub returns-in-Property : goal.returns-in-Property
returns-in-Property g c = record {
  runs =
      let p = setting_in c.args.linked.now g.out in
      let q = c.args.s.now.frames in
      let w = world c.args.s.now g.out in
      came_same p q (settles_how c.args.how (newest q)) (reads p (Obj c.args.o) c.args.name.now) (read_found p c.find_first_on-found.result (Obj c.args.o)) w _
      (reads_as p (Obj c.args.o) c.args.name.now c.find_first_on-found.result w refl (property_first p.linked w.heap c.args.o c.args.name.now c.find_first_on-found.result _ _ c.find_first_on-found.ensures.first c.in-Property.is))
      c.read_found.ensures.runs;
  limit = search rules;
}

pub read_found-requires-in-Element : goal.read_found-requires-in-Element
read_found-requires-in-Element g c = (
  record {
    set = search rules;
    known = search rules;
    free =
        let p = setting_in c.args.linked.now g.out in
        let w = world c.args.s.now g.out in
        came_open (settles_how c.args.how (newest c.args.s.now.frames)) (reads p (Obj c.args.o) c.args.name.now) (read_found p c.find_first_on-found.result (Obj c.args.o)) w
        (reads_as p (Obj c.args.o) c.args.name.now c.find_first_on-found.result w refl (element_first p.linked w.heap c.args.o c.args.name.now c.find_first_on-found.result _ _ c.find_first_on-found.ensures.first c.in-Element.is))
        c.requires.0.free;
  },
  search rules,
)

pub returns-in-Element : goal.returns-in-Element
returns-in-Element g c = record {
  runs =
      let p = setting_in c.args.linked.now g.out in
      let q = c.args.s.now.frames in
      let w = world c.args.s.now g.out in
      came_same p q (settles_how c.args.how (newest q)) (reads p (Obj c.args.o) c.args.name.now) (read_found p c.find_first_on-found.result (Obj c.args.o)) w _
      (reads_as p (Obj c.args.o) c.args.name.now c.find_first_on-found.result w refl (element_first p.linked w.heap c.args.o c.args.name.now c.find_first_on-found.result _ _ c.find_first_on-found.ensures.first c.in-Element.is))
      c.read_found-in-Element.ensures.runs;
  limit = search rules;
}

pub read_searching-requires : goal.read_searching-requires
read_searching-requires g c =
    let same = sym c.again.ensures in (record { set = c.requires.0.set; known = c.requires.0.known; free = (subst (λ (n : Name). IsOpen (reads_on (setting_in c.args.linked.now g.out) (Obj c.args.o) n c.args.how (newest c.args.s.now.frames) (world c.args.s.now g.out))) same c.requires.0.free) }, (c.requires.1.0, (c.requires.1.1.0, (subst (λ (n : Name). IsText c.args.linked.now.file.strings c.args.s.now.arena n.text) same c.requires.1.1.1))))

pub returns-in_default : goal.returns-in_default
returns-in_default g c = record {
  runs =
      let p = setting_in c.args.linked.now g.out in
      let q = c.args.s.now.frames in
      let w = world c.args.s.now g.out in
      ap (λ (n : Name). turn_of p q (reads_on p (Obj c.args.o) n c.args.how (newest q) w)) (sym c.again.ensures) ∙ c.read_searching.ensures.runs;
  limit = search rules;
}

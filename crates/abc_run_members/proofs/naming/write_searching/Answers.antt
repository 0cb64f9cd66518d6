use Rattle.std.proofs.Common.{rules, subst, sym}
use Rattle.std.specs.Prelude.{ℕ, ◌<◌, length}
use Rattle.abc_heap_store.specs.Heap.{object_at}
use Rattle.abc_frames.specs.Frame.{newest}
use Rattle.abc_heap_values.specs.declared.values.Value.TheVariants.{Obj}
use Rattle.abc_run_state.specs.Outer.{setting_in, world}
use Rattle.abc_run_state.specs.Settling.{settles_how}
use Rattle.abc_meaning.specs.Members.{write_found, writes_to}
use Rattle.abc_run_members.proofs.Cases.{writes_as}
use Rattle.abc_run_members.proofs.Searched.{object_inside}
use Rattle.abc_run_members.proofs.Settled.{came_open, came_same}
use Rattle.abc_run_members.proofs.naming.write_searching.Goals as goal

pub find_declared-found-requires-clause-object : goal.find_declared-found-requires-clause-object
find_declared-found-requires-clause-object g c =
    let h = c.args.s.now.arena in
    subst (λ (x : ℕ). x < length c.args.linked.now.parts) (sym c.layout-layout.ensures) (c.requires.0.set.over.objects c.args.o.0 (object_at h.objects c.args.o.0) (object_inside h.objects c.args.o.0 c.requires.1.1.1.0)).layout

pub find_declared-found-requires-clause-from : goal.find_declared-found-requires-clause-from
find_declared-found-requires-clause-from g c =
    let h = c.args.s.now.arena in
    subst (λ (x : ℕ). x < length c.args.linked.now.parts) (sym c.layout-layout.ensures) (c.requires.0.set.over.objects c.args.o.0 (object_at h.objects c.args.o.0) (object_inside h.objects c.args.o.0 c.requires.1.1.1.0)).layout

pub write_found-requires : goal.write_found-requires
write_found-requires g c = (
  record {
    set = search rules;
    known = search rules;
    free =
        let p = setting_in c.args.linked.now g.out in
        let w = world c.args.s.now g.out in
        came_open (settles_how c.args.how (newest c.args.s.now.frames)) (writes_to p (Obj c.args.o) c.args.name.now c.args.x c.args.initial) (write_found p c.args.o c.args.name.now c.args.x c.args.initial c.find_declared-found.result) w
        (writes_as p c.args.o c.args.name.now c.args.x c.args.initial c.layout-layout.result.0 c.find_declared-found.result w c.requires.1.1.1.0 c.layout-layout.ensures c.find_declared-found.ensures) c.requires.0.free;
  },
  search rules,
)

pub returns : goal.returns
returns g c = record {
  runs =
      let p = setting_in c.args.linked.now g.out in
      let q = c.args.s.now.frames in
      let w = world c.args.s.now g.out in
      came_same p q (settles_how c.args.how (newest q)) (writes_to p (Obj c.args.o) c.args.name.now c.args.x c.args.initial) (write_found p c.args.o c.args.name.now c.args.x c.args.initial c.find_declared-found.result) w _
      (writes_as p c.args.o c.args.name.now c.args.x c.args.initial c.layout-layout.result.0 c.find_declared-found.result w c.requires.1.1.1.0 c.layout-layout.ensures c.find_declared-found.ensures) c.write_found.ensures.runs;
  limit = search rules;
}

use Rattle.std.proofs.Common.{rules, false, subst}
use Rattle.std.proofs.lemmas.Result.{err_from_is_err_and}
use Rattle.abc_heap_values.specs.declared.values.ObjId.{ObjId}
use Rattle.abc_objects.specs.Values.{Exists}
use Rattle.abc_objects.specs.declared.found.Found.{Found}
use Rattle.abc_objects.specs.declared.found.Want.TheVariants.{Write}
use Rattle.abc_frames.specs.Frame.{newest}
use Rattle.abc_run_members.proofs.Settled.{came_halts, came_open, came_same}
use Rattle.abc_run_state.specs.Outer.{setting_in, world}
use Rattle.abc_run_state.specs.Settling.{settles_how}
use Rattle.abc_run_state.specs.Stops.{why}
use Rattle.abc_run_state.specs.Turns.{went}
use Rattle.abc_run_state.proofs.Turning.{open_first}
use Rattle.abc_meaning.specs.Members.{write_found}
use Rattle.abc_meaning.specs.World.{◌>>=◌}
use Rattle.abc_run_members.specs.Supers.{super_write, super_found_here}
use Rattle.abc_run_members.proofs.SupersAbove.{receives_open, receives_stopped, super_is}
use Rattle.abc_run_members.proofs.super_arms.write_super.Goals as goal

pub receiver-requires : goal.receiver-requires
receiver-requires g c =
    let l = c.args.linked.now in
    let p = setting_in l g.out in
    let q = c.args.s.now.frames in
    let h = c.args.s.now.arena in
    let w = world c.args.s.now g.out in
    let k = λ (o : ObjId) (found : Found). write_found p o c.args.name.now c.args.x false found in
    let m = super_write p c.args.from.0 c.args.v c.args.name.now c.args.x in
    receives_open c.args.v (λ o. super_found_here p c.args.from.0 o c.args.name.now Write >>= k o) w (open_first (m w) (settles_how c.args.how (newest q)) c.requires.0.free)

pub find_super-found-requires-clause-object : goal.find_super-found-requires-clause-object
find_super-found-requires-clause-object g c = subst (Exists c.args.linked.now c.args.s.now.arena) c.in_ok-o.ensures.object c.requires.1.1.1.1.0

pub write_found-requires : goal.write_found-requires
write_found-requires g c = (
  record {
    set = c.requires.0.set;
    known = c.requires.0.known;
    free =
        let l = c.args.linked.now in
        let p = setting_in l g.out in
        let q = c.args.s.now.frames in
        let h = c.args.s.now.arena in
        let w = world c.args.s.now g.out in
        let k = λ (o : ObjId) (found : Found). write_found p o c.args.name.now c.args.x false found in
        let is = super_is p c.args.from.0 c.args.v c.in_ok-o.o c.args.name.now Write c.find_super-found.result k w c.in_ok-o.ensures.object (subst (Exists l h) c.in_ok-o.ensures.object c.requires.1.1.1.1.0) c.find_super-found.ensures.is in
        came_open (settles_how c.args.how (newest q)) (super_write p c.args.from.0 c.args.v c.args.name.now c.args.x) (k c.in_ok-o.o c.find_super-found.result) w is c.requires.0.free;
  },
  (c.requires.1.0, (c.requires.1.1.0, ((subst (Exists c.args.linked.now c.args.s.now.arena) c.in_ok-o.ensures.object c.requires.1.1.1.1.0), (c.requires.1.1.1.1.1.0, (c.requires.1.1.1.1.1.1.0, c.requires.1.1.1.1.1.1.1))))),
)

pub returns : goal.returns
returns g c = record {
  runs =
      let l = c.args.linked.now in
      let p = setting_in l g.out in
      let q = c.args.s.now.frames in
      let h = c.args.s.now.arena in
      let w = world c.args.s.now g.out in
      let k = λ (o : ObjId) (found : Found). write_found p o c.args.name.now c.args.x false found in
      let is = super_is p c.args.from.0 c.args.v c.in_ok-o.o c.args.name.now Write c.find_super-found.result k w c.in_ok-o.ensures.object (subst (Exists l h) c.in_ok-o.ensures.object c.requires.1.1.1.1.0) c.find_super-found.ensures.is in
      came_same p q (settles_how c.args.how (newest q)) (super_write p c.args.from.0 c.args.v c.args.name.now c.args.x) (k c.in_ok-o.o c.find_super-found.result) w (went c.write_found.result (world c.write_found.new.s g.out) c.write_found.new.s.frames) is c.write_found.ensures.runs;
  limit = search rules;
}

pub returns-in_err-o : goal.returns-in_err-o
returns-in_err-o g c = record {
  runs =
      let l = c.args.linked.now in
      let p = setting_in l g.out in
      let q = c.args.s.now.frames in
      let h = c.args.s.now.arena in
      let w = world c.args.s.now g.out in
      let k = λ (o : ObjId) (found : Found). write_found p o c.args.name.now c.args.x false found in
      let e = err_from_is_err_and c.from_residual.result c.from_residual.ensures.1 in
      rw (e.1, e.2) (came_halts p q (settles_how c.args.how (newest q)) (super_write p c.args.from.0 c.args.v c.args.name.now c.args.x) w w (why c.in_err-o.field-0.0)
      (receives_stopped c.args.v (λ o. super_found_here p c.args.from.0 o c.args.name.now Write >>= k o) w (why c.in_err-o.field-0.0) (c.in_err-o.ensures.is w)));
  limit = search rules;
}

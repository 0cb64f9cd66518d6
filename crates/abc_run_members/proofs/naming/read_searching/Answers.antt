use Rattle.std.proofs.Common.{rules}
use Rattle.std.proofs.lemmas.Result.{err_from_is_err_and}
use Rattle.abc_frames.specs.Frame.{newest}
use Rattle.abc_run_state.specs.Outer.{setting_in, world}
use Rattle.abc_run_state.specs.Settling.{settles_how}
use Rattle.abc_run_state.specs.Stops.{why}
use Rattle.abc_meaning.specs.Members.{find_on, read_found, reads}
use Rattle.abc_meaning.specs.World.{see, ◌>>=◌}
use Rattle.abc_run_members.proofs.Cases.{reads_as}
use Rattle.abc_run_members.proofs.Parts.{holder_halts}
use Rattle.abc_run_members.proofs.Settled.{came_halts, came_open, came_same}
use Rattle.abc_run_members.proofs.naming.read_searching.Goals as goal

pub read_found-requires : goal.read_found-requires
read_found-requires g c = (
  record {
    set = search rules;
    known = search rules;
    free =
        let p = setting_in c.args.linked.now g.out in
        let w = world c.args.s.now g.out in
        came_open (settles_how c.args.how (newest c.args.s.now.frames)) (reads p c.args.v c.args.name.now) (read_found p c.find-found.result c.args.v) w (reads_as p c.args.v c.args.name.now c.find-found.result w (c.in_ok-is_holder.ensures w) c.find-found.ensures.is) c.requires.0.free;
  },
  search rules,
)

pub returns : goal.returns
returns g c = record {
  runs =
      let p = setting_in c.args.linked.now g.out in
      let q = c.args.s.now.frames in
      let w = world c.args.s.now g.out in
      came_same p q (settles_how c.args.how (newest q)) (reads p c.args.v c.args.name.now) (read_found p c.find-found.result c.args.v) w _ (reads_as p c.args.v c.args.name.now c.find-found.result w (c.in_ok-is_holder.ensures w) c.find-found.ensures.is) c.read_found.ensures.runs;
  limit = search rules;
}

pub returns-in_err-is_holder : goal.returns-in_err-is_holder
returns-in_err-is_holder g c = record {
  runs =
      let p = setting_in c.args.linked.now g.out in
      let q = c.args.s.now.frames in
      let w = world c.args.s.now g.out in
      let e = err_from_is_err_and c.from_residual.result c.from_residual.ensures.1 in
      rw (e.1, e.2) (came_halts p q (settles_how c.args.how (newest q)) (reads p c.args.v c.args.name.now) w w (why c.in_err-is_holder.field-0.0) (holder_halts c.args.v (see (find_on p c.args.v c.args.name.now) >>= λ x. read_found p x c.args.v) w w (why c.in_err-is_holder.field-0.0) (c.in_err-is_holder.ensures w)));
  limit = search rules;
}

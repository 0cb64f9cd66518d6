use Rattle.std.proofs.Common.{rules}
use Rattle.std.proofs.lemmas.Result.{err_from_is_err_and}
use Rattle.abc_frames.specs.Frame.{arguments, newest}
use Rattle.abc_run_state.specs.Outer.{setting_in, world}
use Rattle.abc_run_state.specs.Settling.{settles_how}
use Rattle.abc_run_state.specs.Stops.{why}
use Rattle.abc_meaning.specs.Members.{call_found, calls_name, find_on}
use Rattle.abc_meaning.specs.World.{see, ◌>>=◌}
use Rattle.abc_run_members.proofs.Cases.{calls_as}
use Rattle.abc_run_members.proofs.Parts.{holder_halts}
use Rattle.abc_run_members.proofs.Settled.{came_halts, came_open, came_same}
use Rattle.abc_run_members.proofs.naming.call_on.Goals as goal

pub call_found-requires : goal.call_found-requires
call_found-requires g c = (
  record {
    set = search rules;
    known = search rules;
    free =
        let p = setting_in c.args.linked.now g.out in
        let w = world c.args.s.now g.out in
        let args = arguments c.args.count (newest c.args.s.now.frames) in
        came_open (settles_how c.args.how (newest c.args.s.now.frames)) (calls_name p c.args.v c.args.receiver c.args.name.now args) (call_found p c.find-found.result c.args.v c.args.receiver args) w (calls_as p c.args.v c.args.receiver c.args.name.now args c.find-found.result w (c.in_ok-is_holder.ensures w) c.find-found.ensures.is) c.requires.0.free;
  },
  search rules,
)

pub returns : goal.returns
returns g c = record {
  leaves =
      let p = setting_in c.args.linked.now g.out in
      let q = c.args.s.now.frames in
      let w = world c.args.s.now g.out in
      let args = arguments c.args.count (newest q) in
      came_same p q (settles_how c.args.how (newest q)) (calls_name p c.args.v c.args.receiver c.args.name.now args) (call_found p c.find-found.result c.args.v c.args.receiver args) w _ (calls_as p c.args.v c.args.receiver c.args.name.now args c.find-found.result w (c.in_ok-is_holder.ensures w) c.find-found.ensures.is) c.call_found.ensures.leaves;
  finishes = search rules;
  limit = search rules;
}

pub returns-in_err-is_holder : goal.returns-in_err-is_holder
returns-in_err-is_holder g c = record {
  leaves =
      let p = setting_in c.args.linked.now g.out in
      let q = c.args.s.now.frames in
      let w = world c.args.s.now g.out in
      let args = arguments c.args.count (newest q) in
      let e = err_from_is_err_and c.from_residual.result c.from_residual.ensures.1 in
      rw (e.1, e.2) (came_halts p q (settles_how c.args.how (newest q)) (calls_name p c.args.v c.args.receiver c.args.name.now args) w w (why c.in_err-is_holder.field-0.0) (holder_halts c.args.v (see (find_on p c.args.v c.args.name.now) >>= λ x. call_found p x c.args.v c.args.receiver args) w w (why c.in_err-is_holder.field-0.0) (c.in_err-is_holder.ensures w)));
  finishes = search rules;
  limit = search rules;
}

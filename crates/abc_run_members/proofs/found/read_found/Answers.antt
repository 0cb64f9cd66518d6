use Rattle.std.proofs.Common.{rules, []}
use Rattle.abc_frames.specs.Frame.{newest}
use Rattle.abc_run_state.specs.Outer.{setting_in, world}
use Rattle.abc_run_state.specs.Settling.{settles_how}
use Rattle.abc_meaning.specs.Calling.{got}
use Rattle.abc_meaning.specs.Members.{read_found}
use Rattle.abc_meaning.specs.World.{◌>>=◌}
use Rattle.abc_run_members.specs.Members.{enters_on, value_read}
use Rattle.abc_run_members.proofs.Cases.{getter_at, value_is_read}
use Rattle.abc_run_members.proofs.Settled.{came_open, came_same}
use Rattle.abc_run_members.proofs.found.read_found.Goals as goal

pub enter_on-requires : goal.enter_on-requires
enter_on-requires g c = (
  record {
    set = search rules;
    known = search rules;
    free =
        let p = setting_in c.args.linked.now g.out in
        let f = newest c.args.s.now.frames in
        let w = world c.args.s.now g.out in
        came_open (settles_how c.args.how f) (read_found p c.args.found c.args.v) (enters_on p c.in-Getter.method c.args.v []) w (getter_at p c.args.found c.in-Getter.method c.args.v w c.in-Getter.is) c.requires.0.free;
  },
  search rules,
)

pub returns-in-Getter : goal.returns-in-Getter
returns-in-Getter g c = record {
  runs =
      let p = setting_in c.args.linked.now g.out in
      let q = c.args.s.now.frames in
      let w = world c.args.s.now g.out in
      came_same p q (settles_how c.args.how (newest q)) (read_found p c.args.found c.args.v) (enters_on p c.in-Getter.method c.args.v []) w _ (getter_at p c.args.found c.in-Getter.method c.args.v w c.in-Getter.is) c.enter_on.ensures.runs;
  limit = search rules;
}

pub read_value-requires : goal.read_value-requires
read_value-requires g c = (
  search rules,
  (
    search rules,
    (
      search rules,
      (
        search rules,
        (let p = setting_in c.args.linked.now g.out in
            let w = world c.args.s.now g.out in
            came_open (settles_how c.args.how (newest c.args.s.now.frames)) (read_found p c.args.found c.args.v) (value_read p c.args.found c.args.v >>= λ x. got x) w (value_is_read p c.args.found c.args.v w (λ m e. c.in_default.not-Getter m e)) c.requires.0.free),
      ),
    ),
  ),
)

pub returns-in_default : goal.returns-in_default
returns-in_default g c = record {
  runs =
      let p = setting_in c.args.linked.now g.out in
      let q = c.args.s.now.frames in
      let w = world c.args.s.now g.out in
      came_same p q (settles_how c.args.how (newest q)) (read_found p c.args.found c.args.v) (value_read p c.args.found c.args.v >>= λ x. got x) w _ (value_is_read p c.args.found c.args.v w (λ m e. c.in_default.not-Getter m e)) c.read_value.ensures.runs;
  limit = search rules;
}

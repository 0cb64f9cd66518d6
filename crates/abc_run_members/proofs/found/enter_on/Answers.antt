use Rattle.std.proofs.Common.{rules, ◌∙◌, ap, subst}
use Rattle.abc_frames.specs.Frame.{newest}
use Rattle.abc_run_state.specs.Outer.{setting_in, world}
use Rattle.abc_run_state.specs.Stops.{IsOpen}
use Rattle.abc_run_state.specs.Turns.{turn_of}
use Rattle.abc_run_members.proofs.Settled.{enters_as}
use Rattle.abc_run_members.proofs.found.enter_on.Goals as goal

pub enter_owned-requires : goal.enter_owned-requires
enter_owned-requires g c = (
  record {
    set = search rules;
    known = search rules;
    free = (subst IsOpen (enters_as (setting_in c.args.linked.now g.out) c.args.method c.args.v c.args.count c.args.how (newest c.args.s.now.frames) (world c.args.s.now g.out) c.waiting-taken.result.0 c.waiting-taken.result.1 c.waiting-taken.ensures.taken c.waiting-taken.ensures.wait c.requires.0.free)
        c.requires.0.free);
  },
  search rules,
)

pub returns : goal.returns
returns g c = record {
  runs =
      let p = setting_in c.args.linked.now g.out in
      ap (turn_of p c.args.s.now.frames) (enters_as p c.args.method c.args.v c.args.count c.args.how (newest c.args.s.now.frames) (world c.args.s.now g.out) c.waiting-taken.result.0 c.waiting-taken.result.1 c.waiting-taken.ensures.taken c.waiting-taken.ensures.wait c.requires.0.free)
      ∙ c.enter_owned.ensures.runs;
  limit = search rules;
}

use Rattle.std.proofs.Common.{rules, ◌∙◌, ap, subst, sym}
use Rattle.abc_run_calls.specs.Entering.{enters_owned_above}
use Rattle.abc_frames.specs.Frame.{Frames, newest}
use Rattle.abc_frames.specs.declared.records.Wait.TheVariants.{New}
use Rattle.abc_run_state.specs.Outer.{setting_in, world}
use Rattle.abc_run_state.specs.Stops.{IsOpen}
use Rattle.abc_run_state.specs.Turns.{turn_of}
use Rattle.abc_run_members.proofs.Under.{getter_constructs, live_under, set_under, turned_under}
use Rattle.abc_run_members.proofs.found.construct_getter.Goals as goal

pub enter_owned-requires : goal.enter_owned-requires
enter_owned-requires g c = (
  record {
    set = (set_under c.args.linked.now c.args.s.now c.drop_under.new.self c.args.count c.args.under c.requires.0.set c.drop_under.ensures);
    known = search rules;
    free = (let p = setting_in c.args.linked.now g.out in
        let w = world c.args.s.now g.out in
        subst (λ (q : Frames). IsOpen (enters_owned_above p c.args.method c.args.v 0 0 (New c.args.count) (newest q) w)) (sym c.drop_under.ensures)
        (subst IsOpen (getter_constructs p c.args.method c.args.v c.args.under c.args.count (newest c.args.s.now.frames) w c.requires.0.free) c.requires.0.free));
  },
  ((live_under c.args.s.now.frames c.drop_under.new.self c.args.count c.args.under c.drop_under.ensures), search rules),
)

pub returns : goal.returns
returns g c = record {
  runs =
      let p = setting_in c.args.linked.now g.out in
      let w = world c.args.s.now g.out in
      let q = c.args.s.now.frames in
      ap (turn_of p q) (getter_constructs p c.args.method c.args.v c.args.under c.args.count (newest q) w c.requires.0.free)
      ∙ sym (turned_under p q c.args.count c.args.under _ c.requires.1.live)
      ∙ ap (λ (r : Frames). turn_of p r (enters_owned_above p c.args.method c.args.v 0 0 (New c.args.count) (newest r) w)) (sym c.drop_under.ensures)
      ∙ c.enter_owned.ensures.runs;
  limit = search rules;
}

use Rattle.std.proofs.Common.{rules, ◌∙◌, ap, subst}
use Rattle.abc_heap_values.specs.declared.values.Value.{Value}
use Rattle.abc_frames.specs.Frame.{newest}
use Rattle.abc_run_state.specs.Outer.{setting_in, world}
use Rattle.abc_run_state.specs.Stops.{IsOpen}
use Rattle.abc_run_state.specs.Turns.{turn_of}
use Rattle.abc_run_members.specs.Members.{reads_on}
use Rattle.abc_run_members.proofs.naming.read_on.Goals as goal

pub read_on_object-requires : goal.read_on_object-requires
read_on_object-requires g c = (
  record {
    set = search rules;
    known = search rules;
    free =
        let p = setting_in c.args.linked.now g.out in
        let w = world c.args.s.now g.out in
        subst (λ (v : Value). IsOpen (reads_on p v c.args.name.now c.args.how (newest c.args.s.now.frames) w)) c.in-Obj.is c.requires.0.free;
  },
  search rules,
)

pub returns-in-Obj : goal.returns-in-Obj
returns-in-Obj g c = record {
  runs =
      let p = setting_in c.args.linked.now g.out in
      let q = c.args.s.now.frames in
      let w = world c.args.s.now g.out in
      ap (λ (v : Value). turn_of p q (reads_on p v c.args.name.now c.args.how (newest q) w)) c.in-Obj.is ∙ c.read_on_object.ensures.runs;
  limit = search rules;
}

use Rattle.std.proofs.Common.{rules, ◌∙◌, ◌<◌, ap, arith, length, refl, subst, sym}
use Rattle.abc_heap_values.specs.declared.values.Value.TheVariants.{Obj}
use Rattle.abc_frames.specs.Frame.{newest}
use Rattle.abc_file_types.specs.declared.tables.Abc.{Abc}
use Rattle.abc_run_state.specs.Outer.{setting_in, world}
use Rattle.abc_run_state.specs.Stops.{IsOpen}
use Rattle.abc_run_state.specs.Turns.{turn_of}
use Rattle.abc_run_members.proofs.Started.{class_counted, initializer_is, initializes}
use Rattle.abc_run_members.proofs.classes.enter_class.Goals as goal

pub get-requires : goal.get-requires
get-requires g c = subst (λ (v : Abc). c.args.class < length v.classes) (sym c.abc.ensures) (class_counted c.args.linked.now c.linked_law.ensures c.args.class c.requires.1.1)

pub enter_owned-requires : goal.enter_owned-requires
enter_owned-requires g c =
    let l = c.args.linked.now in
    let p = setting_in l g.out in
    let is = initializer_is c.abc.result.now l.file c.args.class c.get.result.now c.abc.ensures (class_counted l c.linked_law.ensures c.args.class c.requires.1.1) c.get.ensures in (record { set = c.requires.0.set; known = c.requires.0.known; free = subst IsOpen (initializes p c.args.class c.get.result.now.cinit c.args.made (Obj c.args.made) (newest c.args.s.now.frames) (world c.args.s.now g.out) is refl) c.requires.0.free }, (c.requires.1.0.live, (omega arith, c.requires.1.0.operands)))

pub returns : goal.returns
returns g c = record {
  runs =
      let l = c.args.linked.now in
      let p = setting_in l g.out in
      let is = initializer_is c.abc.result.now l.file c.args.class c.get.result.now c.abc.ensures (class_counted l c.linked_law.ensures c.args.class c.requires.1.1) c.get.ensures in
      ap (turn_of p c.args.s.now.frames) (initializes p c.args.class c.get.result.now.cinit c.args.made (Obj c.args.made) (newest c.args.s.now.frames) (world c.args.s.now g.out) is refl) ∙ c.enter_owned.ensures.runs;
  limit = search rules;
}

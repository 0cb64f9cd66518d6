use Rattle.std.proofs.Common.{rules, ◌≡◌, ◌≢◌, ◌<◌, ◌≤◌, ◌∙◌, List, length, set, drop, get_or, ap, subst, sym, arith}
use Rattle.std.proofs.lemmas.List.{length-set}
use Rattle.std.proofs.lemmas.Result.{err_from_is_err_and}
use Rattle.abc_meaning.specs.At.{Act}
use Rattle.abc_heap_values.specs.Filling.{Filling}
use Rattle.abc_heap_values.specs.declared.values.Value.{Value}
use Rattle.abc_heap_values.specs.declared.values.Value.TheVariants.{Obj}
use Rattle.abc_run_calls.specs.Arguments.{makes_arguments}
use Rattle.abc_run_calls.proofs.Entered.{entered_on}
use Rattle.abc_run_state.proofs.Keeping.{set_stays, there_grown}
use Rattle.abc_run_state.proofs.Made.{no_array, part_is}
use Rattle.abc_objects.specs.Stands.{array_layout}
use Rattle.abc_link_names.specs.declared.part.LayoutId.{LayoutId}
use Rattle.abc_link_names.specs.declared.part.Part.TheVariants as parts
use Rattle.abc_frames.specs.Frame.{Frames, arguments as operands, newest}
use Rattle.abc_run_state.specs.Outer.{setting_in, world}
use Rattle.abc_run_state.specs.Standing.{IsSet, IsStateThere}
use Rattle.abc_run_state.specs.Stops.{IsOpen, why}
use Rattle.abc_run_state.specs.Turns.{Halts, bare_newest, turn_of}
use Rattle.abc_run_state.specs.declared.state.State.{State}
use Rattle.abc_file_types.specs.declared.tables.Abc.{Abc}
use Rattle.abc_meaning.specs.World.{Outcome}
use Rattle.abc_run_calls.proofs.Instances.{instance_full, instance_puts, maker_is, object_by}
use Rattle.abc_run_calls.proofs.making.make_instance.Goals as goal

pub make_object-requires-clause-layout : goal.make_object-requires-clause-layout
make_object-requires-clause-layout g c =
    let l = c.args.linked.now in
    subst (λ (x : LayoutId). x.0 < length l.parts) (sym c.layout_of-layout.ensures) (part_is l c.requires.0.set.over.linked (parts.Instance c.args.class) c.requires.1.1.1.1)

pub make_object-requires-clause-no_array : goal.make_object-requires-clause-no_array
make_object-requires-clause-no_array g c =
    let l = c.args.linked.now in
    subst (λ (x : LayoutId). x.0 ≢ array_layout l) (sym c.layout_of-layout.ensures) (no_array l c.requires.0.set.over.linked (parts.Instance c.args.class) c.requires.1.1.1.1 (λ q. cc))

pub returns-in_err-object : goal.returns-in_err-object
returns-in_err-object g c = record {
  runs =
      let p = setting_in c.args.linked.now g.out in
      let old = c.args.s.now in
      let mid = c.prepare.new.s in
      let new = c.make_object.new.s in
      let q = old.frames in
      let file = c.args.linked.now.file in
      let maker = maker_is file c.args.class c.get.result.now c.requires.1.1.1.1 (ap (λ (v : Abc). get_or v.instances c.args.class c.get.result.now) (sym c.abc.ensures) ∙ c.get.ensures) in
      let made = ap (λ n. makes_arguments p n (operands c.args.count (newest q)) (world old g.out)) (sym maker) ∙ c.in_ok-prepare.ensures.part in
      let full = object_by p c.args.class_object c.args.class c.layout_of-layout.result c.prototype_of-delegate.result (world mid g.out) c.layout_of-layout.ensures c.prototype_of-delegate.ensures.is ∙ c.in_err-object.ensures.part g.out in
      let e = err_from_is_err_and c.from_residual-in_err-object.result c.from_residual-in_err-object.ensures.1 in
      rw (e.1, e.2) (
      ap (turn_of p q) (instance_full p c.args.class_object c.args.class c.args.home c.args.instances c.args.count c.args.how (newest q) (drop 1 mid.given.items) (world old g.out) (world mid g.out) (world new g.out) (why c.in_err-object.field-0.0) made full)
      ∙ ap (λ (k : Frames). Halts (world new g.out) (bare_newest k) (why c.in_err-object.field-0.0)) (sym (c.in_err-object.ensures.stays.frames ∙ c.in_ok-prepare.ensures.makes.frames)));
  limit = search rules;
}

pub put_on-requires : goal.put_on-requires
put_on-requires g c =
    let l = c.args.linked.now in
    let p = setting_in l g.out in
    let old = c.args.s.now in
    let mid = c.prepare.new.s in
    let new = c.make_object.new.s in
    let q = old.frames in
    let made = c.in_ok-object.object in
    let makes = c.in_ok-prepare.ensures.makes in
    let stays = c.in_ok-object.ensures.stays in
    let same : new.frames ≡ q = stays.frames ∙ makes.frames in
    let first = ap (λ (vs : List Value). length vs) c.in_ok-prepare.ensures.given.0 in
    let some : 0 < length mid.given.items = omega (arith, first) in
    let maker = maker_is l.file c.args.class c.get.result.now c.requires.1.1.1.1 (ap (λ (v : Abc). get_or v.instances c.args.class c.get.result.now) (sym c.abc.ensures) ∙ c.get.ensures) in
    let items : c.set.new.self.items ≡ set mid.given.items 0 (Obj made) = ap (λ (f : Filling Value). f.items) c.set.ensures ∙ ap (λ (f : Filling Value). set f.items 0 (Obj made)) stays.given in
    let object = object_by p c.args.class_object c.args.class c.layout_of-layout.result c.prototype_of-delegate.result (world mid g.out) c.layout_of-layout.ensures c.prototype_of-delegate.ensures.is ∙ c.in_ok-object.ensures.part g.out in
    let is = instance_puts p c.args.class_object c.args.class c.args.home c.args.instances c.args.count c.args.how q new.frames c.get.result.now.iinit c.keeping-taken.result.0 c.keeping-taken.result.1 mid.given.items c.set.new.self.items made (world old g.out) (world mid g.out) (world new g.out)
    same maker c.keeping-taken.ensures.taken c.keeping-taken.ensures.wait some items c.in_ok-prepare.ensures.part object in
    let set1 : IsSet l mid = record { over = makes.over; frame = subst (λ (r : Frames). IsStateThere l mid.arena (newest r)) (sym makes.frames) (there_grown l old.arena mid.arena (newest q) makes.grows c.requires.0.set.frame) } in
    let set2 = set_stays l mid new stays set1 in
    let state : State = record new { given = c.set.new.self } in
    let set3 : IsSet l state = record { over = set2.over; frame = set2.frame } in
    let ready = c.requires.1.0 in
    let operands_there = ready.operands in
    let within = c.requires.1.1.0 in
    let live = subst (λ (r : Frames). 0 < length r.living) (sym same) ready.live in
    let there : c.args.count ≤ length (newest new.frames).stack = subst (λ (r : Frames). c.args.count ≤ length (newest r).stack) (sym same) (omega (arith, operands_there, within)) in
    let takes = c.keeping-taken.ensures.taken in
    let taken : c.keeping-taken.result.0 ≤ length (newest new.frames).stack = subst (λ (r : Frames). c.keeping-taken.result.0 ≤ length (newest r).stack) (sym same) (omega (arith, operands_there, takes)) in
    let many = ap (λ (vs : List Value). length vs) items ∙ length-set mid.given.items 0 (Obj made) in
    let given : 0 < length c.set.new.self.items = omega (arith, many, some) in
    let limit = ap (λ (f : Filling Value). f.limit) c.set.ensures ∙ ap (λ (f : Filling Value). f.limit) stays.given in
    let less = c.in_ok-prepare.ensures.given.1 in
    let room : length c.set.new.self.items < c.set.new.self.limit = omega (arith, many, limit, less) in
    (set3, (live, (there, (taken, (given, (room, subst (λ (o : Outcome Act). IsOpen o) is c.requires.0.free))))))

pub returns : goal.returns
returns g c = record {
  runs =
      let l = c.args.linked.now in
      let p = setting_in l g.out in
      let old = c.args.s.now in
      let mid = c.prepare.new.s in
      let new = c.make_object.new.s in
      let q = old.frames in
      let made = c.in_ok-object.object in
      let makes = c.in_ok-prepare.ensures.makes in
      let stays = c.in_ok-object.ensures.stays in
      let same : new.frames ≡ q = stays.frames ∙ makes.frames in
      let first = ap (λ (vs : List Value). length vs) c.in_ok-prepare.ensures.given.0 in
      let some : 0 < length mid.given.items = omega (arith, first) in
      let maker = maker_is l.file c.args.class c.get.result.now c.requires.1.1.1.1 (ap (λ (v : Abc). get_or v.instances c.args.class c.get.result.now) (sym c.abc.ensures) ∙ c.get.ensures) in
      let items : c.set.new.self.items ≡ set mid.given.items 0 (Obj made) = ap (λ (f : Filling Value). f.items) c.set.ensures ∙ ap (λ (f : Filling Value). set f.items 0 (Obj made)) stays.given in
      let object = object_by p c.args.class_object c.args.class c.layout_of-layout.result c.prototype_of-delegate.result (world mid g.out) c.layout_of-layout.ensures c.prototype_of-delegate.ensures.is ∙ c.in_ok-object.ensures.part g.out in
      let is = instance_puts p c.args.class_object c.args.class c.args.home c.args.instances c.args.count c.args.how q new.frames c.get.result.now.iinit c.keeping-taken.result.0 c.keeping-taken.result.1 mid.given.items c.set.new.self.items made (world old g.out) (world mid g.out) (world new g.out)
      same maker c.keeping-taken.ensures.taken c.keeping-taken.ensures.wait some items c.in_ok-prepare.ensures.part object in
      entered_on p q new.frames _ _ _ same is c.put_on.ensures.runs;
  limit = search rules;
}

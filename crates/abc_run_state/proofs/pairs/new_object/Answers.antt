use Rattle.std.proofs.Common.{rules, ◌≡◌, ◌∙◌, ◌*◌, length, ap, arith, sym}
use Rattle.std.proofs.lemmas.Result.{err_from_is_err_and}
use Rattle.abc_heap_values.specs.declared.values.Value.TheVariants.{Obj}
use Rattle.abc_frames.specs.Frame.{Frames, arguments, newest}
use Rattle.abc_meaning.specs.Newing.{set_all}
use Rattle.abc_run_state.specs.Outer.{setting_in, world}
use Rattle.abc_run_state.specs.Stops.{why}
use Rattle.abc_run_state.specs.Makers.{make_object}
use Rattle.abc_run_state.specs.Pairs.{pairs_at}
use Rattle.abc_run_state.proofs.Keeping.{ready_with, set_stays}
use Rattle.abc_run_state.proofs.Paired.{making_stops, names_stop, object_is_made, putting_stops, spelled_drop}
use Rattle.abc_run_state.proofs.Pushing.{pushes_over, pushes_stopped_over}
use Rattle.abc_run_state.proofs.pairs.new_object.Goals as goal

pub make_of_host-requires-clause-no_array : goal.make_of_host-requires-clause-no_array
make_of_host-requires-clause-no_array g c = λ q. cc

pub put_all-requires-clause-set : goal.put_all-requires-clause-set
put_all-requires-clause-set g c = set_stays c.args.linked.now c.spell_names.new.s c.make_of_host.new.s c.in_ok-made.ensures.stays c.in_ok-spell_names.ensures.set

pub put_all-requires-clause-operands : goal.put_all-requires-clause-operands
put_all-requires-clause-operands g c =
    let e : length (newest c.make_of_host.new.s.frames).stack ≡ length (newest c.spell_names.new.s.frames).stack = ap (λ (q : Frames). length (newest q).stack) c.in_ok-made.ensures.stays.frames in
    omega (arith, e, c.in_ok-spell_names.ensures.long, c.requires.1.0.operands)

pub finish-requires : goal.finish-requires
finish-requires g c = ready_with c.args.s.now.frames c.put_all.new.s.frames (2 * c.args.pairs) 1 (newest c.spell_names.new.s.frames).stack c.requires.1.0 c.in_ok-spell_names.ensures.long (c.in_ok-put_all.ensures.stays.frames ∙ c.in_ok-made.ensures.stays.frames ∙ c.in_ok-spell_names.ensures.frames)

pub returns : goal.returns
returns g c = record {
  runs =
      let p = setting_in c.args.linked.now g.out in
      let q = c.args.s.now.frames in
      let w = world c.args.s.now g.out in
      let a = world c.spell_names.new.s g.out in
      let n = c.args.pairs in
      let vs = (newest q).stack in
      let ws = (newest c.spell_names.new.s.frames).stack in
      let m = make_object p (arguments (2 * n) (newest q)) in
      let made = c.in_ok-made.made in
      let same = ap (λ (r : Frames). (newest r).stack) c.in_ok-made.ensures.stays.frames in
      pushes_over p q c.put_all.new.s.frames c.finish.new.frames (2 * n) ws m w (world c.put_all.new.s g.out) (Obj made)
      (object_is_made p n vs ws w a (world c.make_of_host.new.s g.out) (world c.put_all.new.s g.out) made c.requires.1.0.operands c.in_ok-spell_names.ensures.part (c.in_ok-made.ensures.part g.out)
      (ap (λ xs. set_all p made (pairs_at n xs) (world c.make_of_host.new.s g.out)) (sym same) ∙ c.in_ok-put_all.ensures.part g.out))
      (spelled_drop p n vs ws w a c.in_ok-spell_names.ensures.part)
      (c.in_ok-put_all.ensures.stays.frames ∙ c.in_ok-made.ensures.stays.frames ∙ c.in_ok-spell_names.ensures.frames) c.finish.ensures;
  limit = search rules;
}

pub returns-in_err-spell_names : goal.returns-in_err-spell_names
returns-in_err-spell_names g c = record {
  runs =
      let p = setting_in c.args.linked.now g.out in
      let q = c.args.s.now.frames in
      let w = world c.args.s.now g.out in
      let n = c.args.pairs in
      let m = make_object p (arguments (2 * n) (newest q)) in
      let s = c.in_err-spell_names.field-0.0 in
      let new = world c.spell_names.new.s g.out in
      let e = err_from_is_err_and c.from_residual.result c.from_residual.ensures.1 in
      rw (e.1, e.2) (pushes_stopped_over p q c.spell_names.new.s.frames (2 * n) (newest c.spell_names.new.s.frames).stack m w new s (names_stop p n (newest q).stack w new (why s) c.requires.1.0.operands c.in_err-spell_names.ensures.part) c.in_err-spell_names.ensures.frames);
  limit = search rules;
}

pub returns-in_err-made : goal.returns-in_err-made
returns-in_err-made g c = record {
  runs =
      let p = setting_in c.args.linked.now g.out in
      let q = c.args.s.now.frames in
      let w = world c.args.s.now g.out in
      let a = world c.spell_names.new.s g.out in
      let n = c.args.pairs in
      let ws = (newest c.spell_names.new.s.frames).stack in
      let m = make_object p (arguments (2 * n) (newest q)) in
      let s = c.in_err-made.field-0.0 in
      let new = world c.make_of_host.new.s g.out in
      let e = err_from_is_err_and c.from_residual-in_err-made.result c.from_residual-in_err-made.ensures.1 in
      rw (e.1, e.2) (pushes_stopped_over p q c.make_of_host.new.s.frames (2 * n) ws m w new s
      (making_stops p n (newest q).stack ws w a new (why s) c.requires.1.0.operands c.in_ok-spell_names.ensures.part (c.in_err-made.ensures.part g.out))
      (c.in_err-made.ensures.stays.frames ∙ c.in_ok-spell_names.ensures.frames));
  limit = search rules;
}

pub returns-in_err-put_all : goal.returns-in_err-put_all
returns-in_err-put_all g c = record {
  runs =
      let p = setting_in c.args.linked.now g.out in
      let q = c.args.s.now.frames in
      let w = world c.args.s.now g.out in
      let a = world c.spell_names.new.s g.out in
      let n = c.args.pairs in
      let ws = (newest c.spell_names.new.s.frames).stack in
      let m = make_object p (arguments (2 * n) (newest q)) in
      let s = c.in_err-put_all.field-0.0 in
      let new = world c.put_all.new.s g.out in
      let made = c.in_ok-made.made in
      let same = ap (λ (r : Frames). (newest r).stack) c.in_ok-made.ensures.stays.frames in
      let e = err_from_is_err_and c.from_residual-in_err-put_all.result c.from_residual-in_err-put_all.ensures.1 in
      rw (e.1, e.2) (pushes_stopped_over p q c.put_all.new.s.frames (2 * n) ws m w new s
      (putting_stops p n (newest q).stack ws w a (world c.make_of_host.new.s g.out) new made (why s) c.requires.1.0.operands c.in_ok-spell_names.ensures.part (c.in_ok-made.ensures.part g.out)
      (ap (λ xs. set_all p made (pairs_at n xs) (world c.make_of_host.new.s g.out)) (sym same) ∙ c.in_err-put_all.ensures.part g.out))
      (c.in_err-put_all.ensures.stays.frames ∙ c.in_ok-made.ensures.stays.frames ∙ c.in_ok-spell_names.ensures.frames));
  limit = search rules;
}

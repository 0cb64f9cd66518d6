use Rattle.std.proofs.Common.{rules, ◌≡◌, ◌≤◌, ◌∷◌, ◌++◌, ◌∙◌, List, length, drop, ap, subst, sym}
use Rattle.std.proofs.lemmas.Result.{err_from_is_err_and}
use Rattle.abc_heap_values.specs.Filling.{Filling}
use Rattle.abc_heap_values.specs.declared.values.Value.{Value}
use Rattle.abc_frames.specs.Frame.{newest}
use Rattle.abc_frames.specs.declared.records.Entry.{Entry}
use Rattle.abc_run_state.specs.Outer.{setting_in, world}
use Rattle.abc_run_state.specs.Stops.{why}
use Rattle.abc_run_state.specs.Turns.{Halts, bare_newest, turn_of}
use Rattle.abc_run_calls.specs.Arguments.{list_of, first_receiver}
use Rattle.abc_run_calls.specs.Entering.{place_in_meaning, puts_on}
use Rattle.abc_run_calls.proofs.Putting.{puts_fits, puts_is, puts_stops, split_first, topped_full, topped_on}
use Rattle.abc_run_calls.proofs.entering.put_on.Goals as goal

pub returns-in_err-array : goal.returns-in_err-array
returns-in_err-array g c = record {
  runs =
      let p = setting_in c.args.linked.now g.out in
      let s = c.args.s.now in
      let q = s.frames in
      let items = s.given.items in
      let after = world c.array_of.new.s g.out in
      let e = err_from_is_err_and c.from_residual.result c.from_residual.ensures.1 in
      rw (e.1, e.2) (
      ap (turn_of p q) (puts_stops p c.args.method (place_in_meaning c.args.at) (first_receiver items) (drop 1 items) c.args.count c.args.taken c.args.wait (newest q) c.method_at.result.now (world s g.out) after (why c.in_err-array.field-0.0) c.method_at.ensures (c.in_err-array.ensures.part g.out) c.requires.1.1.1.1.1.1)
      ∙ ap (λ k. Halts after (bare_newest k) (why c.in_err-array.field-0.0)) (sym c.in_err-array.ensures.stays.frames));
  limit = search rules;
}

pub try_enter_with-requires-clause-locals : goal.try_enter_with-requires-clause-locals
try_enter_with-requires-clause-locals g c =
    let p = setting_in c.args.linked.now g.out in
    let s = c.args.s.now in
    let was = s.given.items in
    let array = list_of c.in_ok-array.array in
    let items : c.as_slice.result.now ≡ first_receiver was ∷ (drop 1 was ++ array) =
    c.as_slice.ensures ∙ ap (λ (f : Filling Value). f.items) c.give.ensures ∙ ap (λ (f : Filling Value). f.items ++ array) c.in_ok-array.ensures.stays.given ∙ split_first was array c.requires.1.1.1.1.0 in
    let fits = puts_fits p c.args.method (place_in_meaning c.args.at) (first_receiver was) (drop 1 was) array c.args.count c.args.taken c.args.wait (newest s.frames) c.method_at.result.now (world s g.out) (world c.array_of.new.s g.out) c.method_at.ensures (c.in_ok-array.ensures.part g.out) c.requires.1.1.1.1.1.1 in
    subst (λ (vs : List Value). length vs ≤ c.entry_of-entry.result.size.locals) (sym items)
    (subst (λ (x : Entry). length (first_receiver was ∷ (drop 1 was ++ array)) ≤ x.size.locals) (sym (c.entry_of-entry.ensures g.out)) fits)

pub returns-in_err-try_enter_with : goal.returns-in_err-try_enter_with
returns-in_err-try_enter_with g c = record {
  runs =
      let p = setting_in c.args.linked.now g.out in
      let s = c.args.s.now in
      let q = s.frames in
      let was = s.given.items in
      let at = place_in_meaning c.args.at in
      let array = list_of c.in_ok-array.array in
      let after = world c.array_of.new.s g.out in
      let e = err_from_is_err_and c.from_residual-in_err-try_enter_with.result c.from_residual-in_err-try_enter_with.ensures.1 in
      let o = puts_on p c.args.method at (first_receiver was) (drop 1 was) c.args.count c.args.taken c.args.wait (newest q) (world s g.out) in
      rw (e.1, e.2) (
      topped_full p c.args.method at (first_receiver was ∷ (drop 1 was ++ array)) c.args.taken c.args.wait after q c.array_of.new.s.frames c.try_enter_with.new.frames c.entry_of-entry.result o c.in_err-try_enter_with.field-0.0
      (puts_is p c.args.method at (first_receiver was) (drop 1 was) array c.args.count c.args.taken c.args.wait (newest q) c.method_at.result.now (world s g.out) after c.method_at.ensures (c.in_ok-array.ensures.part g.out) c.requires.1.1.1.1.1.1)
      c.in_ok-array.ensures.stays.frames (c.entry_of-entry.ensures g.out) c.in_err-try_enter_with.ensures.room c.in_err-try_enter_with.ensures.err);
  limit = search rules;
}

pub returns : goal.returns
returns g c = record {
  runs =
      let p = setting_in c.args.linked.now g.out in
      let s = c.args.s.now in
      let q = s.frames in
      let was = s.given.items in
      let at = place_in_meaning c.args.at in
      let array = list_of c.in_ok-array.array in
      let after = world c.array_of.new.s g.out in
      let o = puts_on p c.args.method at (first_receiver was) (drop 1 was) c.args.count c.args.taken c.args.wait (newest q) (world s g.out) in
      let items : c.as_slice.result.now ≡ first_receiver was ∷ (drop 1 was ++ array) =
      c.as_slice.ensures ∙ ap (λ (f : Filling Value). f.items) c.give.ensures ∙ ap (λ (f : Filling Value). f.items ++ array) c.in_ok-array.ensures.stays.given ∙ split_first was array c.requires.1.1.1.1.0 in
      topped_on p c.args.method at (first_receiver was ∷ (drop 1 was ++ array)) c.as_slice.result.now c.args.taken c.args.wait after q c.array_of.new.s.frames c.try_enter_with.new.frames c.entry_of-entry.result o tt
      (puts_is p c.args.method at (first_receiver was) (drop 1 was) array c.args.count c.args.taken c.args.wait (newest q) c.method_at.result.now (world s g.out) after c.method_at.ensures (c.in_ok-array.ensures.part g.out) c.requires.1.1.1.1.1.1)
      c.in_ok-array.ensures.stays.frames (c.entry_of-entry.ensures g.out) items c.in_ok-try_enter_with.ensures.room c.in_ok-try_enter_with.ensures.ok;
  limit = search rules;
}

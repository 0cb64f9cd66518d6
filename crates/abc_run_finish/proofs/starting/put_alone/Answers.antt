use Rattle.std.proofs.Common.{◌≡◌, ◌≤◌, ◌∷◌, ◌++◌, ◌∙◌, List, length, drop, ap, subst, sym}
use Rattle.std.proofs.lemmas.Result.{err_from_is_err_and}
use Rattle.abc_heap_values.specs.Filling.{Filling}
use Rattle.abc_heap_values.specs.declared.values.Value.{Value}
use Rattle.abc_run_calls.specs.Arguments.{list_of, first_receiver}
use Rattle.abc_run_calls.specs.Entering.{place_in_meaning}
use Rattle.abc_frames.specs.declared.records.Entry.{Entry}
use Rattle.abc_run_state.specs.Outer.{setting_in, world}
use Rattle.abc_run_state.specs.Stops.{why}
use Rattle.abc_run_finish.specs.Starting.{frames_alone}
use Rattle.abc_run_finish.proofs.Started.{alone_fits, alone_is, alone_stops, begins_full, begins_on, begins_stops, split_first}
use Rattle.abc_run_finish.proofs.starting.put_alone.Goals as goal

pub returns-in_err-array-clause-begins : goal.returns-in_err-array-clause-begins
returns-in_err-array-clause-begins g c =
    let p = setting_in c.args.linked.now g.out in
    let s = c.args.s.now in
    let items = s.given.items in
    let at = place_in_meaning c.args.at in
    let w = world s g.out in
    let after = world c.array_for.new.s g.out in
    let reason = why c.in_err-array.field-0.0 in
    let e = err_from_is_err_and c.from_residual.result c.from_residual.ensures.1 in
    rw (e.1, e.2) (
    begins_stops p after s.frames c.array_for.new.s.frames (frames_alone p c.args.method at (first_receiver items) (drop 1 items) c.args.args.now w) reason
    (alone_stops p c.args.method at (first_receiver items) (drop 1 items) c.args.args.now c.method_at.result.now w c.method_at.ensures c.requires.1.1.1.1.1 after reason (c.in_err-array.ensures.part g.out)) c.in_err-array.ensures.stays.frames)

pub try_start-requires-clause-locals : goal.try_start-requires-clause-locals
try_start-requires-clause-locals g c =
    let p = setting_in c.args.linked.now g.out in
    let s = c.args.s.now in
    let was = s.given.items in
    let array = list_of c.in_ok-array.array in
    let items : c.as_slice.result.now ≡ first_receiver was ∷ (drop 1 was ++ array) =
    c.as_slice.ensures ∙ ap (λ (f : Filling Value). f.items) c.give.ensures ∙ ap (λ (f : Filling Value). f.items ++ array) c.in_ok-array.ensures.stays.given ∙ split_first was array c.requires.1.1.1.0 in
    let fits = alone_fits p c.args.method (place_in_meaning c.args.at) (first_receiver was) (drop 1 was) c.args.args.now c.method_at.result.now (world s g.out) c.method_at.ensures c.requires.1.1.1.1.1 array (world c.array_for.new.s g.out) (c.in_ok-array.ensures.part g.out) in
    subst (λ (vs : List Value). length vs ≤ c.entry_of-entry.result.size.locals) (sym items)
    (subst (λ (x : Entry). length (first_receiver was ∷ (drop 1 was ++ array)) ≤ x.size.locals) (sym (c.entry_of-entry.ensures g.out)) fits)

pub returns-in_err-try_start-clause-begins : goal.returns-in_err-try_start-clause-begins
returns-in_err-try_start-clause-begins g c =
    let p = setting_in c.args.linked.now g.out in
    let s = c.args.s.now in
    let was = s.given.items in
    let at = place_in_meaning c.args.at in
    let array = list_of c.in_ok-array.array in
    let w = world s g.out in
    let after = world c.array_for.new.s g.out in
    let e = err_from_is_err_and c.from_residual-in_err-try_start.result c.from_residual-in_err-try_start.ensures.1 in
    let o = frames_alone p c.args.method at (first_receiver was) (drop 1 was) c.args.args.now w in
    rw (e.1, e.2) (
    begins_full p c.args.method at (first_receiver was ∷ (drop 1 was ++ array)) after s.frames c.array_for.new.s.frames c.try_start.new.frames c.entry_of-entry.result o c.in_err-try_start.field-0.0
    (alone_is p c.args.method at (first_receiver was) (drop 1 was) c.args.args.now c.method_at.result.now w c.method_at.ensures c.requires.1.1.1.1.1 array after (c.in_ok-array.ensures.part g.out))
    c.in_ok-array.ensures.stays.frames (c.entry_of-entry.ensures g.out) c.in_err-try_start.ensures.room c.in_err-try_start.ensures.err)

pub returns-clause-begins : goal.returns-clause-begins
returns-clause-begins g c =
    let p = setting_in c.args.linked.now g.out in
    let s = c.args.s.now in
    let was = s.given.items in
    let at = place_in_meaning c.args.at in
    let array = list_of c.in_ok-array.array in
    let w = world s g.out in
    let after = world c.array_for.new.s g.out in
    let o = frames_alone p c.args.method at (first_receiver was) (drop 1 was) c.args.args.now w in
    let items : c.as_slice.result.now ≡ first_receiver was ∷ (drop 1 was ++ array) =
    c.as_slice.ensures ∙ ap (λ (f : Filling Value). f.items) c.give.ensures ∙ ap (λ (f : Filling Value). f.items ++ array) c.in_ok-array.ensures.stays.given ∙ split_first was array c.requires.1.1.1.0 in
    begins_on p c.args.method at (first_receiver was ∷ (drop 1 was ++ array)) c.as_slice.result.now after s.frames c.array_for.new.s.frames c.try_start.new.frames c.entry_of-entry.result o tt
    (alone_is p c.args.method at (first_receiver was) (drop 1 was) c.args.args.now c.method_at.result.now w c.method_at.ensures c.requires.1.1.1.1.1 array after (c.in_ok-array.ensures.part g.out))
    c.in_ok-array.ensures.stays.frames (c.entry_of-entry.ensures g.out) items c.in_ok-try_start.ensures.room c.in_ok-try_start.ensures.ok

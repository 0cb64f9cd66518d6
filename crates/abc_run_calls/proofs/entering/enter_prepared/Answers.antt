use Rattle.std.proofs.Common.{◌<◌, ◌≤◌, List, length, ap, subst, sym, arith}
use Rattle.abc_meaning.specs.At.{Act}
use Rattle.abc_heap_values.specs.declared.values.Value.{Value}
use Rattle.abc_run_state.proofs.Keeping.{there_grown}
use Rattle.abc_frames.specs.Frame.{Frames, newest}
use Rattle.abc_run_state.specs.Outer.{setting_in, world}
use Rattle.abc_run_state.specs.Standing.{IsSet, IsStateThere}
use Rattle.abc_run_state.specs.Stops.{IsOpen}
use Rattle.abc_meaning.specs.World.{Outcome}
use Rattle.abc_run_calls.specs.Entering.{place_in_meaning}
use Rattle.abc_run_calls.proofs.Entered.{entered_is}
use Rattle.abc_run_calls.proofs.entering.enter_prepared.Goals as goal

pub put_on-requires : goal.put_on-requires
put_on-requires g c =
    let l = c.args.linked.now in
    let p = setting_in l g.out in
    let old = c.args.s.now in
    let mid = c.prepare.new.s in
    let makes = c.in_ok-prepare.ensures.makes in
    let first = c.in_ok-prepare.ensures.given.0 in
    let many = ap (λ (vs : List Value). length vs) first in
    let set : IsSet l mid = record { over = makes.over; frame = subst (λ (q : Frames). IsStateThere l mid.arena (newest q)) (sym makes.frames) (there_grown l old.arena mid.arena (newest old.frames) makes.grows c.requires.0.set.frame) } in
    let live = subst (λ (q : Frames). 0 < length q.living) (sym makes.frames) c.requires.1.0 in
    let there = subst (λ (q : Frames). c.args.count ≤ length (newest q).stack) (sym makes.frames) c.requires.1.1.0 in
    let taken = subst (λ (q : Frames). c.args.taken ≤ length (newest q).stack) (sym makes.frames) c.requires.1.1.1 in
    let given : 0 < length mid.given.items = omega (arith, many) in
    let free = subst (λ (o : Outcome Act). IsOpen o) (entered_is p c.args.method c.args.this (place_in_meaning c.args.at) mid.given.items c.args.count c.args.taken c.args.wait old.frames mid.frames (world old g.out) (world mid g.out) makes.frames first c.in_ok-prepare.ensures.part) c.requires.0.free in
    (set, (live, (there, (taken, (given, (c.in_ok-prepare.ensures.given.1, free))))))

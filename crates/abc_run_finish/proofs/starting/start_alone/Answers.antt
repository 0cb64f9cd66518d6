use Rattle.std.proofs.Common.{◌<◌, ◌≤◌, ◌∙◌, List, [], length, drop, get_or, ap, subst, sym, arith}
use Rattle.std.specs.Prelude.{None}
use Rattle.std.proofs.lemmas.Result.{err_from_is_err_and}
use Rattle.abc_heap_values.specs.declared.values.Value.{Value}
use Rattle.abc_run_calls.proofs.Bodied.{init_is}
use Rattle.abc_run_calls.specs.Arguments.{first_receiver}
use Rattle.abc_frames.specs.Frame.{Frame, Frames, newest}
use Rattle.abc_run_state.specs.Outer.{setting_in, world}
use Rattle.abc_run_state.specs.Standing.{IsSet}
use Rattle.abc_run_state.specs.Stops.{IsOpen, why}
use Rattle.abc_meaning.specs.Objects.{place}
use Rattle.abc_meaning.specs.Entering.{starts_script}
use Rattle.abc_meaning.specs.World.{Outcome}
use Rattle.abc_run_state.specs.declared.state.State.{State}
use Rattle.abc_file_types.specs.declared.tables.Abc.{Abc}
use Rattle.abc_run_finish.specs.Starting.{begins, frames_alone}
use Rattle.abc_run_finish.proofs.Started.{begins_stops, none_there, start_is, start_open, start_stops}
use Rattle.abc_run_finish.proofs.starting.start_alone.Goals as goal

pub prepare-requires : goal.prepare-requires
prepare-requires g c =
    let l = c.args.linked.now in
    let p = setting_in l g.out in
    let s = c.args.s.now in
    let w = world s g.out in
    let script = c.requires.1.1.1.0 in
    let init = init_is l.file c.args.script c.get.result.now script (ap (λ (v : Abc). get_or v.scripts c.args.script c.get.result.now) (sym c.abc.ensures) ∙ c.get.ensures) in
    let s1 : State = record s { started = c.set.new.self } in
    let some : 0 < length l.file.scripts = omega (arith, script) in
    let set : IsSet l s1 = record { over = c.requires.0; frame = none_there l s.arena s.frames c.requires.1.0 some } in
    let none : 0 ≤ length (newest s.frames).stack = omega arith in
    (set, (c.requires.1.1.0, (none, start_open p c.args.script w c.set.new.self c.global_of-this.result c.get.result.now.init c.set.ensures (c.global_of-this.ensures.is g.out) init c.requires.1.1.1.1.1)))

pub returns-in_err-prepare-clause-begins : goal.returns-in_err-prepare-clause-begins
returns-in_err-prepare-clause-begins g c =
    let l = c.args.linked.now in
    let p = setting_in l g.out in
    let s = c.args.s.now in
    let w = world s g.out in
    let after = world c.prepare.new.s g.out in
    let reason = why c.in_err-prepare.field-0.0 in
    let init = init_is l.file c.args.script c.get.result.now c.requires.1.1.1.0 (ap (λ (v : Abc). get_or v.scripts c.args.script c.get.result.now) (sym c.abc.ensures) ∙ c.get.ensures) in
    let e = err_from_is_err_and c.from_residual.result c.from_residual.ensures.1 in
    rw (e.1, e.2) (
    begins_stops p after s.frames c.prepare.new.s.frames (starts_script p c.args.script w) reason
    (start_stops p c.args.script w c.set.new.self c.global_of-this.result c.get.result.now.init c.set.ensures (c.global_of-this.ensures.is g.out) init after reason c.in_err-prepare.ensures.part) c.in_err-prepare.ensures.makes.frames)

pub put_alone-requires : goal.put_alone-requires
put_alone-requires g c =
    let l = c.args.linked.now in
    let p = setting_in l g.out in
    let s = c.args.s.now in
    let w = world s g.out in
    let mid = c.prepare.new.s in
    let makes = c.in_ok-prepare.ensures.makes in
    let first = c.in_ok-prepare.ensures.given.0 in
    let many = ap (λ (vs : List Value). length vs) first in
    let given : 0 < length mid.given.items = omega (arith, many) in
    let init = init_is l.file c.args.script c.get.result.now c.requires.1.1.1.0 (ap (λ (v : Abc). get_or v.scripts c.args.script c.get.result.now) (sym c.abc.ensures) ∙ c.get.ensures) in
    let is = start_is p c.args.script w c.set.new.self c.global_of-this.result c.get.result.now.init c.set.ensures (c.global_of-this.ensures.is g.out) init mid.given.items (world mid g.out) first c.in_ok-prepare.ensures.part in
    (makes.over, (λ k v at. absurd cc, (ap (λ (k : Frames). k.living) makes.frames ∙ c.requires.1.0, (given, (c.in_ok-prepare.ensures.given.1, subst (λ (o : Outcome Frame). IsOpen o) is c.requires.1.1.1.1.1)))))

pub returns-clause-begins : goal.returns-clause-begins
returns-clause-begins g c =
    let l = c.args.linked.now in
    let p = setting_in l g.out in
    let s = c.args.s.now in
    let w = world s g.out in
    let mid = c.prepare.new.s in
    let items = mid.given.items in
    let first = c.in_ok-prepare.ensures.given.0 in
    let init = init_is l.file c.args.script c.get.result.now c.requires.1.1.1.0 (ap (λ (v : Abc). get_or v.scripts c.args.script c.get.result.now) (sym c.abc.ensures) ∙ c.get.ensures) in
    let is = start_is p c.args.script w c.set.new.self c.global_of-this.result c.get.result.now.init c.set.ensures (c.global_of-this.ensures.is g.out) init items (world mid g.out) first c.in_ok-prepare.ensures.part in
    let o : Outcome Frame = frames_alone p c.get.result.now.init (place c.args.script None) (first_receiver items) (drop 1 items) [] (world mid g.out) in
    ap (begins p s.frames) is ∙ ap (λ (k : Frames). begins p k o) (sym c.in_ok-prepare.ensures.makes.frames) ∙ c.put_alone.ensures.begins

use Rattle.std.proofs.Common.{◌<◌, ◌∙◌, List, length, drop, ap, subst, sym, arith}
use Rattle.std.proofs.lemmas.Result.{err_from_is_err_and}
use Rattle.abc_heap_values.specs.declared.values.Value.{Value}
use Rattle.abc_run_calls.specs.Arguments.{first_receiver}
use Rattle.abc_run_calls.specs.Entering.{place_in_meaning}
use Rattle.abc_run_finish.proofs.Started.{begins_stops}
use Rattle.abc_run_finish.specs.Starting.{begins, frames_alone}
use Rattle.abc_run_state.proofs.Keeping.{each_grown}
use Rattle.abc_link_names.specs.declared.types.Owner.{Owner}
use Rattle.abc_frames.specs.Frame.{Frame, Frames}
use Rattle.abc_run_state.specs.Outer.{setting_in, world}
use Rattle.abc_run_state.specs.Stops.{IsOpen, why}
use Rattle.abc_meaning.specs.Objects.{place_of_owner}
use Rattle.abc_meaning.specs.World.{Outcome}
use Rattle.abc_run_finish.proofs.Begun.{last_alone, last_open, last_stops, place_open}
use Rattle.abc_run_finish.specs.Calling.{enters_last}
use Rattle.abc_run_finish.proofs.calling.enter_alone.Goals as goal

pub place_of_owner-at-requires : goal.place_of_owner-at-requires
place_of_owner-at-requires g c =
    let p = setting_in c.args.linked.now g.out in
    let w = world c.args.s.now g.out in
    (c.requires.0, subst (λ (o : Owner). IsOpen (place_of_owner o w)) (sym c.owner.ensures) (place_open p c.args.method c.args.args.now w c.requires.1.1.1.1.1.1.1))

pub prepare-requires : goal.prepare-requires
prepare-requires g c =
    let p = setting_in c.args.linked.now g.out in
    let w = world c.args.s.now g.out in
    let at = place_in_meaning c.place_of_owner-at.result in
    let place = ap (λ (o : Owner). place_of_owner o w) (sym c.owner.ensures) ∙ c.place_of_owner-at.ensures in
    (c.requires.0, (c.requires.1.0, (c.requires.1.1.0, (c.requires.1.1.1.1.0, last_open p c.args.method c.args.args.now w c.last_global-this.result at (c.last_global-this.ensures g.out) place c.requires.1.1.1.1.1.1.1))))

pub returns-in_err-prepare-clause-begins : goal.returns-in_err-prepare-clause-begins
returns-in_err-prepare-clause-begins g c =
    let p = setting_in c.args.linked.now g.out in
    let s = c.args.s.now in
    let w = world s g.out in
    let m = c.args.method in
    let given = c.args.args.now in
    let at = place_in_meaning c.place_of_owner-at.result in
    let place = ap (λ (o : Owner). place_of_owner o w) (sym c.owner.ensures) ∙ c.place_of_owner-at.ensures in
    let after = world c.prepare.new.s g.out in
    let reason = why c.in_err-prepare.field-0.0 in
    let e = err_from_is_err_and c.from_residual.result c.from_residual.ensures.1 in
    rw (e.1, e.2) (
    begins_stops p after s.frames c.prepare.new.s.frames (enters_last p m given w) reason
    (last_stops p m given w c.last_global-this.result at (c.last_global-this.ensures g.out) place after reason c.in_err-prepare.ensures.part) c.in_err-prepare.ensures.makes.frames)

pub put_alone-requires : goal.put_alone-requires
put_alone-requires g c =
    let l = c.args.linked.now in
    let p = setting_in l g.out in
    let s = c.args.s.now in
    let w = world s g.out in
    let m = c.args.method in
    let given = c.args.args.now in
    let at = place_in_meaning c.place_of_owner-at.result in
    let place = ap (λ (o : Owner). place_of_owner o w) (sym c.owner.ensures) ∙ c.place_of_owner-at.ensures in
    let mid = c.prepare.new.s in
    let makes = c.in_ok-prepare.ensures.makes in
    let first = c.in_ok-prepare.ensures.given.0 in
    let many = ap (λ (vs : List Value). length vs) first in
    let some : 0 < length mid.given.items = omega (arith, many) in
    let is = last_alone p m given w c.last_global-this.result at (c.last_global-this.ensures g.out) place mid.given.items (world mid g.out) first c.in_ok-prepare.ensures.part in
    (makes.over, (each_grown l s.arena mid.arena given makes.grows c.requires.1.0, (ap (λ (k : Frames). k.living) makes.frames ∙ c.requires.1.1.1.0, (some, (c.in_ok-prepare.ensures.given.1, subst (λ (o : Outcome Frame). IsOpen o) is c.requires.1.1.1.1.1.1.1)))))

pub returns-clause-begins : goal.returns-clause-begins
returns-clause-begins g c =
    let p = setting_in c.args.linked.now g.out in
    let s = c.args.s.now in
    let w = world s g.out in
    let m = c.args.method in
    let given = c.args.args.now in
    let at = place_in_meaning c.place_of_owner-at.result in
    let place = ap (λ (o : Owner). place_of_owner o w) (sym c.owner.ensures) ∙ c.place_of_owner-at.ensures in
    let mid = c.prepare.new.s in
    let items = mid.given.items in
    let is = last_alone p m given w c.last_global-this.result at (c.last_global-this.ensures g.out) place items (world mid g.out) c.in_ok-prepare.ensures.given.0 c.in_ok-prepare.ensures.part in
    let o : Outcome Frame = frames_alone p m at (first_receiver items) (drop 1 items) given (world mid g.out) in
    ap (begins p s.frames) is ∙ ap (λ (k : Frames). begins p k o) (sym c.in_ok-prepare.ensures.makes.frames) ∙ c.put_alone.ensures.begins

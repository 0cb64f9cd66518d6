use Rattle.std.proofs.Common.{◌≤◌, ◌∙◌, ap, subst, arith}
use Rattle.abc_run_state.specs.Outer.{setting_in, world}
use Rattle.abc_run_state.specs.Turns.{Turned}
use Rattle.abc_run_finish.specs.Fairly.{IsFairTurn}
use Rattle.abc_run_finish.specs.Steps.{step_of_turn}
use Rattle.abc_run_finish.proofs.Returned.{makes_is, makes_open, makes_turn}
use Rattle.abc_run_finish.proofs.Stepped.{can_stop}
use Rattle.abc_run_finish.proofs.returning.make_of.Goals as goal

pub make-requires : goal.make-requires
make-requires g c =
    let p = setting_in c.args.linked.now g.out in
    let s = c.args.s.now in
    let ready = c.requires.1.1.1.0 in
    let held = c.requires.1.1.1.1.0 in
    let value = c.requires.1.1.1.1.1.0 in
    let this = c.requires.1.1.1.1.1.1.0 in
    let fair = c.requires.1.1.1.1.1.1.1.0 in
    let most : c.args.count ≤ c.args.count = omega arith in (record { set = c.requires.1.1.0; known = c.requires.0; free = makes_open p s.frames c.args.v c.args.count (world s g.out) held this ready.live fair }, (ready, (most, value)))

pub stopped-requires : goal.stopped-requires
stopped-requires g c =
    let l = c.args.linked.now in
    let p = setting_in l g.out in
    let s = c.args.s.now in
    let r = c.requires.1.1.1 in
    let turn = makes_turn p s.frames c.args.v c.args.count (world s g.out) r.1.0 r.1.1.1.0 r.0.live r.1.1.1.1.0 r.1.1.1.1.1 in
    let can = can_stop l g.out c.make.new.s c.in-Err.stop (subst (λ (t : Turned). IsFairTurn p t) c.in-Err.ensures.runs turn) in
    (can.over, (c.requires.1.0, (can.value, (can.sized, can.free))))

pub returns-in-Ok-clause-step : goal.returns-in-Ok-clause-step
returns-in-Ok-clause-step g c =
    let p = setting_in c.args.linked.now g.out in
    let s = c.args.s.now in
    let r = c.requires.1.1.1 in
    makes_is p s.frames c.args.v c.args.count (world s g.out) r.1.0 r.1.1.1.0 r.0.live r.1.1.1.1.0 ∙ ap (step_of_turn p) c.in-Ok.ensures.runs

pub returns-in-Ok-clause-sized : goal.returns-in-Ok-clause-sized
returns-in-Ok-clause-sized g c =
    let p = setting_in c.args.linked.now g.out in
    let s = c.args.s.now in
    let r = c.requires.1.1.1 in
    let turn = makes_turn p s.frames c.args.v c.args.count (world s g.out) r.1.0 r.1.1.1.0 r.0.live r.1.1.1.1.0 r.1.1.1.1.1 in
    (subst (λ (t : Turned). IsFairTurn p t) c.in-Ok.ensures.runs turn).held.sized

pub returns-in-Err-clause-step : goal.returns-in-Err-clause-step
returns-in-Err-clause-step g c =
    let l = c.args.linked.now in
    let p = setting_in l g.out in
    let s = c.args.s.now in
    let r = c.requires.1.1.1 in
    let turn = makes_turn p s.frames c.args.v c.args.count (world s g.out) r.1.0 r.1.1.1.0 r.0.live r.1.1.1.1.0 r.1.1.1.1.1 in
    let can = can_stop l g.out c.make.new.s c.in-Err.stop (subst (λ (t : Turned). IsFairTurn p t) c.in-Err.ensures.runs turn) in
    makes_is p s.frames c.args.v c.args.count (world s g.out) r.1.0 r.1.1.1.0 r.0.live r.1.1.1.1.0 ∙ ap (step_of_turn p) c.in-Err.ensures.runs ∙ can.is ∙ c.stopped.ensures.step

use Rattle.std.proofs.Common.{◌<◌, ◌∙◌, List, length, ap, subst}
use Rattle.abc_base.specs.declared.formula.Formula.{Formula}
use Rattle.abc_run_state.specs.Outer.{setting_in, world}
use Rattle.abc_run_state.specs.Turns.{Turned}
use Rattle.abc_run_finish.specs.Fairly.{IsFairTurn}
use Rattle.abc_run_finish.specs.Steps.{step_of_turn}
use Rattle.abc_run_finish.proofs.Finished.{formula_there}
use Rattle.abc_run_finish.proofs.Stepped.{can_stop}
use Rattle.abc_run_finish.proofs.finishing.consult.Goals as goal

pub ask-requires : goal.ask-requires
ask-requires g c =
    let p = setting_in c.args.linked.now g.out in
    let s = c.args.s.now in
    let f = c.requires.1.1.1.0 in
    let there = formula_there p c.args.formula c.args.count c.args.how (world s g.out) s.frames c.requires.1.1.1.1 in
    λ κs h. (h, (f.set, (f.ready, (f.enough, (c.requires.1.1.0, subst (λ (fs : List Formula). c.args.formula < length fs) c.requires.1.1.0 there)))))

pub returns-in-Ok-clause-step : goal.returns-in-Ok-clause-step
returns-in-Ok-clause-step g c = ap (step_of_turn (setting_in c.args.linked.now g.out)) c.in-Ok.ensures.asks

pub returns-in-Ok-clause-sized : goal.returns-in-Ok-clause-sized
returns-in-Ok-clause-sized g c =
    let p = setting_in c.args.linked.now g.out in
    (subst (λ (t : Turned). IsFairTurn p t) c.in-Ok.ensures.asks c.requires.1.1.1.1).held.sized

pub stopped-requires : goal.stopped-requires
stopped-requires g c =
    let l = c.args.linked.now in
    let can = can_stop l g.out c.ask.new.s c.in-Err.stop (subst (λ (t : Turned). IsFairTurn (setting_in l g.out) t) c.in-Err.ensures.asks c.requires.1.1.1.1) in
    (can.over, (c.requires.1.0, (can.value, (can.sized, can.free))))

pub returns-in-Err-clause-step : goal.returns-in-Err-clause-step
returns-in-Err-clause-step g c =
    let l = c.args.linked.now in
    let p = setting_in l g.out in
    let can = can_stop l g.out c.ask.new.s c.in-Err.stop (subst (λ (t : Turned). IsFairTurn p t) c.in-Err.ensures.asks c.requires.1.1.1.1) in
    ap (step_of_turn p) c.in-Err.ensures.asks ∙ can.is ∙ c.stopped.ensures.step

use Rattle.std.proofs.Common.{◌≡◌, ◌<◌, ◌∙◌, [], length, refl, sym, ap, subst, arith}
use Rattle.std.specs.declared.result.Result.{Result}
use Rattle.abc_run_finish.specs.Ending.{IsUnstuck}
use Rattle.abc_meaning.specs.Step.{gives_back}
use Rattle.abc_frames.specs.Frame.{Frames, under}
use Rattle.abc_run_state.specs.Outer.{setting_in, world}
use Rattle.abc_run_finish.specs.Steps.{StepsIn}
use Rattle.abc_run_finish.specs.declared.halts.Halt.{Halt}
use Rattle.abc_run_finish.proofs.Finished.{ended_in, no_failure, no_return}
use Rattle.abc_run_finish.proofs.Returned.{first_takes, left_held, none_by}
use Rattle.abc_run_finish.proofs.Turned.{live_by}
use Rattle.abc_run_finish.proofs.returning.give_back.Goals as goal

pub leave-requires : goal.leave-requires
leave-requires g c = live_by c.args.s.now.frames c.requires.1.1.held.this

pub returns-then-depth-eq0-clause-step : goal.returns-then-depth-eq0-clause-step
returns-then-depth-eq0-clause-step g c =
    let p = setting_in c.args.linked.now g.out in
    let s = c.args.s.now in
    let none : under s.frames.living ≡ [] = sym (ap (λ (k : Frames). k.living) c.leave.ensures) ∙ none_by c.leave.new.self.living (sym c.depth.ensures ∙ c.if-depth-eq0.true) in
    λ before. record { ends = ap (gives_back p (world s g.out) c.args.v) none; sink = refl }

pub returns-then-depth-eq0-clause-sized : goal.returns-then-depth-eq0-clause-sized
returns-then-depth-eq0-clause-sized g c =
    let s = c.args.s.now in
    (left_held (setting_in c.args.linked.now g.out) (world s g.out) s.frames c.leave.new.self c.requires.1.1.held.held c.leave.ensures).sized

pub resume-requires : goal.resume-requires
resume-requires g c =
    let p = setting_in c.args.linked.now g.out in
    let s = c.args.s.now in
    let w = world s g.out in
    let v = c.args.v in
    let r = c.leave.new.self in
    let fair = c.requires.1.1 in
    let live : 0 < length r.living = omega (arith, c.depth.ensures, c.if-depth-eq0.false) in
    let free = subst (λ (k : Frames). IsUnstuck (gives_back p w v k.living)) (sym c.leave.ensures) fair.free in
    (c.requires.0, (c.requires.1.0, (live, (left_held p w s.frames r fair.held.held c.leave.ensures, (fair.held.value, (first_takes p w v s.frames r c.leave.ensures live fair.held.below, free))))))

pub returns-clause-step : goal.returns-clause-step
returns-clause-step g c =
    let p = setting_in c.args.linked.now g.out in
    let s = c.args.s.now in
    let w = world s g.out in
    let gives = gives_back p w c.args.v (under s.frames.living) in
    λ before. subst (λ (r : Result Unit Halt). StepsIn gives g.out r c.resume.new.s before before) (sym c.halted.ensures)
    (ended_in gives g.out c.resume.result c.resume.new.s before before (ap (λ (k : Frames). gives_back p w c.args.v k.living) (sym c.leave.ensures) ∙ c.resume.ensures.step) refl)

pub returns-clause-ends : goal.returns-clause-ends
returns-clause-ends g c = λ e. no_failure c.resume.result (sym c.halted.ensures ∙ e)

pub returns-clause-value : goal.returns-clause-value
returns-clause-value g c = λ x e. absurd (no_return c.resume.result x (sym c.halted.ensures ∙ e))

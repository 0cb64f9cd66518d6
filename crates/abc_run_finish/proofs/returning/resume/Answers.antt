use Rattle.std.proofs.Common.{[], ◌∷◌, ◌∙◌, refl, sym, ap, subst}
use Rattle.abc_meaning.specs.Throwing.{Stepped, goes_on}
use Rattle.abc_frames.specs.Moves.{next, next_with}
use Rattle.abc_run_finish.specs.Ending.{IsUnstuck}
use Rattle.abc_frames.specs.Frame.{Frames}
use Rattle.abc_frames.specs.declared.records.Wait.TheVariants as waits
use Rattle.abc_run_state.specs.Outer.{setting_in, world}
use Rattle.abc_run_finish.proofs.Returned.{awake_fair, awake_held, awake_is, awake_living, awake_ready, awake_sized, awake_there, awake_this}
use Rattle.abc_run_finish.proofs.returning.resume.Goals as goal

pub push-requires : goal.push-requires
push-requires g c =
    let p = setting_in c.args.linked.now g.out in
    let s = c.args.s.now in
    let r = c.requires.1.1 in
    awake_ready p (world s g.out) c.args.v s.frames c.take_wait.new.self r.0 r.1.0 r.1.1.1.0 c.take_wait.ensures.frames waits.Push (sym c.in-Push.is ∙ c.take_wait.ensures.wait)

pub returns-in-Push-clause-step : goal.returns-in-Push-clause-step
returns-in-Push-clause-step g c =
    let p = setting_in c.args.linked.now g.out in
    let s = c.args.s.now in
    let r = c.requires.1.1 in
    awake_is p (world s g.out) c.args.v s.frames c.take_wait.new.self r.0 r.1.0 r.1.1.1.0 c.take_wait.ensures.frames waits.Push (sym c.in-Push.is ∙ c.take_wait.ensures.wait)
    ∙ ap (λ (k : Frames). goes_on (world s g.out) k.living) (sym c.push.ensures)

pub returns-in-Push-clause-sized : goal.returns-in-Push-clause-sized
returns-in-Push-clause-sized g c =
    let p = setting_in c.args.linked.now g.out in
    let s = c.args.s.now in
    let r = c.requires.1.1 in
    awake_sized p (world s g.out) c.args.v s.frames c.take_wait.new.self r.0 r.1.0 r.1.1.1.0 c.take_wait.ensures.frames (next_with (c.args.v ∷ [])) c.push.new.frames c.push.ensures refl

pub push-requires-in-Keep : goal.push-requires-in-Keep
push-requires-in-Keep g c =
    let p = setting_in c.args.linked.now g.out in
    let s = c.args.s.now in
    let r = c.requires.1.1 in
    awake_ready p (world s g.out) c.args.v s.frames c.take_wait.new.self r.0 r.1.0 r.1.1.1.0 c.take_wait.ensures.frames (waits.Keep c.in-Keep.kept) (sym c.in-Keep.is ∙ c.take_wait.ensures.wait)

pub returns-in-Keep-clause-step : goal.returns-in-Keep-clause-step
returns-in-Keep-clause-step g c =
    let p = setting_in c.args.linked.now g.out in
    let s = c.args.s.now in
    let r = c.requires.1.1 in
    awake_is p (world s g.out) c.args.v s.frames c.take_wait.new.self r.0 r.1.0 r.1.1.1.0 c.take_wait.ensures.frames (waits.Keep c.in-Keep.kept) (sym c.in-Keep.is ∙ c.take_wait.ensures.wait)
    ∙ ap (λ (k : Frames). goes_on (world s g.out) k.living) (sym c.push-in-Keep.ensures)

pub returns-in-Keep-clause-sized : goal.returns-in-Keep-clause-sized
returns-in-Keep-clause-sized g c =
    let p = setting_in c.args.linked.now g.out in
    let s = c.args.s.now in
    let r = c.requires.1.1 in
    awake_sized p (world s g.out) c.args.v s.frames c.take_wait.new.self r.0 r.1.0 r.1.1.1.0 c.take_wait.ensures.frames (next_with (c.in-Keep.kept ∷ [])) c.push-in-Keep.new.frames c.push-in-Keep.ensures refl

pub go_on-requires : goal.go_on-requires
go_on-requires g c =
    let p = setting_in c.args.linked.now g.out in
    let s = c.args.s.now in
    let r = c.requires.1.1 in
    awake_ready p (world s g.out) c.args.v s.frames c.take_wait.new.self r.0 r.1.0 r.1.1.1.0 c.take_wait.ensures.frames waits.Drop (sym c.in-Drop.is ∙ c.take_wait.ensures.wait)

pub returns-in-Drop-clause-step : goal.returns-in-Drop-clause-step
returns-in-Drop-clause-step g c =
    let p = setting_in c.args.linked.now g.out in
    let s = c.args.s.now in
    let r = c.requires.1.1 in
    awake_is p (world s g.out) c.args.v s.frames c.take_wait.new.self r.0 r.1.0 r.1.1.1.0 c.take_wait.ensures.frames waits.Drop (sym c.in-Drop.is ∙ c.take_wait.ensures.wait)
    ∙ ap (λ (k : Frames). goes_on (world s g.out) k.living) (sym c.go_on.ensures)

pub returns-in-Drop-clause-sized : goal.returns-in-Drop-clause-sized
returns-in-Drop-clause-sized g c =
    let p = setting_in c.args.linked.now g.out in
    let s = c.args.s.now in
    let r = c.requires.1.1 in
    awake_sized p (world s g.out) c.args.v s.frames c.take_wait.new.self r.0 r.1.0 r.1.1.1.0 c.take_wait.ensures.frames next c.go_on.new.frames c.go_on.ensures refl

pub returns-in-Again-clause-step : goal.returns-in-Again-clause-step
returns-in-Again-clause-step g c =
    let p = setting_in c.args.linked.now g.out in
    let s = c.args.s.now in
    let w = world s g.out in
    let r = c.requires.1.1 in
    awake_is p w c.args.v s.frames c.take_wait.new.self r.0 r.1.0 r.1.1.1.0 c.take_wait.ensures.frames waits.Again (sym c.in-Again.is ∙ c.take_wait.ensures.wait)
    ∙ ap (goes_on w) (awake_living p w c.args.v s.frames c.take_wait.new.self r.0 r.1.0 r.1.1.1.0 c.take_wait.ensures.frames)

pub returns-in-Again-clause-sized : goal.returns-in-Again-clause-sized
returns-in-Again-clause-sized g c =
    let s = c.args.s.now in
    let r = c.requires.1.1 in
    (awake_held (setting_in c.args.linked.now g.out) (world s g.out) c.args.v s.frames c.take_wait.new.self r.0 r.1.0 r.1.1.1.0 c.take_wait.ensures.frames).sized

pub make_of-requires : goal.make_of-requires
make_of-requires g c =
    let p = setting_in c.args.linked.now g.out in
    let s = c.args.s.now in
    let w = world s g.out in
    let v = c.args.v in
    let q = s.frames in
    let k = c.take_wait.new.self in
    let r = c.requires.1.1 in
    let e = c.take_wait.ensures.frames in
    let wait = waits.New c.in-New.count in
    let is = sym c.in-New.is ∙ c.take_wait.ensures.wait in
    let held = awake_held p w v q k r.0 r.1.0 r.1.1.1.0 e in
    let free = subst (λ (x : Stepped). IsUnstuck x) (awake_is p w v q k r.0 r.1.0 r.1.1.1.0 e wait is) r.1.1.1.1 in
    (c.requires.0, (c.requires.1.0, (record { over = held.sound.stands; frame = awake_there p w v q k r.0 r.1.0 r.1.1.1.0 e }, (awake_ready p w v q k r.0 r.1.0 r.1.1.1.0 e wait is, (held, (r.1.1.0, (awake_this p w v q k r.0 r.1.0 r.1.1.1.0 e, (awake_fair p w v q k r.0 r.1.0 r.1.1.1.0 e wait is, free))))))))

pub returns-in-New-clause-step : goal.returns-in-New-clause-step
returns-in-New-clause-step g c =
    let p = setting_in c.args.linked.now g.out in
    let s = c.args.s.now in
    let r = c.requires.1.1 in
    awake_is p (world s g.out) c.args.v s.frames c.take_wait.new.self r.0 r.1.0 r.1.1.1.0 c.take_wait.ensures.frames (waits.New c.in-New.count) (sym c.in-New.is ∙ c.take_wait.ensures.wait) ∙ c.make_of.ensures.step

pub unreachable-requires : goal.unreachable-requires
unreachable-requires g c =
    let p = setting_in c.args.linked.now g.out in
    let s = c.args.s.now in
    let w = world s g.out in
    let r = c.requires.1.1 in
    r.1.1.1.1 w (awake_is p w c.args.v s.frames c.take_wait.new.self r.0 r.1.0 r.1.1.1.0 c.take_wait.ensures.frames waits.Not (sym c.in-Not.is ∙ c.take_wait.ensures.wait))

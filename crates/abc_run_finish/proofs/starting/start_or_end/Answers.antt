use Rattle.std.proofs.Common.{◌≡◌, ◌-◌, ◌<◌, ◌∙◌, ℕ, length, ap, subst, sym, arith}
use Rattle.abc_run_finish.specs.Ending.{IsUnstuck}
use Rattle.abc_meaning.specs.Throwing.{Stepped, last_script}
use Rattle.abc_run_state.specs.Outer.{setting_in, world}
use Rattle.abc_run_state.specs.Stops.{IsOpen}
use Rattle.abc_meaning.specs.Entering.{starts_script}
use Rattle.abc_file_types.specs.declared.tables.Abc.{Abc}
use Rattle.abc_run_finish.specs.Starting.{begins}
use Rattle.abc_run_finish.specs.Steps.{step_of_turn}
use Rattle.abc_run_finish.proofs.Started.{first_is, first_sized, first_stops, part_open}
use Rattle.abc_run_finish.proofs.starting.start_or_end.Goals as goal

pub start_alone-requires : goal.start_alone-requires
start_alone-requires g c =
    let p = setting_in c.args.linked.now g.out in
    let r = c.requires in
    let some = r.scripts in
    let many : c.len-scripts.result ≡ length p.linked.file.scripts = c.len-scripts.ensures ∙ ap (λ (v : Abc). length v.scripts) c.abc.ensures in
    let last : c.len-scripts.result - 1 ≡ last_script p = ap (λ (n : ℕ). n - 1) many in
    let low : c.len-scripts.result - 1 < length p.linked.file.scripts = omega (arith, many, some) in
    (r.over, (r.none, (r.known, (low, (r.started, subst (λ (n : ℕ). IsOpen (starts_script p n (world c.args.s.now g.out))) (sym last) (part_open p (world c.args.s.now g.out) (starts_script p (last_script p) (world c.args.s.now g.out)) r.fair))))))

pub returns-in-Ok-clause-step : goal.returns-in-Ok-clause-step
returns-in-Ok-clause-step g c =
    let p = setting_in c.args.linked.now g.out in
    let s = c.args.s.now in
    let r = c.requires in
    let many : c.len-scripts.result ≡ length p.linked.file.scripts = c.len-scripts.ensures ∙ ap (λ (v : Abc). length v.scripts) c.abc.ensures in
    let last : last_script p ≡ c.len-scripts.result - 1 = ap (λ (n : ℕ). n - 1) (sym many) in
    first_is p (world s g.out) s.frames r.sized r.none r.fair
    ∙ ap (λ (n : ℕ). step_of_turn p (begins p s.frames (starts_script p n (world s g.out)))) last
    ∙ ap (step_of_turn p) c.in-Ok.ensures.begins

pub returns-in-Ok-clause-sized : goal.returns-in-Ok-clause-sized
returns-in-Ok-clause-sized g c =
    let p = setting_in c.args.linked.now g.out in
    let s = c.args.s.now in
    let w = world s g.out in
    let new = c.start_alone.new.s in
    let r = c.requires in
    let many : c.len-scripts.result ≡ length p.linked.file.scripts = c.len-scripts.ensures ∙ ap (λ (v : Abc). length v.scripts) c.abc.ensures in
    let last : last_script p ≡ c.len-scripts.result - 1 = ap (λ (n : ℕ). n - 1) (sym many) in
    first_sized p w (world new g.out) s.frames new.frames (starts_script p (last_script p) w) r.sized r.fair (ap (λ (n : ℕ). begins p s.frames (starts_script p n w)) last ∙ c.in-Ok.ensures.begins)

pub stopped-requires : goal.stopped-requires
stopped-requires g c =
    let l = c.args.linked.now in
    let p = setting_in l g.out in
    let s = c.args.s.now in
    let w = world s g.out in
    let new = c.start_alone.new.s in
    let r = c.requires in
    let o = starts_script p (last_script p) w in
    let many : c.len-scripts.result ≡ length p.linked.file.scripts = c.len-scripts.ensures ∙ ap (λ (v : Abc). length v.scripts) c.abc.ensures in
    let last : last_script p ≡ c.len-scripts.result - 1 = ap (λ (n : ℕ). n - 1) (sym many) in
    let free = subst (λ (x : Stepped). IsUnstuck x) (first_is p w s.frames r.sized r.none r.fair) r.free in
    let can = first_stops l g.out s new c.in-Err.stop o r.sized r.fair (ap (λ (n : ℕ). begins p s.frames (starts_script p n w)) last ∙ c.in-Err.ensures.begins) free in
    (can.0, (r.scripts, (can.1, (can.2, can.3))))

pub returns-in-Err-clause-step : goal.returns-in-Err-clause-step
returns-in-Err-clause-step g c =
    let p = setting_in c.args.linked.now g.out in
    let s = c.args.s.now in
    let w = world s g.out in
    let r = c.requires in
    let many : c.len-scripts.result ≡ length p.linked.file.scripts = c.len-scripts.ensures ∙ ap (λ (v : Abc). length v.scripts) c.abc.ensures in
    let last : last_script p ≡ c.len-scripts.result - 1 = ap (λ (n : ℕ). n - 1) (sym many) in
    first_is p w s.frames r.sized r.none r.fair
    ∙ ap (λ (n : ℕ). step_of_turn p (begins p s.frames (starts_script p n w))) last
    ∙ ap (step_of_turn p) c.in-Err.ensures.begins
    ∙ c.stopped.ensures.step

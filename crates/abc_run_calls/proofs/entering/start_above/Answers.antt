use Rattle.std.proofs.Common.{rules, ◌≤◌, ◌∙◌, length, get_or, ap, subst, sym, arith}
use Rattle.abc_meaning.specs.At.{Act}
use Rattle.abc_frames.specs.Frame.{newest}
use Rattle.abc_run_state.specs.Outer.{setting_in, world}
use Rattle.abc_run_state.specs.Standing.{IsSet}
use Rattle.abc_run_state.specs.Stops.{IsOpen}
use Rattle.abc_run_state.specs.declared.state.State.{State}
use Rattle.abc_run_state.specs.Turns.{turn_of}
use Rattle.abc_file_types.specs.declared.tables.Abc.{Abc}
use Rattle.abc_meaning.specs.World.{Outcome}
use Rattle.abc_run_calls.proofs.Bodied.{init_is}
use Rattle.abc_run_calls.proofs.Entered.{starts_is}
use Rattle.abc_run_calls.proofs.entering.start_above.Goals as goal

pub enter-requires : goal.enter-requires
enter-requires g c =
    let p = setting_in c.args.linked.now g.out in
    let s = c.args.s.now in
    let file = c.args.linked.now.file in
    let init = init_is file c.args.script c.get.result.now c.requires.1.1.0 (ap (λ (v : Abc). get_or v.scripts c.args.script c.get.result.now) (sym c.abc.ensures) ∙ c.get.ensures) in
    let is = starts_is p c.args.script (newest s.frames) (world s g.out) c.set.new.self c.global_of-this.result c.get.result.now.init c.set.ensures (c.global_of-this.ensures.is g.out) init in
    let s1 : State = record s { started = c.set.new.self } in
    let set : IsSet c.args.linked.now s1 = record { over = c.requires.0.set.over; frame = c.requires.0.set.frame } in
    let none : 0 ≤ length (newest s.frames).stack = omega arith in (record { set = set; known = c.requires.0.known; free = subst (λ (o : Outcome Act). IsOpen o) is c.requires.0.free }, (c.requires.1.0, (none, none)))

pub returns : goal.returns
returns g c = record {
  runs =
      let p = setting_in c.args.linked.now g.out in
      let s = c.args.s.now in
      let file = c.args.linked.now.file in
      let init = init_is file c.args.script c.get.result.now c.requires.1.1.0 (ap (λ (v : Abc). get_or v.scripts c.args.script c.get.result.now) (sym c.abc.ensures) ∙ c.get.ensures) in
      let is = starts_is p c.args.script (newest s.frames) (world s g.out) c.set.new.self c.global_of-this.result c.get.result.now.init c.set.ensures (c.global_of-this.ensures.is g.out) init in
      ap (turn_of p s.frames) is ∙ c.enter.ensures.runs;
  limit = search rules;
}

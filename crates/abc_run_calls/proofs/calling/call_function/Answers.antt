use Rattle.std.proofs.Common.{rules, ◌≤◌, ◌∙◌, length, ap, subst, arith}
use Rattle.abc_meaning.specs.At.{Act}
use Rattle.abc_run_calls.specs.Entering.{place_in_meaning}
use Rattle.abc_frames.specs.Frame.{newest}
use Rattle.abc_run_state.specs.Outer.{setting_in, world}
use Rattle.abc_run_state.specs.Stops.{IsOpen}
use Rattle.abc_run_state.specs.Turns.{turn_of}
use Rattle.abc_meaning.specs.World.{Outcome}
use Rattle.abc_run_calls.proofs.Settled.{enters_settled_is}
use Rattle.abc_run_calls.proofs.calling.call_function.Goals as goal

pub enter-requires : goal.enter-requires
enter-requires g c =
    let p = setting_in c.args.linked.now g.out in
    let q = c.args.s.now.frames in
    let is = enters_settled_is p c.args.method c.args.this (place_in_meaning c.args.at) c.args.count c.waiting-taken.result.0 c.waiting-taken.result.1 c.args.how (newest q) (world c.args.s.now g.out) c.waiting-taken.ensures.taken c.waiting-taken.ensures.wait in
    let ready = c.requires.1.0 in
    let operands = ready.operands in
    let within = c.requires.1.1 in
    let takes = c.waiting-taken.ensures.taken in
    let there : c.args.count ≤ length (newest q).stack = omega (arith, operands, within) in
    let taken : c.waiting-taken.result.0 ≤ length (newest q).stack = omega (arith, operands, takes) in (record { set = c.requires.0.set; known = c.requires.0.known; free = subst (λ (o : Outcome Act). IsOpen o) is c.requires.0.free }, (ready.live, (there, taken)))

pub returns : goal.returns
returns g c = record {
  runs =
      let p = setting_in c.args.linked.now g.out in
      let q = c.args.s.now.frames in
      let is = enters_settled_is p c.args.method c.args.this (place_in_meaning c.args.at) c.args.count c.waiting-taken.result.0 c.waiting-taken.result.1 c.args.how (newest q) (world c.args.s.now g.out) c.waiting-taken.ensures.taken c.waiting-taken.ensures.wait in
      ap (turn_of p q) is ∙ c.enter.ensures.runs;
  limit = search rules;
}

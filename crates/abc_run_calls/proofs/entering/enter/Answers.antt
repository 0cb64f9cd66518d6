use Rattle.std.proofs.Common.{◌<◌, ◌≤◌, length, ◌∙◌, ap, subst, sym}
use Rattle.abc_frames.specs.Frame.{newest}
use Rattle.abc_run_state.proofs.AtOnce.{is_done, not_done}
use Rattle.abc_run_state.specs.Outer.{setting_in, world}
use Rattle.abc_run_state.specs.Standing.{IsSet}
use Rattle.abc_run_state.specs.declared.state.State.{State}
use Rattle.abc_run_state.specs.Stops.{IsOpen}
use Rattle.abc_run_state.specs.Turns.{Runs}
use Rattle.abc_run_calls.specs.Arguments.{HasArgumentRoom}
use Rattle.abc_run_calls.specs.Entering.{enters_above, place_in_meaning}
use Rattle.abc_run_calls.proofs.entering.enter.Goals as goal

pub enters_at_once-requires : goal.enters_at_once-requires
enters_at_once-requires g c = (c.requires.1.0, (c.requires.1.1.1, c.requires.0.free))

pub returns-then-enters_at_once : goal.returns-then-enters_at_once
returns-then-enters_at_once g c = record {
  runs =
      let act = enters_above (setting_in c.args.linked.now g.out) c.args.method c.args.this (place_in_meaning c.args.at) c.args.count c.args.taken c.args.wait (newest c.args.s.now.frames) in
      (is_done _ c.args.linked.now g.out act c.args.s.now c.enters_at_once.new.s c.enters_at_once.ensures c.if-enters_at_once.true).0;
  limit =
      let act = enters_above (setting_in c.args.linked.now g.out) c.args.method c.args.this (place_in_meaning c.args.at) c.args.count c.args.taken c.args.wait (newest c.args.s.now.frames) in
      (is_done _ c.args.linked.now g.out act c.args.s.now c.enters_at_once.new.s c.enters_at_once.ensures c.if-enters_at_once.true).1;
}

pub enter_prepared-requires : goal.enter_prepared-requires
enter_prepared-requires g c =
    let l = c.args.linked.now in
    let act = enters_above (setting_in l g.out) c.args.method c.args.this (place_in_meaning c.args.at) c.args.count c.args.taken c.args.wait (newest c.args.s.now.frames) in
    let same = sym (not_done _ l g.out act c.args.s.now c.enters_at_once.new.s c.enters_at_once.ensures c.if-enters_at_once.false) in (record { set = subst (λ (x : State). IsSet l x) same c.requires.0.set; known = subst (λ (x : State). HasArgumentRoom l x.given.limit) same c.requires.0.known; free = subst (λ (x : State). IsOpen (enters_above (setting_in l g.out) c.args.method c.args.this (place_in_meaning c.args.at) c.args.count c.args.taken c.args.wait (newest x.frames) (world x g.out))) same c.requires.0.free }, (subst (λ (x : State). 0 < length x.frames.living) same c.requires.1.0, (subst (λ (x : State). c.args.count ≤ length (newest x.frames).stack) same c.requires.1.1.0, subst (λ (x : State). c.args.taken ≤ length (newest x.frames).stack) same c.requires.1.1.1)))

pub returns : goal.returns
returns g c = record {
  runs =
      let l = c.args.linked.now in
      let act = enters_above (setting_in l g.out) c.args.method c.args.this (place_in_meaning c.args.at) c.args.count c.args.taken c.args.wait (newest c.args.s.now.frames) in
      let same = not_done _ l g.out act c.args.s.now c.enters_at_once.new.s c.enters_at_once.ensures c.if-enters_at_once.false in
      subst (λ (x : State). Runs l g.out (enters_above (setting_in l g.out) c.args.method c.args.this (place_in_meaning c.args.at) c.args.count c.args.taken c.args.wait (newest x.frames)) x c.enter_prepared.result c.enter_prepared.new.s) same c.enter_prepared.ensures.runs;
  limit =
      let act = enters_above (setting_in c.args.linked.now g.out) c.args.method c.args.this (place_in_meaning c.args.at) c.args.count c.args.taken c.args.wait (newest c.args.s.now.frames) in
      c.enter_prepared.ensures.limit ∙ ap (λ (x : State). x.given.limit) (not_done _ c.args.linked.now g.out act c.args.s.now c.enters_at_once.new.s c.enters_at_once.ensures c.if-enters_at_once.false);
}

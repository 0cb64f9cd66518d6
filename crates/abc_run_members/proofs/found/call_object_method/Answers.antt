use Rattle.std.proofs.Common.{rules, ◌∙◌, ap, subst, sym}
use Rattle.std.specs.Prelude.{Ok}
use Rattle.abc_run_calls.proofs.Finishing.{goes_finishes}
use Rattle.abc_heap_values.specs.declared.values.Value.TheVariants.{Obj}
use Rattle.abc_run_calls.specs.Arguments.{HasArgumentRoom}
use Rattle.abc_run_members.specs.Members.{enters_found}
use Rattle.abc_frames.specs.Ready.{HasFrameRoom}
use Rattle.abc_frames.specs.Frame.{newest}
use Rattle.abc_run_state.proofs.AtOnce.{is_done, not_done}
use Rattle.abc_run_state.proofs.Told.{runs_leaves}
use Rattle.abc_run_state.specs.Outer.{setting_in, world}
use Rattle.abc_run_state.specs.Settling.{given_by_how, taken_by}
use Rattle.abc_run_state.specs.Standing.{IsSet}
use Rattle.abc_run_state.specs.Stops.{IsOpen}
use Rattle.abc_run_state.specs.Turns.{Leaves}
use Rattle.abc_run_state.specs.declared.state.State.{State}
use Rattle.abc_run_members.proofs.found.call_object_method.Goals as goal

pub enters_object-requires : goal.enters_object-requires
enters_object-requires g c = (c.requires.0.set, (c.requires.1.0, c.requires.0.free))

pub returns-then-enters_object : goal.returns-then-enters_object
returns-then-enters_object g c = record {
  leaves =
      let act = enters_found (setting_in c.args.linked.now g.out) c.args.method (Obj c.args.o) c.args.count c.args.how (newest c.args.s.now.frames) in
      runs_leaves c.args.linked.now g.out act c.args.s.now c.enters_object.new.s (Ok tt) _ c.requires.1.1.1 (is_done _ c.args.linked.now g.out act c.args.s.now c.enters_object.new.s c.enters_object.ensures c.if-enters_object.true).0;
  finishes = goes_finishes c.args.linked.now (Ok tt) c.enters_object.new.s _ c.requires.1.1.1;
  goes = search rules;
  limit =
      let act = enters_found (setting_in c.args.linked.now g.out) c.args.method (Obj c.args.o) c.args.count c.args.how (newest c.args.s.now.frames) in
      (is_done _ c.args.linked.now g.out act c.args.s.now c.enters_object.new.s c.enters_object.ensures c.if-enters_object.true).1;
}

pub enter_slowly-requires : goal.enter_slowly-requires
enter_slowly-requires g c =
    let l = c.args.linked.now in
    let p = setting_in l g.out in
    let act = enters_found p c.args.method (Obj c.args.o) c.args.count c.args.how (newest c.args.s.now.frames) in
    let same = sym (not_done _ l g.out act c.args.s.now c.enters_object.new.s c.enters_object.ensures c.if-enters_object.false) in (record { set = subst (λ (x : State). IsSet l x) same c.requires.0.set; known = subst (λ (x : State). HasArgumentRoom l x.given.limit) same c.requires.0.known; free = subst (λ (x : State). IsOpen (enters_found p c.args.method (Obj c.args.o) c.args.count c.args.how (newest x.frames) (world x g.out))) same c.requires.0.free }, (subst (λ (x : State). HasFrameRoom (taken_by c.args.how) (given_by_how c.args.how) x.frames) same c.requires.1.0, (c.requires.1.1.0, c.requires.1.1.1)))

pub returns : goal.returns
returns g c = record {
  leaves =
      let l = c.args.linked.now in
      let p = setting_in l g.out in
      let act = enters_found p c.args.method (Obj c.args.o) c.args.count c.args.how (newest c.args.s.now.frames) in
      let same = not_done _ l g.out act c.args.s.now c.enters_object.new.s c.enters_object.ensures c.if-enters_object.false in
      subst (λ (x : State). Leaves l g.out (enters_found p c.args.method (Obj c.args.o) c.args.count c.args.how (newest x.frames)) x c.enter_slowly.new.left c.enter_slowly.new.s) same c.enter_slowly.ensures.leaves;
  finishes = search rules;
  goes = search rules;
  limit =
      let act = enters_found (setting_in c.args.linked.now g.out) c.args.method (Obj c.args.o) c.args.count c.args.how (newest c.args.s.now.frames) in
      c.enter_slowly.ensures.limit ∙ ap (λ (x : State). x.given.limit) (not_done _ c.args.linked.now g.out act c.args.s.now c.enters_object.new.s c.enters_object.ensures c.if-enters_object.false);
}

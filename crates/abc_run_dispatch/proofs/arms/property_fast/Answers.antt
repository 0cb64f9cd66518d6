use Rattle.std.proofs.Common.{subst, sym}
use Rattle.abc_run_dispatch.proofs.Dispatched.{dispatches_done}
use Rattle.abc_run_dispatch.specs.Dispatching.{CanDispatch, DispatchesHere}
use Rattle.abc_run_state.proofs.AtOnce.{is_done, not_done}
use Rattle.abc_run_values.specs.Here.{act_here}
use Rattle.abc_frames.specs.Frame.{newest}
use Rattle.abc_run_state.specs.Outer.{setting_in}
use Rattle.abc_run_state.specs.declared.state.State.{State}
use Rattle.abc_file_types.specs.declared.code.Instr.TheVariants.{One}
use Rattle.abc_run_dispatch.proofs.arms.property_fast.Goals as goal

pub returns-then-run_element_fast : goal.returns-then-run_element_fast
returns-then-run_element_fast g c =
    let act = act_here (setting_in c.args.linked.now g.out) (newest c.args.s.now.frames) (One c.args.op c.args.n) in
    dispatches_done c.args.linked.now g.out c.args.s.now (One c.args.op c.args.n) c.run_element_fast.new.s _ _ c.requires.0.none (is_done _ c.args.linked.now g.out act c.args.s.now c.run_element_fast.new.s c.run_element_fast.ensures c.if-run_element_fast.true)

pub property_arm-requires : goal.property_arm-requires
property_arm-requires g c =
    let act = act_here (setting_in c.args.linked.now g.out) (newest c.args.s.now.frames) (One c.args.op c.args.n) in
    let same = not_done _ c.args.linked.now g.out act c.args.s.now c.run_element_fast.new.s c.run_element_fast.ensures c.if-run_element_fast.false in
    (subst (λ (x : State). CanDispatch c.args.linked.now g.out (One c.args.op c.args.n) x c.args.left.now) (sym same) c.requires.0, c.requires.1)

pub returns : goal.returns
returns g c =
    let act = act_here (setting_in c.args.linked.now g.out) (newest c.args.s.now.frames) (One c.args.op c.args.n) in
    let same = not_done _ c.args.linked.now g.out act c.args.s.now c.run_element_fast.new.s c.run_element_fast.ensures c.if-run_element_fast.false in
    subst (λ (x : State). DispatchesHere c.args.linked.now g.out (One c.args.op c.args.n) x c.property_arm.result c.property_arm.new.left c.property_arm.new.s) same c.property_arm.ensures

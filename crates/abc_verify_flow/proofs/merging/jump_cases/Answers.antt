use Rattle.std.proofs.Common.{arith}
use Rattle.abc_verify_flow.specs.Walking.{landing}
use Rattle.abc_verify_flow.proofs.Places.{reach_none, each_step, each_ready}
use Rattle.abc_verify_flow.proofs.merging.jump_cases.Goals as goal

pub loop-case-init : goal.loop-case-init
loop-case-init g c = reach_none _ _ _ _ _ c.requires.opened

pub loop-case-preserved : goal.loop-case-preserved
loop-case-preserved g c = each_step _ _ _ (landing c.args.state.now) c.args.cases.now c.loop-case.case-index 0 _ _ _ _ _ _ (omega arith) c.loop-case.invariant c.in_ok-merge_at.ensures

pub merge_at-requires : goal.merge_at-requires
merge_at-requires g c = record { linked = c.requires.linked; opened = c.loop-case.invariant.whole; ready = each_ready _ _ _ (landing c.args.state.now) c.args.cases.now c.loop-case.case-index 0 c.requires.ready (omega arith) }

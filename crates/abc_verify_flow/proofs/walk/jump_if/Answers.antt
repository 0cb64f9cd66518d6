use Rattle.std.proofs.Common.{[], map, subst, sym}
use Rattle.std.specs.Prelude.{Bool, cond}
use Rattle.abc_verify_flow.specs.Walking.{AllReach, landing, targets_at}
use Rattle.abc_verify_flow.proofs.Places.{reach_none}
use Rattle.abc_verify_flow.proofs.walk.jump_if.Goals as goal

pub jump-requires-clause-ready : goal.jump-requires-clause-ready
jump-requires-clause-ready g c = c.requires.ready c.if-jumps.true

pub returns-else-jumps : goal.returns-else-jumps
returns-else-jumps g c = subst (λ (b : Bool). AllReach (g.F.Flow.file c.args.flow.now) (g.F.Flow.routine c.args.flow.now) (g.F.Flow.heads c.args.flow.now) (map (landing c.args.state.now) (cond b (targets_at (g.F.Flow.routine c.args.flow.now) c.args.place) [])) c.args.states.now c.args.work.now c.args.states.now c.args.work.now) (sym c.if-jumps.false) (reach_none _ _ _ _ _ c.requires.opened)

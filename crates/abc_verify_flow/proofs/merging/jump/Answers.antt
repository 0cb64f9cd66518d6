use Rattle.std.proofs.Common.{subst, sym, ap, map}
use Rattle.std.specs.Result.{MatchResult}
use Rattle.abc_verify_flow.specs.Walking.{AreEntriesReady, AllReach, RefusedBy, landing, targets_of_instr}
use Rattle.abc_verify_flow.proofs.Places.{reach_nowhere}
use Rattle.abc_verify_flow.proofs.merging.jump.Goals as goal

pub jump_along-requires-clause-ready : goal.jump_along-requires-clause-ready
jump_along-requires-clause-ready g c = subst (λ o. AreEntriesReady (g.F.Flow.file c.args.flow.now) (g.F.Flow.routine c.args.flow.now) (g.F.Flow.heads c.args.flow.now) (map (landing c.args.state.now) (targets_of_instr o))) c.in-Some.ensures c.requires.ready

pub returns-in-None : goal.returns-in-None
returns-in-None g c = reach_nowhere _ _ _ _ _ _ _ (ap targets_of_instr c.in-None.ensures) c.requires.opened

pub returns-in-Some : goal.returns-in-Some
returns-in-Some g c = subst (λ o. MatchResult c.jump_along.result (λ x. AllReach (g.F.Flow.file c.args.flow.now) (g.F.Flow.routine c.args.flow.now) (g.F.Flow.heads c.args.flow.now) (map (landing c.args.state.now) (targets_of_instr o)) c.args.states.now c.args.work.now c.jump_along.new.states c.jump_along.new.work) (λ e. RefusedBy (g.F.Flow.file c.args.flow.now) (g.F.Flow.routine c.args.flow.now) e)) (sym c.in-Some.ensures) c.jump_along.ensures

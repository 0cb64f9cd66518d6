use Rattle.std.proofs.Common.{subst, sym, ap}
use Rattle.abc_verify_flow.proofs.merging.jump_along.Goals as goal
use Rattle.std.proofs.Common.{map}
use Rattle.abc_verify_flow.specs.Walking.{AreEntriesReady, AllReach, landing}
use Rattle.abc_verify_flow.proofs.Places.{reach_nowhere, one_ready, first_ready, rest_ready, reach_rest}
use Rattle.abc_verify_typing.specs.Instructions.{targets}

pub jump_to-requires-clause-ready : goal.jump_to-requires-clause-ready
jump_to-requires-clause-ready g c = one_ready _ _ _ _ _ (subst (λ i. AreEntriesReady (g.F.Flow.file c.args.flow.now) (g.F.Flow.routine c.args.flow.now) (g.F.Flow.heads c.args.flow.now) (map (landing c.args.state.now) (targets i))) c.in-Branch.is c.requires.ready)

pub jump_to-requires-in-Switch-clause-ready : goal.jump_to-requires-in-Switch-clause-ready
jump_to-requires-in-Switch-clause-ready g c = first_ready _ _ _ _ _ c.in-Switch.cases (subst (λ i. AreEntriesReady (g.F.Flow.file c.args.flow.now) (g.F.Flow.routine c.args.flow.now) (g.F.Flow.heads c.args.flow.now) (map (landing c.args.state.now) (targets i))) c.in-Switch.is c.requires.ready)

pub jump_cases-requires-clause-ready : goal.jump_cases-requires-clause-ready
jump_cases-requires-clause-ready g c = rest_ready _ _ _ _ c.in-Switch.default c.in-Switch.cases _ c.as_slice.ensures (subst (λ i. AreEntriesReady (g.F.Flow.file c.args.flow.now) (g.F.Flow.routine c.args.flow.now) (g.F.Flow.heads c.args.flow.now) (map (landing c.args.state.now) (targets i))) c.in-Switch.is c.requires.ready)

pub returns-in_ok-jump_cases-in-Switch : goal.returns-in_ok-jump_cases-in-Switch
returns-in_ok-jump_cases-in-Switch g c = subst (λ i. AllReach (g.F.Flow.file c.args.flow.now) (g.F.Flow.routine c.args.flow.now) (g.F.Flow.heads c.args.flow.now) (map (landing c.args.state.now) (targets i)) c.args.states.now c.args.work.now c.jump_cases.new.states c.jump_cases.new.work) (sym c.in-Switch.is) (reach_rest _ _ _ _ _ _ _ _ _ _ _ _ _ c.as_slice.ensures c.in_ok-jump_to-in-Switch.ensures c.in_ok-jump_cases-in-Switch.ensures)

pub returns-in-Plain : goal.returns-in-Plain
returns-in-Plain g c = reach_nowhere _ _ _ _ _ _ _ (ap targets c.in-Plain.is) c.requires.opened

pub returns-in-One : goal.returns-in-One
returns-in-One g c = reach_nowhere _ _ _ _ _ _ _ (ap targets c.in-One.is) c.requires.opened

pub returns-in-Two : goal.returns-in-Two
returns-in-Two g c = reach_nowhere _ _ _ _ _ _ _ (ap targets c.in-Two.is) c.requires.opened

pub returns-in-Byte : goal.returns-in-Byte
returns-in-Byte g c = reach_nowhere _ _ _ _ _ _ _ (ap targets c.in-Byte.is) c.requires.opened

pub returns-in-Short : goal.returns-in-Short
returns-in-Short g c = reach_nowhere _ _ _ _ _ _ _ (ap targets c.in-Short.is) c.requires.opened

pub returns-in-ScopeObject : goal.returns-in-ScopeObject
returns-in-ScopeObject g c = reach_nowhere _ _ _ _ _ _ _ (ap targets c.in-ScopeObject.is) c.requires.opened

pub returns-in-Debug : goal.returns-in-Debug
returns-in-Debug g c = reach_nowhere _ _ _ _ _ _ _ (ap targets c.in-Debug.is) c.requires.opened

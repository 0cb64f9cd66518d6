use Rattle.std.proofs.Common.{map, take}
use Rattle.abc_verify_flow.specs.Walking.{AllReach, landing}
use Rattle.abc_verify_flow.proofs.merging.jump_cases.Given as goal

abbrev pub invariant-loop-case : goal.invariant-loop-case
invariant-loop-case g l = AllReach (g.F.Flow.file l.flow) (g.F.Flow.routine l.flow) (g.F.Flow.heads l.flow) (map (landing l.state) (take l.case-index l.cases)) l.initial.states l.initial.work l.states l.work

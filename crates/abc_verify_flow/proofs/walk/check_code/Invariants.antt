use Rattle.std.proofs.Common.{◌+◌, ◌≤◌, None, length}
use Rattle.std.specs.Prelude.{replicate}
use Rattle.abc_verify_typing.specs.Work.{IsUnderWay, total_rank}
use Rattle.abc_verify_typing.specs.Rank.{layouts, rank_of_state, top_rank}
use Rattle.abc_verify_flow.specs.Telling.{AreHandlersTold}
use Rattle.abc_verify_flow.specs.Walking.{IsForward, is_head}
use Rattle.abc_verify_flow.proofs.Counts.{AllKnown, IsOnce}
use Rattle.abc_verify_flow.proofs.walk.check_code.Given as goal

abbrev pub invariant-loop-place : goal.invariant-loop-place
invariant-loop-place g l =
    IsUnderWay (g.F.Flow.file l.flow) (g.F.Flow.routine l.flow) (is_head (g.F.Flow.heads l.flow)) l.states l.work
    × AreHandlersTold (g.F.Flow.file l.flow) (g.F.Flow.routine l.flow) (g.F.Flow.heads l.flow) l.handled.all l.walker.told l.states
    × (l.walks + (total_rank (rank_of_state (layouts (g.F.Flow.file l.flow))) (top_rank (layouts (g.F.Flow.file l.flow)) (g.F.Flow.routine l.flow)) l.states + length l.work) ≤ total_rank (rank_of_state (layouts (g.F.Flow.file l.flow))) (top_rank (layouts (g.F.Flow.file l.flow)) (g.F.Flow.routine l.flow)) (replicate (length (g.F.Flow.routine l.flow).code) None))
    × AllKnown l.states l.work
    × (IsForward (g.F.Flow.routine l.flow) → IsOnce l.walks l.states l.work)

abbrev pub decreases-loop-place : goal.decreases-loop-place
decreases-loop-place g l = total_rank (rank_of_state (layouts (g.F.Flow.file l.flow))) (top_rank (layouts (g.F.Flow.file l.flow)) (g.F.Flow.routine l.flow)) l.states + length l.work

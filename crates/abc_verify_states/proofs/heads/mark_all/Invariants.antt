use Rattle.std.proofs.Common.{take}
use Rattle.abc_verify_states.specs.Marking.{Marks}
use Rattle.abc_verify_states.proofs.heads.mark_all.Given as goal

abbrev pub invariant-loop-place : goal.invariant-loop-place
invariant-loop-place l = Marks (take l.place-index l.places) l.initial.marks l.marks

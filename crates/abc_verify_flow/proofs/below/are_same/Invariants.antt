use Rattle.std.proofs.Common.{◌≡◌, take}
use Rattle.abc_verify_flow.proofs.below.are_same.Given as goal

abbrev pub invariant-loop-place : goal.invariant-loop-place
invariant-loop-place l = take l.place l.kinds ≡ take l.place l.others

use Rattle.std.proofs.Common.{◌≡◌, drop}
use Rattle.abc_verify_typing.specs.Rules.{all_below}
use Rattle.abc_verify.proofs.tables.are_below.Given as goal

abbrev pub invariant-loop-place : goal.invariant-loop-place
invariant-loop-place l = all_below l.places l.end ≡ all_below (drop l.place-index l.places) l.end

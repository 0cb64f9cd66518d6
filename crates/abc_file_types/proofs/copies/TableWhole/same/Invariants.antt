use Rattle.std.proofs.Common.{◌≡◌, length, take}
use Rattle.abc_file_types.proofs.copies.TableWhole.same.Given as goal

abbrev pub invariant-loop-i : goal.invariant-loop-i
invariant-loop-i g l = (length l.self ≡ length l.other) × (take l.i l.self ≡ take l.i l.other)

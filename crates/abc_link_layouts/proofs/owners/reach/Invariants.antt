use Rattle.std.proofs.Common.{◌≡◌, ℕ, None, get_or, length}
use Rattle.abc_link_layouts.proofs.owners.reach.Given as goal

abbrev pub invariant-loop-place : goal.invariant-loop-place
invariant-loop-place l = (length l.table ≡ l._place) × ((k : ℕ) → get_or l.table k None ≡ get_or l.initial.table k None)

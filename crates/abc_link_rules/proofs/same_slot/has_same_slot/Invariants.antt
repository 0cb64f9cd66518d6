use Rattle.std.proofs.Common.{◌≡◌, ℕ, ◌<◌, false, get_or, nat_eq}
use Rattle.abc_base_graphs.specs.Index.{first}
use Rattle.abc_link_rules.specs.Repeats.{is_repeat}
use Rattle.abc_link_rules.proofs.same_slot.has_same_slot.Given as goal

abbrev pub invariant-loop-i : goal.invariant-loop-i
invariant-loop-i l = (k : ℕ) → k < l.i → is_repeat (first (nat_eq (get_or l.ids.items k 0)) l.ids.items) (get_or l.ids.items k 0) k ≡ false

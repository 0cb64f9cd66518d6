use Rattle.std.proofs.Common.{◌≡◌}
use Rattle.std.specs.List.{AllWithin}
use Rattle.abc_host.proofs.names.is_name_among.Given as goal

abbrev pub invariant-loop-entry : goal.invariant-loop-entry
invariant-loop-entry g l = AllWithin (λ entry. entry.formula.name ≡ l.name → ⊥) l.entries 0 l.entry-index

-- Where places of code as it was read are in the canonical bytes.
use Rattle.std.specs.Prelude.{ℕ, ◌-◌, ◌^◌, List, get_or, nat_eq, option_map, Some, None, if◌then◌else◌}
use Rattle.std.specs.declared.option.Option.{Option}
use Rattle.std.specs.List.{position}
use Rattle.abc_file_types.specs.declared.instructions.Code.{Code}
use Rattle.abc_file_types.specs.CodeBytes.{canonical_starts}

-- no instruction starts there
abbrev pub no_mark : ℕ
no_mark = 2 ^ 32 - 1

abbrev pub mark_of : ℕ → Option ℕ
mark_of m = if nat_eq m no_mark then None else Some m

-- what a table by places says of a place; of one past its end, nothing
abbrev pub mark_at : List ℕ → ℕ → Option ℕ
mark_at table p = mark_of (get_or table p no_mark)

-- one mark more
abbrev pub with_mark : ℕ → ℕ → (ℕ → Option ℕ) → ℕ → Option ℕ
with_mark place moved marks p = if nat_eq p place then Some moved else marks p

-- where the instruction that starts at a place starts among the moved starts, or where the code ends
abbrev pub moved_at : List ℕ → List ℕ → ℕ → Option ℕ
moved_at ss ms p = option_map (λ n. get_or ms n 0) (position (λ s. nat_eq s p) ss)

-- the same for the canonical bytes of code
abbrev pub moved_in : Code → ℕ → Option ℕ
moved_in c = moved_at c.offsets (canonical_starts c.instrs)

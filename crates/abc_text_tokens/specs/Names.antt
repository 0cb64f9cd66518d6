-- Finding a name among some.
use Rattle.std.specs.Prelude.{◌≡◌, ℕ, zero, suc, Bool, List, [], ◌∷◌, Some, None, nat_eq, take, if◌then◌else◌}
use Rattle.std.specs.declared.option.Option.{Option}
use Rattle.std.specs.declared.hash.FoldHasher.{FoldHasher}
use Rattle.std.specs.declared.hash.BuildHasherDefault.{BuildHasherDefault}
use Rattle.std.specs.Borrow.{Bor}
use Rattle.std.specs.List.{position_or_len}
use Rattle.std.specs.Str.{bytes_eq}
use Rattle.indexmap.specs.IndexMap.{IndexMap, get_by}
use Rattle.abc_file_types.specs.Opcodes.{name_at, names_of_opcodes}

abbrev pub is_name_equal : List ℕ → Bor (List ℕ) → Bool
is_name_equal name key = bytes_eq key.now name

-- values by names
abbrev pub NameMap : Type 0 → Type 0
NameMap V = IndexMap (Bor (List ℕ)) V (BuildHasherDefault FoldHasher)

abbrev pub found_name : {V : Type 0} → NameMap V → List ℕ → Option V
found_name m name = get_by (is_name_equal name) m

-- the first of two, where it is there
abbrev pub either_of : {A : Type 0} → Option A → Option A → Option A
either_of (Some n) o = Some n
either_of None o = o

-- The name has this value now, and the others have what they had.
abbrev pub GivesName : {V : Type 0} → NameMap V → NameMap V → List ℕ → V → Type 0
GivesName old new name value = (other : List ℕ) → found_name new other ≡ (if bytes_eq name other then Some value else found_name old other)

-- The name has this value now, unless it had one.
abbrev pub AddsName : {V : Type 0} → NameMap V → NameMap V → List ℕ → V → Type 0
AddsName old new name value = (other : List ℕ) → found_name new other ≡ either_of (found_name old other) (if bytes_eq name other then Some value else None)

-- the opcode of the first instruction of a name
abbrev pub opcode_of_name : List (ℕ × List ℕ) → List ℕ → Option ℕ
opcode_of_name [] name = None
opcode_of_name (row ∷ rows) name = if bytes_eq row.1 name then Some row.0 else opcode_of_name rows name

-- the map has the opcode of each instruction by its name, and nothing by other names
abbrev pub KnowsOpcodes : NameMap ℕ → Type 0
KnowsOpcodes m = (name : List ℕ) → found_name m name ≡ opcode_of_name names_of_opcodes name

abbrev pub first_named : Option (List ℕ) → ℕ → List ℕ → Option ℕ → Option ℕ
first_named None op name other = other
first_named (Some n) op name other = if bytes_eq n name then Some op else other

-- the opcode of a name, among so many from one on
unfoldable pub opcode_from : ℕ → ℕ → List ℕ → Option ℕ
opcode_from zero op name = None
opcode_from (suc k) op name = first_named (name_at op) op name (opcode_from k (suc op) name)

-- ---- words in a table, padded with blanks

-- the bytes before the first blank, or all
abbrev pub before_blank : List ℕ → List ℕ
before_blank name = take (position_or_len (λ b. nat_eq b 0x20) name) name

-- the row's word and its kind
abbrev pub without_blanks : {K : Type 0} → List ℕ × K → List ℕ × K
without_blanks row = (before_blank row.0, row.1)

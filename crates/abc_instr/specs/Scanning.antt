-- Code between reading and putting: it stands as its canonical bytes, but for its offsets, which are known besides.
use Rattle.std.specs.Prelude.{◌≡◌, ℕ, suc, ℤ, pos, negsuc, ◌+ℤ◌, ◌-ℤ◌, ◌+◌, ◌-◌, ◌*◌, ◌^◌, ◌<◌, ◌≤◌, All, if◌then◌else◌, nat_eq, List, [], ◌∷◌, ◌++◌, length, map, Some, None, Ok, Err}
use Rattle.std.specs.List.{flat_map, splice}
use Rattle.std.specs.declared.option.Option.{Option}
use Rattle.std.specs.declared.result.Result.{Result}
use Rattle.abc_base.specs.Numbers.{number_bytes}
use Rattle.abc_file_types.specs.Canonical.{s24_bytes}
use Rattle.abc_file_types.specs.Part.{Refusal, limit, ◌>>=◌}
use Rattle.abc_file_types.specs.CodeBytes.{instr_bytes, number_len}
use Rattle.abc_file_types.specs.Instructions.{RawInstr}
use Rattle.abc_file_types.specs.Starts.{starts as starts_from, size as size_of}
use Rattle.abc_file_types.specs.Targets.{found_target}
use Rattle.abc_instr.specs.declared.holes.Hole.{Hole}
use Rattle.abc_instr.specs.declared.scan.Scan.{Scan}
use Rattle.abc_varint.specs.View.{GoesOver, View}
use Rattle.abc_instr.specs.Marks.{mark_at, moved_at}
use Rattle.abc_instr.specs.declared.raw.RawInstr.{RawInstr as Raw}
use Rattle.abc_instr.specs.declared.raw.RawInstr.TheVariants as raws
use Rattle.abc_instr.specs.Offsets.{raw_len, raw_of, raws_len, raws_sized, AreRaw, IsRaw}

-- ---- one instruction

-- the canonical bytes, but for offsets, which are spelled as they were read
abbrev pub raw_bytes : Raw → List ℕ
raw_bytes (raws.Same i) = instr_bytes [] 0 0 i
raw_bytes (raws.Branch op z) = op ∷ s24_bytes z
raw_bytes (raws.Switch z zs) = 0x1b ∷ (s24_bytes z ++ (number_bytes (length zs - 1) ++ flat_map s24_bytes zs))

-- the bytes of an instruction without targets
abbrev pub plain_bytes : Raw → List ℕ
plain_bytes (raws.Same i) = instr_bytes [] 0 0 i
plain_bytes (raws.Branch op z) = []
plain_bytes (raws.Switch z zs) = []

-- the instruction, where it has targets
abbrev pub jump_in : Raw → Option Raw
jump_in (raws.Same i) = None
jump_in (raws.Branch op z) = Some (raws.Branch op z)
jump_in (raws.Switch z zs) = Some (raws.Switch z zs)

-- the offsets of a switch's cases: the last one ends at `next` as they were read, and the first starts at `at` in the canonical code
abbrev pub case_holes : ℕ → ℕ → ℕ → ℕ → List ℤ → List Hole
case_holes next at base moved [] = []
case_holes next at base moved (z ∷ zs) = record { place = next - 3 * suc (length zs); at = at; base = base; moved = moved; offset = z } ∷ case_holes next (at + 3) base moved zs

-- the offsets of one from `here` to `next`, which starts at `moved` in the canonical code
abbrev pub holes_in : Raw → ℕ → ℕ → ℕ → List Hole
holes_in (raws.Same i) here next moved = []
holes_in (raws.Branch op z) here next moved = record { place = here + 1; at = moved + 1; base = next; moved = moved + 4; offset = z } ∷ []
holes_in (raws.Switch z zs) here next moved = record { place = here + 1; at = moved + 1; base = here; moved = moved; offset = z } ∷ case_holes next (moved + 4 + number_len (length zs - 1)) here moved zs

-- ---- instructions, each with the number of bytes that it had as it was read

abbrev pub instrs_in : List (Raw × ℕ) → List Raw
instrs_in xs = map (λ x. x.0) xs

abbrev pub raws_in : List (Raw × ℕ) → List (RawInstr × ℕ)
raws_in xs = map (λ x. (raw_of x.0, x.1)) xs

-- their offsets, from these places on
abbrev pub holes_from : ℕ → ℕ → List (Raw × ℕ) → List Hole
holes_from here moved [] = []
holes_from here moved (x ∷ xs) = holes_in x.0 here (here + x.1) moved ++ holes_from (here + x.1) (moved + raw_len x.0) xs

-- where the one that starts at a place starts in the canonical bytes, from these places on
abbrev pub start_in : ℕ → ℕ → List (Raw × ℕ) → ℕ → Option ℕ
start_in here moved [] p = None
start_in here moved (x ∷ xs) p = if nat_eq p here then Some moved else start_in (here + x.1) (moved + raw_len x.0) xs p

-- The scan is of these instructions, so far.
pub record IsScan (xs : List (Raw × ℕ)) (scan : Scan) : Type 0 where
  pub marks : (p : ℕ) → mark_at scan.marks p ≡ start_in 0 0 xs p
  pub code : scan.code.items ≡ flat_map raw_bytes (instrs_in xs)
  pub holes : scan.holes.items ≡ holes_from 0 0 xs

-- The scan is of these instructions, and of no others.
pub record IsWholeScan (xs : List (Raw × ℕ)) (scan : Scan) : Type 0 where
  pub marks : mark_at scan.marks ≡ moved_at (starts_from 0 xs) (starts_from 0 (raws_sized (instrs_in xs)))
  pub code : scan.code.items ≡ flat_map raw_bytes (instrs_in xs)
  pub holes : scan.holes.items ≡ holes_from 0 0 xs

-- They were read, but for their targets, from at most n bytes, in which they can be put.
pub record AreRead (n : ℕ) (xs : List (Raw × ℕ)) : Type 0 where
  pub some : All (λ x. 0 < x.1) xs
  pub raw : AreRaw (instrs_in xs)
  pub size : size_of xs ≤ n
  pub few : raws_len (instrs_in xs) ≤ n

-- An instruction of n bytes, from here on, came to the scan.
pub record AddsInstruction (x : Raw) (n here : ℕ) (old new : Scan) : Type 0 where
  pub code : new.code.items ≡ old.code.items ++ raw_bytes x
  pub holes : new.holes.items ≡ old.holes.items ++ holes_in x here (here + n) (length old.code.items)
  pub marks : new.marks ≡ old.marks

-- One instruction was passed by, where `says` tells what was read.
pub record ScansInstr {E : Type 0} (says : Result RawInstr E → Type 0) (first : ℕ) (w w2 : View) (old new : Scan) : Type 0 where
  pub instr : Raw
  pub moves : w.place < w2.place
  pub passes : GoesOver (raw_len instr) w w2
  pub room : w2.place ≤ limit
  pub raw : IsRaw instr
  pub adds : AddsInstruction instr (w2.place - w.place) (w.place - first) old new
  pub says_so : says (Ok (raw_of instr))

abbrev pub ScansInstrOn : {T E : Type 0} → (Result RawInstr E → Type 0) → ℕ → View → View → Scan → Scan → Result T E → Type 0
ScansInstrOn says first w w2 old new (Ok t) = ScansInstr says first w w2 old new
ScansInstrOn says first w w2 old new (Err e) = says (Err e)

-- what a scan of n bytes leaves so far, where `says` tells what was read
abbrev pub ScansOn : {T E : Type 0} → (Result (List (RawInstr × ℕ)) E → Type 0) → ℕ → View → View → Scan → Result T E → Type 0
ScansOn says n w w2 scan (Ok t) = (xs : List (Raw × ℕ)) × IsScan xs scan × AreRead n xs × (w.place + size_of xs ≡ w2.place) × says (Ok (raws_in xs))
ScansOn says n w w2 scan (Err e) = says (Err e)

-- what a scan of n bytes leaves, where `says` tells what was read
abbrev pub Scans : {T E : Type 0} → (Result (List (RawInstr × ℕ)) E → Type 0) → ℕ → Scan → Result T E → Type 0
Scans says n scan (Ok t) = (xs : List (Raw × ℕ)) × IsWholeScan xs scan × AreRead n xs × says (Ok (raws_in xs))
Scans says n scan (Err e) = says (Err e)

-- ---- bytes from a scan

-- where a place is moved; there is none before the code
abbrev pub target_moved : (ℕ → Option ℕ) → ℤ → Option ℕ
target_moved marks (pos p) = marks p
target_moved marks (negsuc p) = None

-- the offset from a moved base to where a target is moved, that stood at this place as an offset from a base
abbrev pub target_bytes : (ℕ → Option ℕ) → ℕ → ℕ → ℕ → ℤ → Result (List ℕ) Refusal
target_bytes marks place base moved z = found_target place (target_moved marks (pos base +ℤ z)) >>= λ m. Ok (s24_bytes (pos m -ℤ pos moved))

-- the code with each offset mended, or the first that leads nowhere
abbrev pub mended : (ℕ → Option ℕ) → List ℕ → List Hole → Result (List ℕ) Refusal
mended marks code [] = Ok code
mended marks code (h ∷ hs) = target_bytes marks h.place h.base h.moved h.offset >>= λ b. mended marks (splice code h.at (h.at + 3) b) hs

-- the number of bytes, and the bytes
abbrev pub scan_bytes : Scan → Result (List ℕ) Refusal
scan_bytes scan = mended (mark_at scan.marks) scan.code.items scan.holes.items >>= λ b. Ok (number_bytes (length scan.code.items) ++ b)

-- The offset stands in code of n bytes, and its places are small, as those of code are.
pub record IsHole (n : ℕ) (h : Hole) : Type 0 where
  pub within : h.at + 3 ≤ n
  pub base : h.base ≤ 2 ^ 24
  pub moved : h.moved < 2 ^ 23

-- Code between reading and resolving: what has no targets stands as it is, and what has some waits for them.
use Rattle.std.specs.Prelude.{◌≡◌, ℕ, ◌+◌, ◌^◌, ◌<◌, ◌≤◌, All, get_or, set, List, [], ◌∷◌, ◌++◌, length, map, Some, None, Ok, Err}
use Rattle.std.specs.Int.{w32, cast_signed}
use Rattle.std.specs.declared.option.Option.{Option}
use Rattle.std.specs.declared.result.Result.{Result}
use Rattle.abc_file_types.specs.Part.{Refusal, limit, ◌>>=◌}
use Rattle.abc_file_types.specs.declared.code.Instr.{Instr}
use Rattle.abc_file_types.specs.declared.code.Instr.TheVariants as instrs
use Rattle.abc_file_types.specs.declared.instructions.Code.{Code}
use Rattle.abc_file_types.specs.Instructions.{RawInstr, Same, Branch, Switch}
use Rattle.abc_file_types.specs.Starts.{starts as starts_from, size as size_of, IsRising}
use Rattle.abc_file_types.specs.Targets.{instr_of}
use Rattle.abc_varint.specs.View.{GoesOver, View}
use Rattle.abc_instr.specs.declared.raw.RawInstr.{RawInstr as Raw}
use Rattle.abc_instr.specs.declared.raw.RawInstr.TheVariants as raws
use Rattle.abc_instr.specs.declared.reading.Reading.{Reading}
use Rattle.abc_instr.specs.Offsets.{raw_len, raw_of, IsRaw}
use Rattle.abc_instr.specs.Scanning.{jump_in, raws_in, AreRead}

-- ---- one instruction

-- the instruction, where it has no targets
abbrev pub done_in : Raw → List Instr
done_in (raws.Same i) = i ∷ []
done_in (raws.Branch op z) = []
done_in (raws.Switch z zs) = []

-- the instruction as it was read, where its offsets stand in the place of its targets
abbrev pub raw_instr : Instr → RawInstr
raw_instr (instrs.Plain op) = Same (instrs.Plain op)
raw_instr (instrs.One op n) = Same (instrs.One op n)
raw_instr (instrs.Two op n m) = Same (instrs.Two op n m)
raw_instr (instrs.Branch op n) = Branch op (cast_signed w32 n)
raw_instr (instrs.Switch n ns) = Switch (cast_signed w32 n) (map (cast_signed w32) ns)
raw_instr (instrs.Byte z) = Same (instrs.Byte z)
raw_instr (instrs.Short z) = Same (instrs.Short z)
raw_instr (instrs.ScopeObject x) = Same (instrs.ScopeObject x)
raw_instr (instrs.Debug kind name reg extra) = Same (instrs.Debug kind name reg extra)

-- at most one that waits
abbrev pub aims_in : Option Raw → ℕ → List ℕ
aims_in (Some i) index = index ∷ []
aims_in None index = []

-- ---- instructions, each with the number of bytes that it had as it was read

-- those that wait, from this number on
abbrev pub aims_from : ℕ → List (Raw × ℕ) → List ℕ
aims_from index [] = []
aims_from index (x ∷ xs) = aims_in (jump_in x.0) index ++ aims_from (index + 1) xs

-- their starts, without the end
abbrev pub starts_before : ℕ → List (Raw × ℕ) → List ℕ
starts_before here [] = []
starts_before here (x ∷ xs) = here ∷ starts_before (here + x.1) xs

abbrev pub raws_in_pieces : List (Raw × ℕ) → List RawInstr
raws_in_pieces xs = map (λ x. raw_of x.0) xs

-- These instructions were read so far.
pub record IsReading (xs : List (Raw × ℕ)) (r : Reading) : Type 0 where
  pub starts : r.starts ≡ starts_before 0 xs
  pub instrs : map raw_instr r.instrs ≡ raws_in_pieces xs
  pub aims : r.aims.items ≡ aims_from 0 xs

-- These instructions were read, and no others.
pub record AreInstructionsRead (xs : List (Raw × ℕ)) (r : Reading) : Type 0 where
  pub starts : r.starts ≡ starts_from 0 xs
  pub instrs : map raw_instr r.instrs ≡ raws_in_pieces xs
  pub aims : r.aims.items ≡ aims_from 0 xs

-- An instruction came to the others.
pub record Takes (x : Raw) (old new : Reading) : Type 0 where
  pub instr : Instr
  pub is : raw_instr instr ≡ raw_of x
  pub instrs : new.instrs ≡ old.instrs ++ instr ∷ []
  pub aims : new.aims.items ≡ old.aims.items ++ aims_in (jump_in x) (length old.instrs)
  pub starts : new.starts ≡ old.starts

-- One instruction was read, where `says` tells what.
pub record TakesInstr {E : Type 0} (says : Result RawInstr E → Type 0) (w w2 : View) (old new : Reading) : Type 0 where
  pub instr : Raw
  pub moves : w.place < w2.place
  pub passes : GoesOver (raw_len instr) w w2
  pub room : w2.place ≤ limit
  pub raw : IsRaw instr
  pub takes : Takes instr old new
  pub says_so : says (Ok (raw_of instr))

abbrev pub TakesInstrOn : {T E : Type 0} → (Result RawInstr E → Type 0) → View → View → Reading → Reading → Result T E → Type 0
TakesInstrOn says w w2 old new (Ok t) = TakesInstr says w w2 old new
TakesInstrOn says w w2 old new (Err e) = says (Err e)

-- ---- targets

-- each of those that wait gets its targets, in their order
abbrev pub with_targets : List ℕ → List ℕ → List Instr → Result (List Instr) Refusal
with_targets ss [] is = Ok is
with_targets ss (a ∷ more) is = instr_of ss (get_or ss a 0) (get_or ss (a + 1) 0) (raw_instr (get_or is a (instrs.Plain 0))) >>= λ i. with_targets ss more (set is a i)

-- They are the starts of n instructions and their end, and small, as places in code are.
pub record AreSmallStarts (n : ℕ) (ss : List ℕ) : Type 0 where
  pub rising : IsRising ss
  pub count : length ss ≡ n + 1
  pub few : length ss < 2 ^ 32
  pub small : All (λ s. s ≤ 2 ^ 24) ss

-- ---- what reading n bytes leaves, where `says` tells what was read

-- From w to w2 stood instructions xs of at most n bytes: `leaves` holds of them and the reading r, and `says` of what they are.
-- Where there was an error, `says` holds of it.
abbrev pub ReadsPieces : {T E : Type 0} → (Result (List (RawInstr × ℕ)) E → Type 0) → (List (Raw × ℕ) → Reading → Type 0) → ℕ → View → View → Reading → Result T E → Type 0
ReadsPieces says leaves n w w2 r (Ok t) = (xs : List (Raw × ℕ)) × leaves xs r × AreRead n xs × (w.place + size_of xs ≡ w2.place) × says (Ok (raws_in xs))
ReadsPieces says leaves n w w2 r (Err e) = says (Err e)

abbrev pub code_from : List ℕ → List Instr → Code
code_from ss is = record { instrs = is; offsets = ss }

-- the instructions with their starts
abbrev pub with_starts : List ℕ → Result (List Instr) Refusal → Result Code Refusal
with_starts ss read = read >>= λ is. Ok (code_from ss is)

-- the instructions that a reader gives, with the starts that it leaves in its reading
abbrev pub with_offsets : {E : Type 0} → Result (List Instr) E → List ℕ → Result Code E
with_offsets (Ok is) ss = Ok (code_from ss is)
with_offsets (Err e) ss = Err e

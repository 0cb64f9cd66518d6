-- What reading a whole file answers (profile: docs/THEOREMS.md, "Files").
use Rattle.std.specs.Prelude.{◌≡◌, ◌≢◌, List, ℕ, [], drop, Some, None, Ok, Err}
use Rattle.std.specs.declared.result.Result.{Result}
use Rattle.std.specs.declared.option.Option.{Option}
use Rattle.abc_file_types.specs.Part.{no_end, refusal}
use Rattle.abc_varint.specs.View.{View}
use Rattle.abc_varint.specs.declared.error.ReadError.{ReadError}
use Rattle.abc_varint.specs.declared.error.ReadError.TheVariants as errors
use Rattle.abc_varint.specs.Reads.{IsInput, known_input}
use Rattle.abc_file_types.specs.declared.reason.Reason.TheVariants as reasons
use Rattle.abc_file_types.specs.declared.tables.Abc.{Abc}
use Rattle.abc_file_types.specs.Files.{IsFile, IsFileRead, IsBadFile, file_bytes}
use Rattle.abc_bodies.specs.Reading.{keeping}

-- It holds of the input that a source tells, or else of some input.
abbrev pub OfInput : Option (List ℕ) → (List ℕ → Type 0) → Type 0
OfInput None P = (input : List ℕ) × P input
OfInput (Some input) P = P input

-- an accepted value is spelled by all the bytes, with its instructions where the places say; a refusal is their first fault
abbrev pub AnswersFile : List ℕ → Result (Abc × List (List ℕ)) ReadError → Type 0
AnswersFile b (Ok v) = IsFileRead v b
AnswersFile b (Err (errors.Refused place reason)) = IsBadFile b (refusal place reason)
AnswersFile b (Err errors.ReadFault) = Unit {0}
AnswersFile b (Err errors.NoMemory) = Unit {0}

-- a source that told its bytes has none left
abbrev pub IsUsedUp : Option (List ℕ) → Option (List ℕ) → Type 0
IsUsedUp None new = Unit {0}
IsUsedUp (Some bytes) new = new ≡ Some []

-- a window that has read nothing
pub record IsNew (w : View) : Type 0 where
  pub place : w.place ≡ 0
  pub taken : w.taken ≡ []
  pub kept : w.kept ≡ None
  pub end : w.end ≡ no_end

-- What is known now may have been the input before, and nothing of it stands ahead.
pub record IsInputEnd (w : View) (s : Option (List ℕ)) (w2 : View) (s2 : Option (List ℕ)) : Type 0 where
  pub input : IsInput w s (known_input w2 s2)
  pub none : drop w.place (known_input w2 s2).bytes ≡ []

-- the Err of a file that something follows: at its first byte, or that of a failed read
abbrev pub IsTrailing : View → Option (List ℕ) → View → Option (List ℕ) → ReadError → Type 0
IsTrailing w s w2 s2 (errors.Refused place reason) = (place ≡ w.place) × (reason ≡ reasons.Trailing) × IsInput w s (known_input w2 s2) × (drop w.place (known_input w2 s2).bytes ≢ [])
IsTrailing w s w2 s2 errors.ReadFault = Unit {0}
IsTrailing w s w2 s2 errors.NoMemory = ⊥

-- they are what is written of the file that the input spells
abbrev pub WritesFile : (Abc → List ℕ) → List ℕ → List ℕ → Type 0
WritesFile write bytes input = (v : Abc) × IsFile v input × (bytes ≡ write v)

-- The bytes are what `write` makes of the file that the input spells. The input is `left`, where the source tells it, or else some input.
abbrev pub IsWrittenOf : (Abc → List ℕ) → Option (List ℕ) → List ℕ → Type 0
IsWrittenOf write left bytes = OfInput left (WritesFile write bytes)

-- they are the canonical bytes of that file
abbrev pub IsCanonicalOf : Option (List ℕ) → List ℕ → Type 0
IsCanonicalOf left bytes = IsWrittenOf file_bytes left bytes

-- a refusal is the first fault of the input
abbrev pub Refuses : ReadError → List ℕ → Type 0
Refuses (errors.Refused place reason) input = IsBadFile input (refusal place reason)
Refuses errors.ReadFault input = Unit {0}
Refuses errors.NoMemory input = Unit {0}

-- The error, if it is a refusal, is the first fault of the input. The input is `left`, where the source tells it, or else some input.
abbrev pub IsErrorOf : Option (List ℕ) → ReadError → Type 0
IsErrorOf left e = OfInput left (Refuses e)

-- an accepted value is that which all the bytes spell, with what is kept of the places of its instructions; a refusal is their first fault
abbrev pub AnswersKept : {K : Type 0} → (List (List ℕ) → K) → List ℕ → Result (Abc × K) ReadError → Type 0
AnswersKept of_places b (Ok x) = (v : Abc × List (List ℕ)) × IsFileRead v b × (x ≡ keeping of_places v)
AnswersKept of_places b (Err e) = Refuses e b

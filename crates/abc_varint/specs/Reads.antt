-- What a reader does with a window and a source.
use Rattle.std.specs.Prelude.{◌≡◌, ℕ, ◌+◌, ◌≤◌, Bool, true, List, [], ◌++◌, Some, None, Ok, Err, IfErr, drop, is_some, min, take, length}
use Rattle.std.specs.declared.result.Result.{Result}
use Rattle.std.specs.declared.option.Option.{Option}
use Rattle.abc_base.specs.Faults.{Rose}
use Rattle.abc_file_types.specs.Part.{Part, At, Refusal, refusal}
use Rattle.abc_varint.specs.declared.error.ReadError.{ReadError}
use Rattle.abc_varint.specs.declared.error.ReadError.TheVariants as errors
use Rattle.abc_varint.specs.View.{View, IsKept, error_kept}

-- ---- the input

-- The bytes of an input, and whether its source tells them.
pub record Input : Type 0 where
  pub bytes : List ℕ
  pub told : Bool

-- Of an input these bytes were taken, and the source tells what is left, if it tells its bytes.
abbrev pub Continues : List ℕ → Option (List ℕ) → Input → Type 0
Continues taken None input = take (length taken) input.bytes ≡ taken
Continues taken (Some left) input = (input.told ≡ true) × (input.bytes ≡ taken ++ left)

-- It may be the whole input, as far as that is known.
abbrev pub IsInput : View → Option (List ℕ) → Input → Type 0
IsInput w s input = Continues w.taken s input

-- what the source tells of what is left
abbrev pub told_bytes : Option (List ℕ) → List ℕ
told_bytes None = []
told_bytes (Some left) = left

-- the input, if nothing follows but what the source tells
abbrev pub known_input : View → Option (List ℕ) → Input
known_input w s = record { bytes = w.taken ++ told_bytes s; told = is_some s }

-- where the window stands in an input, and the bytes from there on
abbrev pub stand : View → Input → At
stand w input = record { place = w.place; bytes = drop w.place input.bytes; end = w.end }

-- ---- readers

-- what an Err says of reading, unless reading failed or memory ran out
abbrev pub FailsReading : {Y : Type 0} → ReadError → Result Y Refusal → Type 0
FailsReading (errors.Refused place reason) read = read ≡ Err (refusal place reason)
FailsReading errors.ReadFault read = Unit {0}
FailsReading errors.NoMemory read = Unit {0}

-- The result is what `reads` gives, from where the window stood to where it stands now: a value in whatever may be the input, an Err in that which is known.
abbrev pub Reads : {X : Type 0} → (At → Result (X × At) Refusal) → View → Option (List ℕ) → View → Option (List ℕ) → Result X ReadError → Type 0
Reads reads w s w2 s2 (Ok x) =
    (w.kept ≡ None) × (w2.kept ≡ None) × (w.place ≤ w2.place) × (w2.end ≡ w.end)
    × ((input : Input) → IsInput w2 s2 input → IsInput w s input × (reads (stand w input) ≡ Ok (x, stand w2 input)))
Reads reads w s w2 s2 (Err e) = w.kept ≡ None → IsInput w s (known_input w2 s2) × FailsReading e (reads (stand w (known_input w2 s2)))

-- An Err that the window kept is answered again, and then nothing is taken and nothing changes.
abbrev pub AnswersKeptErr : {S X : Type 0} → View → S → View → S → Result X ReadError → Type 0
AnswersKeptErr w s w2 s2 r = (e : ReadError) → w.kept ≡ Some e → (r ≡ Err e) × (s2 ≡ s) × (w2 ≡ w)

-- a read fault is told only where the count of faults rose, or stood at its last value
abbrev pub Blames : {X : Type 0} → View → ℕ → ℕ → Result X ReadError → Type 0
Blames w before now r = (w.kept ≡ None) → r ≡ Err errors.ReadFault → Rose before now

-- An Err leaves the window with the end that it had, and is kept exactly where it is of a byte or a number.
abbrev pub WindowKeeps : {X : Type 0} → View → View → Result X ReadError → Type 0
WindowKeeps w w2 r = IfErr r (λ e. (w2.kept ≡ error_kept e) × (w2.end ≡ w.end))

-- What a reader of a part does, for a source that means `left` and `faults`: it reads, answers a kept Err again and takes nothing then, and has a cause for a read fault.
abbrev pub ReadsPart : {S X : Type 0} → (S → Option (List ℕ)) → (S → ℕ) → Part X → View → S → View → S → Result X ReadError → Type 0
ReadsPart left faults part w s w2 s2 r =
    Reads part.reads w (left s) w2 (left s2) r
    × AnswersKeptErr w s w2 s2 r
    × (faults s ≤ faults s2)
    × Blames w (faults s) (faults s2) r
    × WindowKeeps w w2 r

-- A reader of a number keeps each Err, and takes no memory.
abbrev pub ReadsNumber : {S X : Type 0} → (S → Option (List ℕ)) → (S → ℕ) → Part X → View → S → View → S → Result X ReadError → Type 0
ReadsNumber left faults part w s w2 s2 r =
    ReadsPart left faults part w s w2 s2 r
    × IfErr r (λ e. IsKept e w2)
    × (r ≡ Err errors.NoMemory → ⊥)

-- the result of a reader that leaves its value in place
abbrev pub stored_value : {T X E : Type 0} → Result T E → X → Result X E
stored_value (Ok t) x = Ok x
stored_value (Err e) x = Err e

-- the same bytes, with another end
abbrev pub with_end : ℕ → At → At
with_end end a = record { place = a.place; bytes = a.bytes; end = end }

-- As `Reads`, of a window whose end was set within its next n bytes: whatever the end was before, so it is read from there.
abbrev pub ReadsUntil : {X : Type 0} → ℕ → (At → Result (X × At) Refusal) → View → Option (List ℕ) → View → Option (List ℕ) → Result X ReadError → Type 0
ReadsUntil n reads w s w2 s2 (Ok x) =
    (w.kept ≡ None) × (w2.kept ≡ None) × (w.place ≤ w2.place) × (w2.end ≡ w.end)
    × ((input : Input) → IsInput w2 s2 input → IsInput w s input × ((end : ℕ) → w.end ≡ min end (w.place + n) → reads (with_end end (stand w input)) ≡ Ok (x, with_end end (stand w2 input))))
ReadsUntil n reads w s w2 s2 (Err e) = w.kept ≡ None → IsInput w s (known_input w2 s2) × ((end : ℕ) → w.end ≡ min end (w.place + n) → FailsReading e (reads (with_end end (stand w (known_input w2 s2)))))

-- What a call does that reads a value and appends its canonical bytes, and keeps no more of it than it tells.
use Rattle.std.specs.Prelude.{◌≡◌, ◌≤◌, ℕ, List, ◌++◌, None, Ok, Err}
use Rattle.std.specs.declared.result.Result.{Result}
use Rattle.std.specs.declared.option.Option.{Option}
use Rattle.abc_file_types.specs.Part.{Part, At}
use Rattle.abc_varint.specs.Reads.{AnswersKeptErr, Blames, FailsReading, Input, IsInput, WindowKeeps, known_input, stand}
use Rattle.abc_varint.specs.View.{View}
use Rattle.abc_varint.specs.declared.error.ReadError.{ReadError}

-- A value was read between the two places, its bytes stand at the end, and what is told is told of it.
pub record Rewrites {X T : Type 0} (part : Part X) (canonical : X → List ℕ) (told : X → T) (from to : At) (old new : List ℕ) (t : T) : Type 0 where
  pub value : X
  pub read : part.reads from ≡ Ok (value, to)
  pub bytes : new ≡ old ++ canonical value
  pub tells : t ≡ told value

-- As `Reads`, of a call that keeps no value; after an Err the bytes may be any.
abbrev pub Passes : {X T : Type 0} → Part X → (X → List ℕ) → (X → T) → View → Option (List ℕ) → View → Option (List ℕ) → List ℕ → List ℕ → Result T ReadError → Type 0
Passes part canonical told w s w2 s2 old new (Ok t) =
    (w.kept ≡ None) × (w2.kept ≡ None) × (w.place ≤ w2.place) × (w2.end ≡ w.end)
    × ((input : Input) → IsInput w2 s2 input → IsInput w s input × Rewrites part canonical told (stand w input) (stand w2 input) old new t)
Passes part canonical told w s w2 s2 old new (Err e) = w.kept ≡ None → IsInput w s (known_input w2 s2) × FailsReading e (part.reads (stand w (known_input w2 s2)))

-- As `ReadsPart`, of a call that keeps no value.
abbrev pub PassesPart : {S X T : Type 0} → (S → Option (List ℕ)) → (S → ℕ) → Part X → (X → List ℕ) → (X → T) → View → S → View → S → List ℕ → List ℕ → Result T ReadError → Type 0
PassesPart left faults part canonical told w s w2 s2 old new r =
    Passes part canonical told w (left s) w2 (left s2) old new r
    × AnswersKeptErr w s w2 s2 r
    × (faults s ≤ faults s2)
    × Blames w (faults s) (faults s2) r
    × WindowKeeps w w2 r

-- nothing is told
abbrev pub nothing_told : {X : Type 0} → X → Unit {0}
nothing_told x = tt

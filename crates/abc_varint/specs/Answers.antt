-- What a reader's answer says of the bytes.
use Rattle.std.specs.Prelude.{◌≡◌, ℕ, List, None, Ok, Err}
use Rattle.std.specs.declared.result.Result.{Result}
use Rattle.std.specs.declared.option.Option.{Option}
use Rattle.abc_file_types.specs.Part.{Part, At, Begins, refusal}
use Rattle.abc_varint.specs.declared.error.ReadError.{ReadError}
use Rattle.abc_varint.specs.declared.error.ReadError.TheVariants as errors
use Rattle.abc_varint.specs.Reads.{Input, IsInput, stand}
use Rattle.abc_varint.specs.View.{View}

-- a value is spelled by the bytes between the two, and a refusal is the first fault of what stands ahead
abbrev pub IsAnswer : {X : Type 0} → Part X → At → At → Result X ReadError → Type 0
IsAnswer part from to (Ok x) = Begins part from x to
IsAnswer part from to (Err (errors.Refused place reason)) = part.bad from (refusal place reason)
IsAnswer part from to (Err errors.ReadFault) = Unit {0}
IsAnswer part from to (Err errors.NoMemory) = Unit {0}

-- So it is of some input, which is the one that the source tells, where it tells its bytes.
pub record AnswersSome {X : Type 0} (part : Part X) (w : View) (s : Option (List ℕ)) (w2 : View) (s2 : Option (List ℕ)) (r : Result X ReadError) : Type 0 where
  pub input : Input
  pub before : IsInput w s input
  pub after : IsInput w2 s2 input
  pub is : IsAnswer part (stand w input) (stand w2 input) r

-- So it is where the window kept nothing.
abbrev pub AnswersPart : {X : Type 0} → Part X → View → Option (List ℕ) → View → Option (List ℕ) → Result X ReadError → Type 0
AnswersPart part w s w2 s2 r = w.kept ≡ None → AnswersSome part w s w2 s2 r

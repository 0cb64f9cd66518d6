-- What the adapters make of an answer of std.
use Rattle.std.specs.Prelude.{◌≡◌, ◌<◌, ◌↔◌, ◌⊎◌, ℕ, List, length, Ok, IfOk, IsErr}
use Rattle.std.specs.declared.io.Error.{Error}
use Rattle.std.specs.declared.result.Result.{Result}
use Rattle.abc_base.specs.declared.source.Failed.{Failed}

-- an answer that the reader may give, passed on: it fails exactly where the reader answers an Err
pub record PassesReading (MayAnswer : Result ℕ Error → Type 0) (result : Result ℕ Failed) : Type 0 where
  pub answer : Result ℕ Error
  pub possible : MayAnswer answer
  pub fails : IsErr result ↔ IsErr answer
  pub count : IfOk result (λ n. answer ≡ Ok n)

-- an answer that the writer may give, passed on: it fails exactly where the writer answers an Err, or takes no byte of a piece that has some
pub record PassesWriting (MayAnswer : Result ℕ Error → Type 0) (piece : List ℕ) (result : Result ℕ Failed) : Type 0 where
  pub answer : Result ℕ Error
  pub possible : MayAnswer answer
  pub fails : IsErr result ↔ (IsErr answer ⊎ ((answer ≡ Ok 0) × (0 < length piece)))
  pub count : IfOk result (λ n. answer ≡ Ok n)

-- What holds of each form of number.
use Rattle.std.specs.Prelude.{ℕ, List}
use Rattle.abc_file_types.specs.Canonical.{IsCanonical}
use Rattle.abc_file_types.specs.Law.{Exact, IsDetermined}
use Rattle.abc_file_types.specs.Part.{Part}

-- Reading it answers what its spellings and its faults say, bytes begin with one in exactly one way or are refused, and
-- these bytes are its shortest spelling.
pub record IsNumberForm {A : Type 0} (part : Part A) (canonical : A → List ℕ) : Type 0 where
  pub exact : Exact part
  pub determined : IsDetermined part
  pub shortest : IsCanonical part canonical

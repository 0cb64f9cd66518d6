-- For the prover alone: bodies of different methods, method by method.
use Rattle.std.specs.Prelude.{◌≢◌, ◌+◌, ◌<◌, ◌≤◌, ℕ}
use Rattle.abc_file_types.specs.declared.code.Body.{Body}

-- two bodies of different methods
abbrev pub Differ : Body → Body → Type 0
Differ x y = x.method ≢ y.method

-- the same, where the method of the first is one of so many from `low` on
abbrev pub DifferFrom : ℕ → ℕ → Body → Body → Type 0
DifferFrom low many x y = low ≤ x.method → x.method < low + many → Differ x y

-- the second body is of a later method
abbrev pub Rise : Body → Body → Type 0
Rise x y = x.method < y.method

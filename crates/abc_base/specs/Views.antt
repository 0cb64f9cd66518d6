-- What contracts see of the sources and sinks in memory.
use Rattle.std.specs.Prelude.{ℕ, ◌+◌, ◌-◌, ◌^◌, min, List}

-- bytes that are read without a failure
pub record SteadyView : Type 0 where
  pub left : List ℕ
  pub piece : ℕ

-- bytes that are read, with calls that fail
pub record MemSourceView : Type 0 where
  pub left : List ℕ
  pub piece : ℕ
  -- how many calls there were
  pub calls : ℕ
  -- the numbers of the calls that fail
  pub failing : List ℕ
  pub faults : ℕ

-- bytes that were written, with calls that fail
pub record MemSinkView : Type 0 where
  pub taken : List ℕ
  -- how many bytes there may be in all
  pub room : ℕ
  pub piece : ℕ
  -- how many calls there were
  pub calls : ℕ
  -- the numbers of the calls that fail
  pub failing : List ℕ
  pub faults : ℕ

-- a reader or a writer of std, and how many of its calls failed
pub record AdapterView (T : Type 0) : Type 0 where
  pub inner : T
  pub faults : ℕ

-- a count goes up by one, and stands still at the last value of 64 bits
abbrev pub one_more : ℕ → ℕ
one_more count = min (count + 1) (2 ^ 64 - 1)

-- Values under keys.
use Rattle.std.specs.Prelude.{ℕ, List, [], ◌++◌}

-- values, and the key of each
pub record Listed (T : Type 0) : Type 0 where
  pub values : List T
  pub keys : List ℕ

-- no values, and so no keys
abbrev pub empty_list : {T : Type 0} → Listed T
empty_list = record { values = []; keys = [] }

-- the values of the first and then those of the second, each with its key
abbrev pub both_lists : {T : Type 0} → Listed T → Listed T → Listed T
both_lists a b = record { values = a.values ++ b.values; keys = a.keys ++ b.keys }

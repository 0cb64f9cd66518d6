-- How often each method is named, as a table.
use Rattle.std.specs.Prelude.{◌≡◌, ℕ, ◌<◌, List, length, get_or}
use Rattle.abc_link_names.specs.Methods.{times_named}

-- the table has for each of so many methods how often it is named
pub record AreTimes (times methods : List ℕ) (count : ℕ) : Type 0 where
  pub len : length times ≡ count
  pub counts : (m : ℕ) → m < count → get_or times m 0 ≡ times_named m methods

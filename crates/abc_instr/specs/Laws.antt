-- What spells code with its length.
use Rattle.std.specs.Prelude.{◌≡◌, ℕ, ◌<◌, ◌^◌, List, ◌++◌, length}
use Rattle.abc_base.specs.Numbers.{SpellsU30}
use Rattle.abc_file_types.specs.declared.instructions.Code.{Code}
use Rattle.abc_file_types.specs.Code.{SpellsCode}

-- the number of the code's bytes, below 2^23, and the bytes
pub record SpellsWithLength (c : Code) (b : List ℕ) : Type 0 where
  pub front : List ℕ
  pub body : List ℕ
  pub parts : b ≡ front ++ body
  pub count : SpellsU30 (length body) front
  pub short : length body < 2 ^ 23
  pub spelled : SpellsCode c body

-- Bytes that are read straight from those that a window holds.
use Rattle.std.specs.Prelude.{◌≡◌, ℕ, ◌+◌, ◌<◌, ◌≤◌, None, length, take}
use Rattle.abc_base.specs.Numbers.{SpellsNumber}
use Rattle.abc_file_types.specs.Part.{limit}
use Rattle.abc_varint.specs.View.{View, held_bytes, onward}

-- so many bytes are held, each before the end and within the longest file, and no Err is kept
pub record HoldsReady (count : ℕ) (w : View) : Type 0 where
  pub fresh : w.kept ≡ None
  pub held : count ≤ length (held_bytes w)
  pub before : w.place + count ≤ w.end
  pub within : w.place + count ≤ limit

-- a front of the bytes that are held spells the number, and the window stands after it
pub record TakesNumber (x : ℕ) (w w2 : View) : Type 0 where
  pub count : ℕ
  pub some : 0 < count
  pub ready : HoldsReady count w
  pub spelled : SpellsNumber x (take count (held_bytes w))
  pub is : w2 ≡ onward count w

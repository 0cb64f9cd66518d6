-- Marks at places.
use Rattle.std.specs.Prelude.{◌≡◌, ℕ, ◌<◌, List, [], ◌∷◌, ◌++◌, Bool, true, length, ◌⊎◌}
use Rattle.abc_verify_typing.specs.Instructions.{targets}
use Rattle.abc_file_types.specs.declared.code.Instr.{Instr}
use Rattle.abc_verify_typing.specs.Routines.{Routine}
use Rattle.abc_verify_typing.specs.Typing.{In}
use Rattle.abc_verify_typing.specs.declared.catch.Catch.{Catch}
use Rattle.abc_verify_flow.specs.Walking.{AreWalkHeads, is_head}

-- these places are marked now, all that were before, and no other
pub record Marks (places : List ℕ) (old new : List Bool) : Type 0 where
  pub long : length new ≡ length old
  pub keeps : (t : ℕ) → is_head old t ≡ true → is_head new t ≡ true
  pub marks : (t : ℕ) → In t places → t < length old → is_head new t ≡ true
  pub only : (t : ℕ) → is_head new t ≡ true → (is_head old t ≡ true) ⊎ In t places

-- what instructions lead to
abbrev pub code_targets : List Instr → List ℕ
code_targets [] = []
code_targets (i ∷ is) = targets i ++ code_targets is

-- where handlers lead to, and where their ranges begin and end
abbrev pub handler_places : List Catch → List ℕ
handler_places [] = []
handler_places (h ∷ hs) = h.target ∷ h.from ∷ h.to ∷ handler_places hs

-- of every method with this code and these handlers
abbrev pub AreHeadsOf : List Instr → List Catch → List Bool → Type 0
AreHeadsOf code handlers heads = (m : Routine) → m.code ≡ code → m.handlers ≡ handlers → AreWalkHeads m heads

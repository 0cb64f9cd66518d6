-- Where an input doesn't begin with the line that stands before a file (profile: docs/PROGRAM.md, "Logs").
use Rattle.std.specs.Prelude.{◌≡◌, ℕ, suc, ◌+◌, ◌<◌, Bool, true, false, ◌&&◌, ◌||◌, nat_eq, nat_le, nat_lt, if◌then◌else◌, List, [], ◌∷◌, ◌++◌, length, IfSome}
use Rattle.std.specs.declared.option.Option.{Option}
use Rattle.abc_log.specs.declared.errors.HeadError.{HeadError}
use Rattle.abc_log.specs.declared.errors.HeadError.TheVariants as errors

-- `0` to `9` and `a` to `f`
abbrev pub is_lower_hex : ℕ → Bool
is_lower_hex byte = (nat_le 48 byte && nat_le byte 57) || (nat_le 97 byte && nat_le byte 102)

-- whether a byte may stand at this place of the line: eight digits, and then the line feed
abbrev pub may_stand : (place byte : ℕ) → Bool
may_stand place byte = if nat_lt place 8 then is_lower_hex byte else nat_eq byte 10

-- each of the bytes may stand where it does, from this place on
abbrev pub AllStand : (place : ℕ) → List ℕ → Type 0
AllStand place [] = Unit {0}
AllStand place (b ∷ bs) = (may_stand place b ≡ true) × AllStand (suc place) bs

-- the byte here is wrong, or missing
abbrev pub IsWrong : (place : ℕ) → List ℕ → Type 0
IsWrong place [] = Unit {0}
IsWrong place (b ∷ bs) = may_stand place b ≡ false

-- from one place of the line on the bytes are right up to another, and wrong there
pub record GoesWrong (from place : ℕ) (input : List ℕ) : Type 0 where
  pub right : List ℕ
  pub rest : List ℕ
  pub parts : input ≡ right ++ rest
  pub far : place ≡ from + length right
  pub within : place < 9
  pub stand : AllStand from right
  pub wrong : IsWrong place rest

-- why the line isn't read on from this place: the place of the byte is one of the line, also where the source doesn't tell its bytes
abbrev pub IsHeadStop : (from : ℕ) → (left : Option (List ℕ)) → HeadError → Type 0
IsHeadStop from left (errors.Wrong place) = (place < 9) × IfSome left (GoesWrong from place)
IsHeadStop from left errors.ReadFault = Unit {0}

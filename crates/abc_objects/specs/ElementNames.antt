-- Element names: `length`, or the decimal text, without leading zeros, of a number from 0 to 4294967294 (profile: docs/MACHINE.md, "The search").
use Rattle.std.specs.Prelude.{ℕ, ◌+◌, ◌*◌, ◌-◌, List, [], ◌∷◌, Bool, false, not, ◌&&◌, nat_eq, nat_le, codes, Some, None, if◌then◌else◌}
use Rattle.std.specs.declared.option.Option.{Option}
use Rattle.std.specs.List.{list_all}
use Rattle.std.specs.Str.{bytes_eq}

pub data ElementName : Type 0 where
  IsLength : ElementName
  IsNumber : (k : ℕ) → ElementName

abbrev pub is_length : List ℕ → Bool
is_length t = bytes_eq t (codes "length")

abbrev pub is_name_digit : ℕ → Bool
is_name_digit b = nat_le 48 b && nat_le b 57

-- digits without a leading zero; zero is one digit
abbrev pub is_element_numeral : List ℕ → Bool
is_element_numeral [] = false
is_element_numeral (b ∷ []) = is_name_digit b
is_element_numeral (b ∷ c ∷ bs) = not (nat_eq b 48) && list_all is_name_digit (b ∷ c ∷ bs)

-- the number of digits that stand behind those of a number
abbrev pub number_from : ℕ → List ℕ → ℕ
number_from n [] = n
number_from n (b ∷ bs) = number_from (n * 10 + (b - 48)) bs

-- the number of the element that a text names, if it names one
abbrev pub element_number : List ℕ → Option ℕ
element_number t = if is_element_numeral t && nat_le (number_from 0 t) 4294967294 then Some (number_from 0 t) else None

-- the text names the element of this number
abbrev pub is_element_named : ℕ → Option ℕ → Bool
is_element_named k None = false
is_element_named k (Some i) = nat_eq k i

abbrev pub names_element : ℕ → List ℕ → Bool
names_element k t = is_element_named k (element_number t)

abbrev pub number_name : Option ℕ → Option ElementName
number_name None = None
number_name (Some k) = Some (IsNumber k)

abbrev pub element_name : List ℕ → Option ElementName
element_name t = if is_length t then Some IsLength else number_name (element_number t)

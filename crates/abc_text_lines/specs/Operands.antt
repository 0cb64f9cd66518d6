-- Operands: what a token may be where one is wanted, and lists of them
-- (profile: docs/ASSEMBLY.md, "Bytes, lines and tokens" and "Why a text is refused").
use Rattle.std.specs.Prelude.{◌≡◌, ℕ, zero, suc, ℤ, pos, negsuc, ◌+◌, ◌-◌, ◌*◌, ◌^◌, Bool, true, false, ◌&&◌, ◌||◌, nat_le, nat_lt, nat_eq, int_le, List, [], ◌∷◌, ◌++◌, length, slice_index, Some, None, Ok, Err, if◌then◌else◌}
use Rattle.std.specs.List.{list_all}
use Rattle.std.specs.Str.{bytes_eq}
use Rattle.std.specs.declared.option.Option.{Option}
use Rattle.std.specs.declared.result.Result.{Result}
use Rattle.abc_text_lines.specs.declared.reason.AsmReason.{AsmReason}
use Rattle.abc_text_lines.specs.declared.reason.AsmReason.TheVariants as reasons
use Rattle.abc_text_lines.specs.Tokens.{Token, Bare, Quoted, hex_pair, is_hex}
use Rattle.abc_text_lines.specs.Lines.{Label, Item, Number, Signed, Text, Eight, Kind, Target}

-- ---- which token shows which operand

-- `0` to `9`
abbrev pub is_digit : ℕ → Bool
is_digit byte = nat_le 48 byte && nat_le byte 57

-- decimal digits without leading zeros
abbrev pub is_numeral : List ℕ → Bool
is_numeral word = list_all is_digit word && (nat_lt 0 (length word) && (if nat_eq (slice_index word 0) 48 then nat_eq (length word) 1 else true))

-- the sum of each digit times its power of ten
abbrev pub number_of_digits : List ℕ → ℕ
number_of_digits [] = 0
number_of_digits (digit ∷ digits) = (digit - 48) * 10 ^ length digits + number_of_digits digits

abbrev pub is_letter : ℕ → Bool
is_letter byte = (nat_le 65 byte && nat_le byte 90) || (nat_le 97 byte && nat_le byte 122) || nat_eq byte 95

-- a letter or `_`, then letters, digits and `_`
abbrev pub is_name : List ℕ → Bool
is_name [] = false
is_name (byte ∷ bytes) = is_letter byte && list_all (λ b. is_letter b || is_digit b) bytes

-- the number of the instruction that a label stands for, by the first line that sets it
abbrev pub place_of_label : List Label → List ℕ → Option ℕ
place_of_label [] name = None
place_of_label (label ∷ labels) name = if bytes_eq label.name name then Some label.number else place_of_label labels name

-- a numeral of z, with `-` where it is below 0
abbrev pub IsSigned : List ℕ → ℤ → Type 0
IsSigned word (pos n) = (is_numeral word ≡ true) × (number_of_digits word ≡ n)
IsSigned word (negsuc n) = (digits : List ℕ) × (word ≡ 0x2d ∷ digits) × (is_numeral digits ≡ true) × (number_of_digits digits ≡ suc n)

-- two hexadecimal digits for each byte
abbrev pub AreHex : List ℕ → List ℕ → Type 0
AreHex word [] = word ≡ []
AreHex word (byte ∷ bytes) = (high low : ℕ) × (rest : List ℕ) × (word ≡ high ∷ low ∷ rest) × (is_hex high ≡ true) × (is_hex low ≡ true) × (byte ≡ hex_pair high low) × AreHex rest bytes

-- the token shows the operand, where the labels stand for what they do
abbrev pub IsToken : List Label → Token → Item → Type 0
IsToken labels (Bare word) (Number n) = (is_numeral word ≡ true) × (number_of_digits word ≡ n)
IsToken labels (Bare word) (Signed z) = IsSigned word z
IsToken labels (Bare word) (Eight bytes) = AreHex word bytes
IsToken labels (Bare word) (Kind kind) = word ≡ kind
IsToken labels (Bare word) (Target n) = (is_name word ≡ true) × (place_of_label labels word ≡ Some n)
IsToken labels (Quoted bytes) (Text text) = bytes ≡ text
IsToken labels _ _ = ⊥

abbrev pub AreTokens : List Label → List Token → List Item → Type 0
AreTokens labels [] [] = Unit {0}
AreTokens labels (token ∷ tokens) (item ∷ items) = IsToken labels token item × AreTokens labels tokens items
AreTokens labels _ _ = ⊥

-- ---- operands

-- One operand: how a value of it is meant, which values it may have, and its value or its one fault.
pub record Operand (A : Type 0) : Type 1 where
  pub item : A → Item
  pub fits : A → Type 0
  pub reads : List Label → Token → Result A AsmReason
  -- what stands for it where it has a fault
  pub default : A

abbrev pub test_result : {A : Type 0} → (A → Bool) → AsmReason → Result A AsmReason → Result A AsmReason
test_result test reason (Ok x) = if test x then Ok x else Err reason
test_result test reason (Err r) = Err r

-- an operand whose value is tested
abbrev pub operand_with_test : {A : Type 0} → (A → Bool) → AsmReason → Operand A → Operand A
operand_with_test test reason p = record { item = p.item; fits = λ x. p.fits x × (test x ≡ true); reads = λ labels token. test_result test reason (p.reads labels token); default = p.default }

abbrev pub numeral : Token → Result ℕ AsmReason
numeral (Bare word) = if is_numeral word then Ok (number_of_digits word) else Err reasons.Number
numeral (Quoted bytes) = Err reasons.Number

-- any number
unfoldable pub any_number : Operand ℕ
any_number = record { item = Number; fits = λ n. Unit {0}; reads = λ labels token. numeral token; default = 0 }

-- a number below a bound
abbrev pub number_below : ℕ → Operand ℕ
number_below bound = operand_with_test (λ n. nat_lt n bound) reasons.Range any_number

-- a number below 2^30
abbrev pub u30_operand : Operand ℕ
u30_operand = number_below (2 ^ 30)

-- an index into a table of that many entries that counts from 1, or 0
abbrev pub index_upto : ℕ → Operand ℕ
index_upto size = operand_with_test (λ n. nat_le n size) reasons.Index u30_operand

-- an index into such a table that isn't 0
abbrev pub entry_upto : ℕ → Operand ℕ
entry_upto size = operand_with_test (λ n. nat_lt 0 n && nat_le n size) reasons.Index u30_operand

-- an index into a table of that many entries that counts from 0
abbrev pub index_operand_below : ℕ → Operand ℕ
index_operand_below size = operand_with_test (λ n. nat_lt n size) reasons.Index u30_operand

-- that number, and no other
abbrev pub exactly : ℕ → Operand ℕ
exactly n = operand_with_test (λ m. nat_eq m n) reasons.Range any_number

-- the number below 0 that stands after `-`; `-0` is none
abbrev pub negative : ℕ → Result ℤ AsmReason
negative zero = Err reasons.Number
negative (suc n) = Ok (negsuc n)

abbrev pub signed_of : List ℕ → Result ℤ AsmReason
signed_of [] = Err reasons.Number
signed_of (byte ∷ digits) =
    if nat_eq byte 0x2d then (if is_numeral digits then negative (number_of_digits digits) else Err reasons.Number)
    else (if is_numeral (byte ∷ digits) then Ok (pos (number_of_digits (byte ∷ digits))) else Err reasons.Number)

abbrev pub signed_token : Token → Result ℤ AsmReason
signed_token (Bare word) = signed_of word
signed_token (Quoted bytes) = Err reasons.Number

-- any number, with `-` where it is below 0
unfoldable pub any_signed : Operand ℤ
any_signed = record { item = Signed; fits = λ z. Unit {0}; reads = λ labels token. signed_token token; default = pos 0 }

-- a signed number from `low` to `high`
abbrev pub signed_between : ℤ → ℤ → Operand ℤ
signed_between low high = operand_with_test (λ z. int_le low z && int_le z high) reasons.Range any_signed

abbrev pub text_of_token : Token → Result (List ℕ) AsmReason
text_of_token (Quoted bytes) = Ok bytes
text_of_token (Bare word) = Err reasons.Kind

unfoldable pub text_operand : Operand (List ℕ)
text_operand = record { item = Text; fits = λ bytes. Unit {0}; reads = λ labels token. text_of_token token; default = [] }

abbrev pub more_hex : ℕ → Option (List ℕ) → Option (List ℕ)
more_hex byte None = None
more_hex byte (Some bytes) = Some (byte ∷ bytes)

abbrev pub hex_bytes : List ℕ → Option (List ℕ)
hex_bytes [] = Some []
hex_bytes (high ∷ []) = None
hex_bytes (high ∷ low ∷ rest) = if is_hex high && is_hex low then more_hex (hex_pair high low) (hex_bytes rest) else None

abbrev pub eight_in : Option (List ℕ) → Result (List ℕ) AsmReason
eight_in None = Err reasons.Kind
eight_in (Some bytes) = if nat_eq (length bytes) 8 then Ok bytes else Err reasons.Kind

abbrev pub eight_of : Token → Result (List ℕ) AsmReason
eight_of (Bare word) = eight_in (hex_bytes word)
eight_of (Quoted bytes) = Err reasons.Kind

-- the eight bytes of a double
unfoldable pub eight : Operand (List ℕ)
eight = record { item = Eight; fits = λ bytes. nat_eq (length bytes) 8 ≡ true; reads = λ labels token. eight_of token; default = [] }

abbrev pub found_place : Option ℕ → Result ℕ AsmReason
found_place (Some n) = Ok n
found_place None = Err reasons.LabelMissing

abbrev pub target_operand : List Label → Token → Result ℕ AsmReason
target_operand labels (Bare word) = if is_name word then found_place (place_of_label labels word) else Err reasons.Kind
target_operand labels (Quoted bytes) = Err reasons.Kind

-- a label of the line's body, as the number of the instruction that it stands for
unfoldable pub target : Operand ℕ
target = record { item = Target; fits = λ n. Unit {0}; reads = target_operand; default = 0 }

abbrev pub found_kind : {K : Type 0} → Option K → Result K AsmReason
found_kind (Some k) = Ok k
found_kind None = Err reasons.Kind

abbrev pub kind_operand : {K : Type 0} → (List ℕ → Option K) → Token → Result K AsmReason
kind_operand named (Bare word) = found_kind (named word)
kind_operand named (Quoted bytes) = Err reasons.Kind

-- a kind word
abbrev pub kind : {K : Type 0} → (K → List ℕ) → (List ℕ → Option K) → K → Operand K
kind name named default = record { item = λ k. Kind (name k); fits = λ k. Unit {0}; reads = λ labels token. kind_operand named token; default = default }

-- ---- the operands of a line

abbrev pub reasons_in : {A : Type 0} → Result A AsmReason → List AsmReason
reasons_in (Ok x) = []
reasons_in (Err r) = r ∷ []

-- the value that was read, or a default where there is a fault
abbrev pub value_or : {A : Type 0} → Result A AsmReason → A → A
value_or (Ok x) default = x
value_or (Err r) default = default

abbrev pub value_if_any : {A : Type 0} → Result A AsmReason → Option A
value_if_any (Ok x) = Some x
value_if_any (Err r) = None

-- The operands of a line: whether there are as many as wanted, and then their values and all their faults.
pub record Operands (A : Type 0) : Type 1 where
  pub items : A → List Item
  pub fits : A → Type 0
  pub counts : List Label → List Token → Bool
  pub value : List Label → List Token → A
  pub faults : List Label → List Token → List AsmReason

-- the reasons of a line's operands
abbrev pub reasons_of : {A : Type 0} → Operands A → List Label → List Token → List AsmReason
reasons_of p labels tokens = if p.counts labels tokens then p.faults labels tokens else reasons.Operands ∷ []

abbrev pub none_left : List Token → Bool
none_left [] = true
none_left (token ∷ tokens) = false

abbrev pub none : Operands (Unit {0})
none = record { items = λ x. []; fits = λ x. Unit {0}; counts = λ labels tokens. none_left tokens; value = λ labels tokens. tt; faults = λ labels tokens. [] }

module _ {A B : Type 0} (p : Operand A) (rest : Option A → Operands B) where
  abbrev pub by_counts : List Label → List Token → Bool
  by_counts labels [] = false
  by_counts labels (token ∷ tokens) = (rest (value_if_any (p.reads labels token))).counts labels tokens

  abbrev pub by_value : List Label → List Token → A × B
  by_value labels [] = (p.default, (rest None).value labels [])
  by_value labels (token ∷ tokens) = (value_or (p.reads labels token) p.default, (rest (value_if_any (p.reads labels token))).value labels tokens)

  abbrev pub by_faults : List Label → List Token → List AsmReason
  by_faults labels [] = []
  by_faults labels (token ∷ tokens) = reasons_in (p.reads labels token) ++ (rest (value_if_any (p.reads labels token))).faults labels tokens

  -- one operand, and then others that depend on it; None where it has a fault
  abbrev pub by : Operands (A × B)
  by = record { items = λ x. p.item x.0 ∷ (rest (Some x.0)).items x.1; fits = λ x. p.fits x.0 × (rest (Some x.0)).fits x.1; counts = by_counts; value = by_value; faults = by_faults }

-- one operand, and then others
infixr 10 ◌&◌
abbrev pub ◌&◌ : {A B : Type 0} → Operand A → Operands B → Operands (A × B)
p & others = by p (λ known. others)

-- operands that are not looked at, behind an unknown kind word
abbrev pub unseen : {A : Type 0} → A → Operands A
unseen default = record { items = λ x. []; fits = λ x. ⊥; counts = λ labels tokens. true; value = λ labels tokens. default; faults = λ labels tokens. [] }

abbrev pub several_items : {A : Type 0} → Operand A → List A → List Item
several_items p [] = []
several_items p (x ∷ xs) = p.item x ∷ several_items p xs

abbrev pub EachFits : {A : Type 0} → Operand A → List A → Type 0
EachFits p [] = Unit {0}
EachFits p (x ∷ xs) = p.fits x × EachFits p xs

abbrev pub several_value : {A : Type 0} → Operand A → List Label → List Token → List A
several_value p labels [] = []
several_value p labels (token ∷ tokens) = value_or (p.reads labels token) p.default ∷ several_value p labels tokens

abbrev pub several_faults : {A : Type 0} → Operand A → List Label → List Token → List AsmReason
several_faults p labels [] = []
several_faults p labels (token ∷ tokens) = reasons_in (p.reads labels token) ++ several_faults p labels tokens

-- any number of one operand
abbrev pub several : {A : Type 0} → Operand A → Operands (List A)
several p = record { items = several_items p; fits = EachFits p; counts = λ labels tokens. true; value = several_value p; faults = several_faults p }

-- the values of operands, as others, and back: of the others those fit that come back
abbrev pub map_operands : {A B : Type 0} → (A → B) → (B → A) → Operands A → Operands B
map_operands f g p = record { items = λ y. p.items (g y); fits = λ y. p.fits (g y) × (f (g y) ≡ y); counts = p.counts; value = λ labels tokens. f (p.value labels tokens); faults = p.faults }

-- What is promised of an operand.
pub record IsOperand {A : Type 0} (p : Operand A) : Type 0 where
  pub found : (labels : List Label) (token : Token) (x : A) → p.reads labels token ≡ Ok x → IsToken labels token (p.item x) × p.fits x
  pub again : (labels : List Label) (token : Token) (x : A) → IsToken labels token (p.item x) → p.fits x → p.reads labels token ≡ Ok x

-- What is promised of the operands of a line.
pub record AreOperands {A : Type 0} (p : Operands A) : Type 0 where
  pub found : (labels : List Label) (tokens : List Token) → p.counts labels tokens ≡ true → p.faults labels tokens ≡ [] → AreTokens labels tokens (p.items (p.value labels tokens)) × p.fits (p.value labels tokens)
  pub again : (labels : List Label) (tokens : List Token) (x : A) → AreTokens labels tokens (p.items x) → p.fits x → (p.counts labels tokens ≡ true) × (p.faults labels tokens ≡ []) × (p.value labels tokens ≡ x)

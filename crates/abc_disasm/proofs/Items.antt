-- Operands as tokens show them.
use Rattle.std.proofs.Common.{◌≡◌, ℕ, ◌+◌, ◌<◌, ◌^◌, ◌/◌, ◌%◌, inl, inr, true, false, not, ◌&&◌, nat_eq, nat_le, nat_lt, List, [], ◌∷◌, ◌++◌, length, map, Some, refl, arith}
use Rattle.std.specs.List.{AllByRecursion}
use Rattle.std.proofs.lemmas.Bool.Decides.{nat_tests}
use Rattle.abc_base.specs.Escapes.{escape_of, with_escapes, hex_digit, is_plain_byte}
use Rattle.abc_text_lines.specs.Tokens.{Token, Bare, quote}
use Rattle.abc_text_lines.specs.Writing.{AreWritable, IsWritable, spaced_tokens, token_bytes, written_line}
use Rattle.abc_text_lines.proofs.Bools.{and_true, split_bool}
use Rattle.abc_text_lines.specs.Lines.{Label, Item, Number, Signed, Text, Eight, Kind, Target}
use Rattle.abc_text_lines.specs.Operands.{AreTokens, IsToken, is_name, place_of_label}
use Rattle.abc_text_lines.specs.Listing.{label_of, token_of}
use Rattle.abc_disasm.proofs.Runs.{IsNoFeed, IsWord, decimal_numeral, decimal_value, decimal_word, feeds, hex_read, hex_word, label_name, name_word, signed_is, signed_word, size_of, word_writable}

-- what is shown of the operand is read back as it; `leads` says which numbers of instructions there may be
abbrev pub CanBeShown : (ℕ → Type 0) → Item → Type 0
CanBeShown leads (Number n) = n < 2 ^ 64
CanBeShown leads (Signed z) = size_of z < 2 ^ 64
CanBeShown leads (Text bytes) = AllByRecursion (λ b. b < 256) bytes
CanBeShown leads (Eight bytes) = (0 < length bytes) × AllByRecursion (λ b. b < 256) bytes
CanBeShown leads (Kind kind) = is_name kind ≡ true
CanBeShown leads (Target n) = (n < 2 ^ 64) × leads n

pub all_append : (P : ℕ → Type 0) (a b : List ℕ) → AllByRecursion P a → AllByRecursion P b → AllByRecursion P (a ++ b)
all_append P [] b p q = q
all_append P (x ∷ a) b p q = (p.0, all_append P a b p.1 q)

-- a token that can stand in a line
pub record IsFine (token : Token) : Type 0 where
  pub writable : IsWritable token
  pub feed : AllByRecursion IsNoFeed (token_bytes token)

pub word_fine : (word : List ℕ) → IsWord word → IsFine (Bare word)
word_fine word is = record { writable = word_writable word is; feed = feeds word is.solid }

hex_feed : (n : ℕ) → IsNoFeed (hex_digit n)
hex_feed n =
    elim (split_bool (nat_lt n 10)) [
      | inl e ↦ rw e (let a : nat_eq (48 + n) 0x0a ≡ false = grind (arith, nat_tests) in a)
      | inr e ↦ rw e (let a : nat_eq (87 + n) 0x0a ≡ false = grind (arith, nat_tests) in a)
    ]

plain_feed : (b : ℕ) → is_plain_byte b ≡ true → IsNoFeed b
plain_feed b e =
    let all = and_true (nat_le 0x20 b && nat_le b 0x7e && not (nat_eq b 0x22)) (not (nat_eq b 0x5c)) e in
    let two = and_true (nat_le 0x20 b && nat_le b 0x7e) (not (nat_eq b 0x22)) all.0 in
    let one = (and_true (nat_le 0x20 b) (nat_le b 0x7e) two.0).0 in
    grind (arith, nat_tests)

escape_feed : (b : ℕ) → AllByRecursion IsNoFeed (escape_of b)
escape_feed b = elim (split_bool (is_plain_byte b)) [ inl e ↦ rw e (plain_feed b e, tt) | inr e ↦ rw e (refl, (hex_feed (b / 16), (hex_feed (b % 16), tt))) ]

pub escaped_feed : (text : List ℕ) → AllByRecursion IsNoFeed (with_escapes text)
unfolding with_escapes
escaped_feed [] = tt
escaped_feed (b ∷ text) = all_append IsNoFeed (escape_of b) (with_escapes text) (escape_feed b) (escaped_feed text)

item_fine : (leads : ℕ → Type 0) (item : Item) → CanBeShown leads item → IsFine (token_of item)
item_fine leads (Number n) can = word_fine _ (decimal_word n can)
item_fine leads (Signed z) can = word_fine _ (signed_word z can)
item_fine leads (Text bytes) can = record { writable = can; feed = (refl, all_append IsNoFeed (with_escapes bytes) (quote ∷ []) (escaped_feed bytes) (refl, tt)) }
item_fine leads (Eight bytes) can = word_fine _ (hex_word bytes can.0 can.1)
item_fine leads (Kind kind) can = word_fine _ (name_word kind can)
item_fine leads (Target n) can = word_fine _ (name_word _ (label_name n can.0))

item_token : (leads : ℕ → Type 0) (labels : List Label) → ((n : ℕ) → leads n → place_of_label labels (label_of n) ≡ Some n) → (item : Item) → CanBeShown leads item → IsToken labels (token_of item) item
item_token leads labels set (Number n) can = (decimal_numeral n can, decimal_value n can)
item_token leads labels set (Signed z) can = signed_is z can
item_token leads labels set (Text bytes) can = refl
item_token leads labels set (Eight bytes) can = hex_read bytes can.1
item_token leads labels set (Kind kind) can = refl
item_token leads labels set (Target n) can = (label_name n can.0, set n can.1)

-- ---- all operands of a line

pub items_tokens : (leads : ℕ → Type 0) (labels : List Label) → ((n : ℕ) → leads n → place_of_label labels (label_of n) ≡ Some n) → (items : List Item) → AllByRecursion (CanBeShown leads) items → AreTokens labels (map token_of items) items
items_tokens leads labels set [] can = tt
items_tokens leads labels set (item ∷ items) can = (item_token leads labels set item can.0, items_tokens leads labels set items can.1)

pub items_fine : (leads : ℕ → Type 0) (items : List Item) → AllByRecursion (CanBeShown leads) items → AllByRecursion IsFine (map token_of items)
items_fine leads [] can = tt
items_fine leads (item ∷ items) can = (item_fine leads item can.0, items_fine leads items can.1)

pub fine_writable : (tokens : List Token) → AllByRecursion IsFine tokens → AreWritable tokens
fine_writable [] all = tt
fine_writable (token ∷ tokens) all = (all.0.writable, fine_writable tokens all.1)

spaced_feed : (tokens : List Token) → AllByRecursion IsFine tokens → AllByRecursion IsNoFeed (spaced_tokens tokens)
spaced_feed [] all = tt
spaced_feed (token ∷ tokens) all = (refl, all_append IsNoFeed (token_bytes token) (spaced_tokens tokens) all.0.feed (spaced_feed tokens all.1))

pub line_feed : (tokens : List Token) → AllByRecursion IsFine tokens → AllByRecursion IsNoFeed (written_line tokens)
line_feed [] all = tt
line_feed (token ∷ tokens) all = all_append IsNoFeed (token_bytes token) (spaced_tokens tokens) all.0.feed (spaced_feed tokens all.1)

-- Names and the colon behind them.
use Rattle.std.proofs.Common.{◌≡◌, ℕ, zero, suc, ◌-◌, ◌<◌, true, false, ◌&&◌, ◌||◌, nat_eq, List, [], ◌∷◌, length, take, drop, get_or, Some, None, refl, ap, arith}
use Rattle.std.specs.List.{list_all}
use Rattle.abc_text_lines.specs.Operands.{is_digit, is_letter, is_name}
use Rattle.abc_text_lines.specs.Texts.{before_colon, before_colon_more}

pub name_parts : (text : List ℕ) → 0 < length text → is_name text ≡ (is_letter (get_or text 0 0) && list_all (λ b. is_letter b || is_digit b) (drop 1 text))
name_parts [] lt = absurd (omega arith)
name_parts (b ∷ text) lt = refl

colon_at : (word : List ℕ) (n : ℕ) → length word ≡ suc n → nat_eq (get_or word n 0) 0x3a ≡ true → before_colon word ≡ Some (take n word)
colon_at [] n len e = absurd (omega arith)
colon_at (a ∷ []) zero len e = rw e refl
colon_at (a ∷ []) (suc n) len e = absurd (omega arith)
colon_at (a ∷ b ∷ word) zero len e = absurd (omega arith)
colon_at (a ∷ b ∷ word) (suc n) len e = ap (before_colon_more a) (colon_at (b ∷ word) n (omega arith) e)

other_at : (word : List ℕ) (n : ℕ) → length word ≡ suc n → nat_eq (get_or word n 0) 0x3a ≡ false → before_colon word ≡ None
other_at [] n len e = absurd (omega arith)
other_at (a ∷ []) zero len e = rw e refl
other_at (a ∷ []) (suc n) len e = absurd (omega arith)
other_at (a ∷ b ∷ word) zero len e = absurd (omega arith)
other_at (a ∷ b ∷ word) (suc n) len e = ap (before_colon_more a) (other_at (b ∷ word) n (omega arith) e)

pub colon_last : (word : List ℕ) → 0 < length word → nat_eq (get_or word (length word - 1) 0) 0x3a ≡ true → before_colon word ≡ Some (take (length word - 1) word)
colon_last word lt e = colon_at word (length word - 1) (omega arith) e

pub no_colon : (word : List ℕ) → 0 < length word → nat_eq (get_or word (length word - 1) 0) 0x3a ≡ false → before_colon word ≡ None
no_colon word lt e = other_at word (length word - 1) (omega arith) e

-- The opcodes that are run are bytes.
use Rattle.std.proofs.Common.{◌≡◌, ℕ, ◌<◌, ◌^◌, List, [], ◌∷◌, refl, sym, subst, arith, eqb-true}
use Rattle.std.proofs.lemmas.Bool.{ltb-true}
use Rattle.std.specs.Prelude.{Bool, true, false, nat_eq, nat_lt, Some, if◌then◌else◌}
use Rattle.std.specs.List.{list_all}
use Rattle.abc_verify_typing.specs.Rows.{Shape, find, row_at, table_of_rows}
use Rattle.abc_verify_typing.proofs.Member.{and_left, and_right}

abbrev is_byte : ℕ × Shape → Bool
is_byte r = nat_lt r.0 256

find_low : (rows : List (ℕ × Shape)) (op : ℕ) (row : Shape) → list_all is_byte rows ≡ true → find op rows ≡ Some row → op < 256
find_low [] op row a e = absurd cc
find_low (r ∷ rows) op row a e = go (λ f. find_low rows op row (and_right (is_byte r) (list_all is_byte rows) a) f) (nat_eq op r.0) refl e
  where
    go : (find op rows ≡ Some row → op < 256) → (b : Bool) → nat_eq op r.0 ≡ b → (if b then Some r.1 else find op rows) ≡ Some row → op < 256
    go more true q f = subst (λ (n : ℕ). n < 256) (sym (eqb-true op r.0 q)) (ltb-true r.0 256 (and_left (is_byte r) (list_all is_byte rows) a))
    go more false q f = more f

all_bytes : list_all is_byte table_of_rows ≡ true
unfolding table_of_rows
all_bytes = refl

pub row_low : (op : ℕ) (row : Shape) → row_at op ≡ Some row → op < 2 ^ 8
unfolding row_at
row_low op row e = let low = find_low table_of_rows op row all_bytes e in omega (arith, low)

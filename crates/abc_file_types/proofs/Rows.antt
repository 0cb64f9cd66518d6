-- The code's table of instructions is the set of instructions.
use Rattle.std.proofs.Common.{◌≡◌, ℕ, zero, suc, ◌+◌, ◌<◌, List, [], ◌∷◌, None, map, length, get_or, refl, sym, ap, ◌∙◌, arith}
use Rattle.abc_file_types.specs.declared.opcodes.TheConstants.{OPCODES}
use Rattle.abc_file_types.specs.Opcodes.{info_at, name_at}
use Rattle.abc_file_types.specs.Rows.{info_in, name_in_row}

abbrev counted : ℕ → ℕ → List ℕ
counted zero from = []
counted (suc n) from = from ∷ counted n (from + 1)

same_names : map name_in_row OPCODES ≡ map name_at (counted 256 0)
unfolding name_at
same_names = refl

same_infos : map info_in OPCODES ≡ map info_at (counted 256 0)
unfolding info_at
same_infos = refl

in_map : {A B : Type 0} (f : A → B) (rows : List A) (i : ℕ) (x : A) (y : B) → i < length rows → get_or (map f rows) i y ≡ f (get_or rows i x)
in_map f [] i x y h = absurd (omega arith)
in_map f (row ∷ rows) zero x y h = refl
in_map f (row ∷ rows) (suc i) x y h = in_map f rows i x y (omega arith)

in_counted : {B : Type 0} (g : ℕ → B) (n from i : ℕ) (y : B) → i < n → get_or (map g (counted n from)) i y ≡ g (from + i)
in_counted g zero from i y h = absurd (omega arith)
in_counted g (suc n) from zero y h = let e : from ≡ from + 0 = omega arith in ap g e
in_counted g (suc n) from (suc i) y h = let e : (from + 1) + i ≡ from + suc i = omega arith in in_counted g n (from + 1) i y (omega arith) ∙ ap g e

pub same_name : (op : ℕ) → op < 256 → name_in_row (get_or OPCODES op None) ≡ name_at op
same_name op h = let e : 0 + op ≡ op = omega arith in sym (in_map name_in_row OPCODES op None None h) ∙ ap (λ rows. get_or rows op None) same_names ∙ in_counted name_at 256 0 op None h ∙ ap name_at e

pub same_info : (op : ℕ) → op < 256 → info_in (get_or OPCODES op None) ≡ info_at op
same_info op h = let e : 0 + op ≡ op = omega arith in sym (in_map info_in OPCODES op None None h) ∙ ap (λ rows. get_or rows op None) same_infos ∙ in_counted info_at 256 0 op None h ∙ ap info_at e

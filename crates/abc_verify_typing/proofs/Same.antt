-- The code's table is the table.
use Rattle.std.proofs.Common.{◌≡◌, ℕ, zero, suc, ◌+◌, ◌<◌, List, [], ◌∷◌, refl, map, length, Some, None, get_or, arith, ap, sym, ◌∙◌}
use Rattle.std.specs.Prelude.{slice_get}
use Rattle.std.specs.declared.option.Option.{Option}
use Rattle.abc_verify_typing.specs.Rows.{Shape, table_of_rows, row_at}
use Rattle.abc_verify_typing.specs.Table.{shape_in, numbers_from}
use Rattle.abc_verify_typing.specs.declared.table.TheConstants.{ROWS, NUMBERS}
use Rattle.abc_verify_typing.specs.declared.row.Row.{Row}

same_rows : map (λ n. shape_in (slice_get ROWS n)) NUMBERS ≡ map row_at (numbers_from 256 0)
unfolding table_of_rows row_at
same_rows = refl

at-map : (f : ℕ → Option Shape) (xs : List ℕ) (i : ℕ) → i < length xs → get_or (map f xs) i None ≡ f (get_or xs i 0)
at-map f [] i h = absurd (omega arith)
at-map f (x ∷ xs) zero h = refl
at-map f (x ∷ xs) (suc i) h = at-map f xs i (omega arith)

at-counted : (n from i : ℕ) → i < n → get_or (map row_at (numbers_from n from)) i None ≡ row_at (from + i)
at-counted (suc n) from zero h = let e : from + 0 ≡ from = omega arith in ap row_at (sym e)
at-counted (suc n) from (suc i) h = let e : (from + 1) + i ≡ from + suc i = omega arith in at-counted n (from + 1) i (omega arith) ∙ ap row_at e
at-counted zero from i h = absurd (omega arith)

pub same_row : (op : ℕ) → op < 256 → shape_in (slice_get ROWS (get_or NUMBERS op 0)) ≡ row_at op
same_row op h = let e : 0 + op ≡ op = omega arith in sym (at-map (λ n. shape_in (slice_get ROWS n)) NUMBERS op h) ∙ ap (λ (rows : List (Option Shape)). get_or rows op None) same_rows ∙ at-counted 256 0 op h ∙ ap row_at e

-- The rows and the file format's table of instructions agree.
use Rattle.std.proofs.Common.{◌≡◌, ℕ, zero, suc, ◌+◌, ◌<◌, List, [], ◌∷◌, refl, map, get_or, arith, ap, sym, ◌∙◌}
use Rattle.std.specs.Prelude.{Bool, true}
use Rattle.abc_file_types.specs.Opcodes.{info_at, is_in}
use Rattle.abc_verify_typing.specs.Rows.{table_of_rows, row_at}
use Rattle.abc_verify_typing.specs.Agreement.{agrees, is_left_out, not_run}
use Rattle.abc_verify_typing.specs.Table.{numbers_from}

all_agree : map agrees (numbers_from 256 0) ≡ map (λ op. true) (numbers_from 256 0)
unfolding agrees table_of_rows row_at info_at
all_agree = refl

all_left_out : map is_left_out (numbers_from 256 0) ≡ map (λ op. is_in op not_run) (numbers_from 256 0)
unfolding is_left_out table_of_rows row_at info_at
all_left_out = refl

at_counted : (f : ℕ → Bool) (n from i : ℕ) → i < n → get_or (map f (numbers_from n from)) i true ≡ f (from + i)
at_counted f zero from i h = absurd (omega arith)
at_counted f (suc n) from zero h = let e : from ≡ from + 0 = omega arith in ap f e
at_counted f (suc n) from (suc i) h = let e : (from + 1) + i ≡ from + suc i = omega arith in at_counted f n (from + 1) i (omega arith) ∙ ap f e

same : (f g : ℕ → Bool) → map f (numbers_from 256 0) ≡ map g (numbers_from 256 0) → (op : ℕ) → op < 256 → f op ≡ g op
same f g e op h = let z : 0 + op ≡ op = omega arith in ap f (sym z) ∙ sym (at_counted f 256 0 op h) ∙ ap (λ (bs : List Bool). get_or bs op true) e ∙ at_counted g 256 0 op h ∙ ap g z

pub agree : (op : ℕ) → op < 256 → agrees op ≡ true
agree op h = same agrees (λ op. true) all_agree op h

pub left_out : (op : ℕ) → op < 256 → is_left_out op ≡ is_in op not_run
left_out op h = same is_left_out (λ op. is_in op not_run) all_left_out op h

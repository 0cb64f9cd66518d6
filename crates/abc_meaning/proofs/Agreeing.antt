-- The acts and the rows agree.
use Rattle.std.proofs.Common.{◌≡◌, ℕ, zero, suc, ◌+◌, ◌<◌, List, refl, map, get_or, arith, ap, sym, ◌∙◌}
use Rattle.std.specs.Prelude.{Bool, true}
use Rattle.abc_verify_typing.specs.Rows.{row_at, table_of_rows}
use Rattle.abc_verify_typing.specs.Table.{numbers_from}
use Rattle.abc_meaning.specs.Agreement.{HasEveryAct, has_act, has_row}
use Rattle.abc_meaning.specs.Table.{act_of, acts}

all_agree : map has_act (numbers_from 256 0) ≡ map has_row (numbers_from 256 0)
unfolding has_act has_row act_of acts row_at table_of_rows
all_agree = refl

at_counted : (f : ℕ → Bool) (n from i : ℕ) → i < n → get_or (map f (numbers_from n from)) i true ≡ f (from + i)
at_counted f zero from i h = absurd (omega arith)
at_counted f (suc n) from zero h = let e : from ≡ from + 0 = omega arith in ap f e
at_counted f (suc n) from (suc i) h = let e : (from + 1) + i ≡ from + suc i = omega arith in at_counted f n (from + 1) i (omega arith) ∙ ap f e

pub has_every_act : HasEveryAct
has_every_act op h = let z : 0 + op ≡ op = omega arith in ap has_act (sym z) ∙ sym (at_counted has_act 256 0 op h) ∙ ap (λ (bs : List Bool). get_or bs op true) all_agree ∙ at_counted has_row 256 0 op h ∙ ap has_row z

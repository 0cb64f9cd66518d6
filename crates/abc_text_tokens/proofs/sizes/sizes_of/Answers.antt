-- Each table by its place.
use Rattle.std.proofs.Common.{◌≡◌, ℕ, true, [], get_or, refl, sym, ◌∙◌}
use Rattle.abc_text_lines.specs.Wordlines.{count_all}
use Rattle.abc_text_lines.specs.Texts.{lines_in, raws_from, rows_of_lines, rows_of}
use Rattle.abc_text_tokens.specs.Counts.{is_table}
use Rattle.abc_text_tokens.proofs.Counted.{all_counted}
use Rattle.abc_text_tokens.proofs.sizes.sizes_of.Goals as goal

pub returns-clause-sizes : goal.returns-clause-sizes
unfolding rows_of
returns-clause-sizes c =
    let counts = c.counts_of-counts.result in
    let raws = raws_from 1 (lines_in c.args.text.now) in
    let at : (k : ℕ) → is_table k ≡ true → get_or counts k 0 ≡ count_all k (rows_of_lines [] [] [] raws) = λ k is. c.counts_of-counts.ensures k is ∙ sym (all_counted k [] [] [] raws) in
    let e1 = at 1 refl in let e2 = at 2 refl in let e3 = at 3 refl in let e4 = at 4 refl in let e5 = at 5 refl in
    let e6 = at 6 refl in let e7 = at 7 refl in let e8 = at 8 refl in let e9 = at 12 refl in let e10 = at 20 refl in
    rw (e1, e2, e3, e4, e5, e6, e7, e8, e9, e10) refl

pub returns-clause-instances : goal.returns-clause-instances
unfolding rows_of
returns-clause-instances c = c.counts_of-counts.ensures 14 refl ∙ sym (all_counted 14 [] [] [] (raws_from 1 (lines_in c.args.text.now)))

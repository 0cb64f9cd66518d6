-- The lines depend on the labels that are set and the methods that have a body only through what is among them.
use Rattle.std.proofs.Common.{◌≡◌, ℕ, Bool, true, false, cond, List, [], ◌∷◌, ◌++◌, refl, ap, ◌∙◌}
use Rattle.std.specs.Str.{bytes_eq}
use Rattle.abc_text_lines.specs.Lines.{Label, Row}
use Rattle.abc_text_lines.specs.Texts.{Counts, Ends, Raw, Sets, Skips, Step, by_step, is_text_among, is_taken, labels_set, method_named, row_of_raw, rows_of_lines, label_step}
use Rattle.abc_text_reader.specs.Names.{Same}

pub same_one : (x : List ℕ) (xs ys : List (List ℕ)) → Same xs ys → Same (x ∷ xs) (x ∷ ys)
same_one x xs ys same name = ap (λ (b : Bool). cond (bytes_eq x name) true b) (same name)

same_front : (zs xs ys : List (List ℕ)) → Same xs ys → Same (zs ++ xs) (zs ++ ys)
same_front [] xs ys same = same
same_front (z ∷ zs) xs ys same = same_one z (zs ++ xs) (zs ++ ys) (same_front zs xs ys same)

taken_same : (zs xs ys : List (List ℕ)) → Same xs ys → is_taken zs xs ≡ is_taken zs ys
taken_same [] xs ys same = refl
taken_same (z ∷ zs) xs ys same = same z

abbrev by_word : Step → List Label → List (List ℕ) → List (List ℕ) → Raw → List Raw → List Row
by_word step labels set taken raw raws =
    by_step step
    (row_of_raw raw (labels_set 0 raws) (is_taken (method_named raw.operands) taken) ∷ rows_of_lines (labels_set 0 raws) [] (method_named raw.operands ++ taken) raws)
    (row_of_raw raw labels (is_text_among raw.name set) ∷ rows_of_lines labels (raw.name ∷ set) taken raws)
    (row_of_raw raw labels false ∷ rows_of_lines labels set taken raws)
    (row_of_raw raw labels false ∷ rows_of_lines labels set taken raws)

abbrev Equal : List Row → List Row → Type 0
Equal a b = a ≡ b

-- by what the line does, from what follows it
by_cases : (step : Step) (labels : List Label) (s t x y : List (List ℕ)) (raw : Raw) (raws : List Raw) → Same s t → Same x y
    → Equal (rows_of_lines (labels_set 0 raws) [] (method_named raw.operands ++ x) raws) (rows_of_lines (labels_set 0 raws) [] (method_named raw.operands ++ y) raws)
    → Equal (rows_of_lines labels (raw.name ∷ s) x raws) (rows_of_lines labels (raw.name ∷ t) y raws)
    → Equal (rows_of_lines labels s x raws) (rows_of_lines labels t y raws)
    → by_word step labels s x raw raws ≡ by_word step labels t y raw raws
by_cases Ends labels s t x y raw raws set taken ends sets others =
    ap (λ (b : Bool). row_of_raw raw (labels_set 0 raws) b ∷ rows_of_lines (labels_set 0 raws) [] (method_named raw.operands ++ x) raws) (taken_same (method_named raw.operands) x y taken)
    ∙ ap (λ (l : List Row). row_of_raw raw (labels_set 0 raws) (is_taken (method_named raw.operands) y) ∷ l) ends
by_cases Sets labels s t x y raw raws set taken ends sets others =
    ap (λ (b : Bool). row_of_raw raw labels b ∷ rows_of_lines labels (raw.name ∷ s) x raws) (set raw.name) ∙ ap (λ (l : List Row). row_of_raw raw labels (is_text_among raw.name t) ∷ l) sets
by_cases Counts labels s t x y raw raws set taken ends sets others = ap (λ (l : List Row). row_of_raw raw labels false ∷ l) others
by_cases Skips labels s t x y raw raws set taken ends sets others = ap (λ (l : List Row). row_of_raw raw labels false ∷ l) others

pub same_rows : (labels : List Label) (s t x y : List (List ℕ)) (raws : List Raw) → Same s t → Same x y → rows_of_lines labels s x raws ≡ rows_of_lines labels t y raws
same_rows labels s t x y [] set taken = refl
same_rows labels s t x y (raw ∷ raws) set taken =
    by_cases (label_step raw.word) labels s t x y raw raws set taken
    (same_rows (labels_set 0 raws) [] [] (method_named raw.operands ++ x) (method_named raw.operands ++ y) raws (λ name. refl) (same_front (method_named raw.operands) x y taken))
    (same_rows labels (raw.name ∷ s) (raw.name ∷ t) x y raws (same_one raw.name s t set) taken)
    (same_rows labels s t x y raws set taken)

-- Counting lines before they are read counts the same.
use Rattle.std.proofs.Common.{◌≡◌, ◌≢◌, ℕ, zero, suc, ◌^◌, get_or-set_other, get_or-set_same, ◌+◌, ◌<◌, ◌≤◌, inl, inr, Bool, true, false, nat_eq, List, [], ◌∷◌, ◌++◌, length, get_or, set, Some, None, refl, sym, ap, ◌∙◌, cond, arith}
use Rattle.std.specs.declared.option.Option.{Option}
use Rattle.abc_text_lines.specs.Words.{place_of}
use Rattle.abc_text_lines.proofs.Bools.{split_bool}
use Rattle.abc_text_lines.proofs.Scans.{eq_is}
use Rattle.std.proofs.lemmas.Bool.Decides.{nat_tests}
use Rattle.abc_text_tokens.specs.declared.line.Line.{Line}
use Rattle.abc_text_tokens.specs.Cursor.{AreNumbered, Comes, most_lines, raws_at}
use Rattle.abc_text_lines.specs.Lines.{Label, Row}
use Rattle.abc_text_lines.specs.Wordlines.{among, count_all, count_lines}
use Rattle.abc_text_lines.specs.Texts.{Counts, Ends, Raw, Sets, Skips, Step, by_step, is_text_among, is_taken, labels_set, method_named, row_of_raw, rows_of_lines, label_step}
use Rattle.abc_text_tokens.specs.Counts.{count_all_raws, count_raws}

-- a line's place and those after it, whatever it asks of the others
record Headed (raw : Raw) (raws : List Raw) (rows : List Row) : Type 0 where
  labels : List Label
  repeated : Bool
  all : List Label
  set : List (List ℕ)
  taken : List (List ℕ)
  is : rows ≡ row_of_raw raw labels repeated ∷ rows_of_lines all set taken raws

headed_by : (step : Step) (labels : List Label) (set taken : List (List ℕ)) (raw : Raw) (raws : List Raw) → Headed raw raws (by_step step
    (row_of_raw raw (labels_set 0 raws) (is_taken (method_named raw.operands) taken) ∷ rows_of_lines (labels_set 0 raws) [] (method_named raw.operands ++ taken) raws)
    (row_of_raw raw labels (is_text_among raw.name set) ∷ rows_of_lines labels (raw.name ∷ set) taken raws)
    (row_of_raw raw labels false ∷ rows_of_lines labels set taken raws)
    (row_of_raw raw labels false ∷ rows_of_lines labels set taken raws))
headed_by Ends labels set taken raw raws = record { labels = labels_set 0 raws; repeated = is_taken (method_named raw.operands) taken; all = labels_set 0 raws; set = []; taken = method_named raw.operands ++ taken; is = refl }
headed_by Sets labels set taken raw raws = record { labels = labels; repeated = is_text_among raw.name set; all = labels; set = raw.name ∷ set; taken = taken; is = refl }
headed_by Counts labels set taken raw raws = record { labels = labels; repeated = false; all = labels; set = set; taken = taken; is = refl }
headed_by Skips labels set taken raw raws = record { labels = labels; repeated = false; all = labels; set = set; taken = taken; is = refl }

headed : (labels : List Label) (set taken : List (List ℕ)) (raw : Raw) (raws : List Raw) → Headed raw raws (rows_of_lines labels set taken (raw ∷ raws))
headed labels set taken raw raws = headed_by (label_step raw.word) labels set taken raw raws

pub all_counted : (place : ℕ) (labels : List Label) (set taken : List (List ℕ)) (raws : List Raw) → count_all place (rows_of_lines labels set taken raws) ≡ count_all_raws place raws
all_counted place labels set taken [] = refl
all_counted place labels set taken (raw ∷ raws) =
    let h = headed labels set taken raw raws in
    ap (count_all place) h.is ∙ ap (λ (n : ℕ). cond (nat_eq (place_of raw.word) place) (1 + n) n) (all_counted place h.all h.set h.taken raws)

pub lines_counted : (part : List ℕ) (place : ℕ) (labels : List Label) (set taken : List (List ℕ)) (raws : List Raw) → count_lines part place (rows_of_lines labels set taken raws) ≡ count_raws part place raws
lines_counted part place labels set taken [] = refl
lines_counted part place labels set taken (raw ∷ raws) =
    let h = headed labels set taken raw raws in
    ap (count_lines part place) h.is ∙ ap (λ (n : ℕ). cond (nat_eq (place_of raw.word) place) (1 + n) (cond (among (place_of raw.word) part) n 0)) (lines_counted part place h.all h.set h.taken raws)

-- ---- one line further

pub count_here : (part : List ℕ) (place : ℕ) (raw : Raw) (raws : List Raw) → nat_eq (place_of raw.word) place ≡ true → count_raws part place (raw ∷ raws) ≡ 1 + count_raws part place raws
count_here part place raw raws e = rw e refl

pub count_past : (part : List ℕ) (place : ℕ) (raw : Raw) (raws : List Raw) → nat_eq (place_of raw.word) place ≡ false → among (place_of raw.word) part ≡ true → count_raws part place (raw ∷ raws) ≡ count_raws part place raws
count_past part place raw raws e f = rw (e, f) refl

pub count_stops : (part : List ℕ) (place : ℕ) (raw : Raw) (raws : List Raw) → nat_eq (place_of raw.word) place ≡ false → among (place_of raw.word) part ≡ false → count_raws part place (raw ∷ raws) ≡ 0
count_stops part place raw raws e f = rw (e, f) refl

-- ---- lines that come

pub fewer : (raws : List Raw) (number count : ℕ) (o : Option Line) → Comes raws number count o → most_lines o ≤ count
fewer raws number count None comes = omega arith
fewer raws number count (Some line) comes = let short = comes.2 in omega arith

pub stay_numbered : (raws : List Raw) (number count : ℕ) (o : Option Line) → number + count ≤ 2 ^ 32 → Comes raws number count o → AreNumbered o
stay_numbered raws number count None le comes = tt
stay_numbered raws number count (Some line) le comes = let short = comes.1 in omega arith

pub comes_raws : (raws : List Raw) (number count : ℕ) (o : Option Line) → Comes raws number count o → raws ≡ raws_at o
comes_raws raws number count None comes = comes
comes_raws raws number count (Some line) comes = comes.0

apart_places : (p k : ℕ) → nat_eq p k ≡ false → p ≡ k → ⊥
apart_places p k e f = let no_ : false ≡ true = sym e ∙ equal p k f in absurd cc
  where
    equal : (p k : ℕ) → p ≡ k → nat_eq p k ≡ true
    equal p k f = grind (arith, nat_tests)

-- ---- the counts of all places

abbrev pub zeros : ℕ → List ℕ
zeros zero = []
zeros (suc n) = 0 ∷ zeros n

pub zero_at : (n k : ℕ) → get_or (zeros n) k 0 ≡ 0
zero_at zero k = refl
zero_at (suc n) zero = refl
zero_at (suc n) (suc k) = zero_at n k

pub none_yet_le : (a b : ℕ) → a ≡ 0 → a + b ≤ b
none_yet_le a b e = omega arith

pub none_yet : (a b : ℕ) → a ≡ 0 → a + b ≡ b
none_yet a b e = omega arith

plus_none : (n : ℕ) → n ≡ n + 0
plus_none n = omega arith

-- one more at a place
pub one_set : (counts : List ℕ) (p k : ℕ) → p < length counts → get_or (set counts p (get_or counts p 0 + 1)) k 0 ≡ get_or counts k 0 + cond (nat_eq p k) 1 0
one_set counts p k lt =
    elim (split_bool (nat_eq p k)) [
      | inl e ↦
          let same : p ≡ k = eq_is p k e in
          let value : get_or (set counts p (get_or counts p 0 + 1)) k 0 ≡ get_or counts k 0 + 1 = ap (λ (j : ℕ). get_or (set counts p (get_or counts p 0 + 1)) j 0) (sym same) ∙ get_or-set_same counts p (get_or counts p 0 + 1) 0 lt ∙ ap (λ (j : ℕ). get_or counts j 0 + 1) same in
          rw e value
      | inr e ↦
          let differs : k ≢ p = λ (f : k ≡ p). apart_places p k e (sym f) in
          let value : get_or (set counts p (get_or counts p 0 + 1)) k 0 ≡ get_or counts k 0 = get_or-set_other counts p k (get_or counts p 0 + 1) 0 differs in
          rw e (value ∙ plus_none (get_or counts k 0))
    ]

pub few_more : (counts : List ℕ) (p k m n all : ℕ) → p < length counts → m ≤ n → get_or counts k 0 + (1 + n) ≤ all → get_or (set counts p (get_or counts p 0 + 1)) k 0 + m ≤ all
few_more counts p k m n all lt le was =
    elim (split_bool (nat_eq p k)) [
      | inl e ↦
          let same : p ≡ k = eq_is p k e in
          let value : get_or (set counts p (get_or counts p 0 + 1)) k 0 ≡ get_or counts k 0 + 1 = ap (λ (j : ℕ). get_or (set counts p (get_or counts p 0 + 1)) j 0) (sym same) ∙ get_or-set_same counts p (get_or counts p 0 + 1) 0 lt ∙ ap (λ (j : ℕ). get_or counts j 0 + 1) same in
          omega (arith, value, was, le)
      | inr e ↦
          let differs : k ≢ p = λ (f : k ≡ p). apart_places p k e (sym f) in
          let value : get_or (set counts p (get_or counts p 0 + 1)) k 0 ≡ get_or counts k 0 = get_or-set_other counts p k (get_or counts p 0 + 1) 0 differs in
          omega (arith, value, was, le)
    ]

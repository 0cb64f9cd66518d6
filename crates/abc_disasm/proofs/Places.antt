-- The labels of a body stand for numbers of its instructions or of its end.
use Rattle.std.proofs.Common.{◌≡◌, ℕ, ◌+◌, ◌≤◌, ◌⊎◌, inl, inr, true, false, List, [], ◌∷◌, ◌++◌, bytes_eq, Some, None, refl, sym, ap, subst, ◌∙◌, arith}
use Rattle.std.specs.List.{AllByRecursion}
use Rattle.abc_text_lines.specs.declared.word.Word.{Word}
use Rattle.abc_text_lines.specs.declared.word.Word.TheVariants as words
use Rattle.abc_text_lines.specs.Tokens.{Token, Bare, Quoted}
use Rattle.abc_text_lines.proofs.Bools.{split_bool}
use Rattle.abc_text_lines.specs.Law.{IsLabel, Match}
use Rattle.abc_text_lines.specs.Lines.{Label, Row, Item, Number, Signed, Text, Eight, Kind, Target, Shown, Line, Labels}
use Rattle.abc_text_lines.specs.Operands.{AreTokens, IsToken, place_of_label}
use Rattle.abc_text_lines.specs.Rows.{is_label}
use Rattle.abc_text_lines.specs.Wordlines.{shows_operands}
use Rattle.abc_text_lines.specs.Texts.{Raw, Ends, Sets, Skips, Counts, Step, by_step, is_text_among, is_taken, labels_set, method_named, row_of_raw, rows_of_lines, label_step}

-- ---- rows and the lines that they are of

abbrev first_word : List Row → Word
first_word [] = words.Unknown
first_word (r ∷ rs) = r.word

abbrev later : List Row → List Row
later [] = []
later (r ∷ rs) = rs

abbrev first_labels : List Row → List Label
first_labels [] = []
first_labels (r ∷ rs) = r.labels

-- what a line is by what it does to labels
module _ (labels : List Label) (set : List (List ℕ)) (taken : List (List ℕ)) (raw : Raw) (raws : List Raw) where
  abbrev Stepped : Step → List Row
  Stepped s =
      by_step s
      (row_of_raw raw (labels_set 0 raws) (is_taken (method_named raw.operands) taken) ∷ rows_of_lines (labels_set 0 raws) [] (method_named raw.operands ++ taken) raws)
      (row_of_raw raw labels (is_text_among raw.name set) ∷ rows_of_lines labels (raw.name ∷ set) taken raws)
      (row_of_raw raw labels false ∷ rows_of_lines labels set taken raws)
      (row_of_raw raw labels false ∷ rows_of_lines labels set taken raws)

  stepped_word : (s : Step) → first_word (Stepped s) ≡ raw.word
  stepped_word Ends = refl
  stepped_word Sets = refl
  stepped_word Counts = refl
  stepped_word Skips = refl

  -- the word of the first row is the line's
  word_is : (r : Row) (others : List Row) → rows_of_lines labels set taken (raw ∷ raws) ≡ r ∷ others → raw.word ≡ r.word
  word_is r others e = sym (stepped_word (label_step raw.word)) ∙ ap first_word e

  -- the rows, where the step is known
  rows_are : (s : Step) → label_step raw.word ≡ s → rows_of_lines labels set taken (raw ∷ raws) ≡ Stepped s
  rows_are s e = ap Stepped e

-- a line without rows is none
no_rows : (r : Row) (others : List Row) → ¬ ([] ≡ r ∷ others)
no_rows r others e = cc

-- the rows behind a line, whatever it is, are those of the lines behind it
pub record Behind (rows : List Row) : Type 0 where
  pub labels : List Label
  pub set_ : List (List ℕ)
  pub taken : List (List ℕ)
  pub raws : List Raw
  pub is : rows ≡ rows_of_lines labels set_ taken raws

behind_by : (labels : List Label) (set : List (List ℕ)) (taken : List (List ℕ)) (raw : Raw) (raws : List Raw) (s : Step) → Behind (later (Stepped labels set taken raw raws s))
behind_by labels set taken raw raws Ends = record { labels = labels_set 0 raws; set_ = []; taken = method_named raw.operands ++ taken; raws = raws; is = refl }
behind_by labels set taken raw raws Sets = record { labels = labels; set_ = raw.name ∷ set; taken = taken; raws = raws; is = refl }
behind_by labels set taken raw raws Counts = record { labels = labels; set_ = set; taken = taken; raws = raws; is = refl }
behind_by labels set taken raw raws Skips = record { labels = labels; set_ = set; taken = taken; raws = raws; is = refl }

behind_one : (rows : List Row) (r : Row) (others : List Row) → Behind rows → rows ≡ r ∷ others → Behind others
behind_one rows r others b e = by b.raws b.is
  where
    by : (raws : List Raw) → rows ≡ rows_of_lines b.labels b.set_ b.taken raws → Behind others
    by [] is = absurd (no_rows r others (sym is ∙ e))
    by (raw ∷ raws) is = subst Behind (ap later (sym is ∙ e)) (behind_by b.labels b.set_ b.taken raw raws (label_step raw.word))

behind_labels : (rows ls others : List Row) → Behind rows → rows ≡ ls ++ others → Behind others
behind_labels rows [] others b e = subst Behind e b
behind_labels rows (l ∷ ls) others b e = behind_labels (ls ++ others) ls others (behind_one rows l (ls ++ others) b e) refl

-- the rows of some lines, behind others
pub behind_lines : (lines more : List Shown) (rows : List Row) → Behind rows → Match shows_operands rows (lines ++ more) → (others : List Row) × Behind others × Match shows_operands others more
behind_lines [] more rows b match = (rows, b, match)
behind_lines (Line w items ∷ lines) more rows b match = behind_lines lines more match.1 (behind_one rows match.0 match.1 b match.2) match.4
behind_lines (Labels n ∷ lines) more rows b match = behind_lines lines more match.1 (behind_labels rows match.0 match.1 b match.2) match.4

-- ---- the labels of a body

abbrev AreBelow : ℕ → List Label → Type 0
AreBelow k labels = AllByRecursion (λ (l : Label). l.number ≤ k) labels

-- lines of a body, behind its first
abbrev pub IsInner : Shown → Type 0
IsInner (Line w items) = (label_step w ≡ Skips) ⊎ (label_step w ≡ Counts)
IsInner (Labels n) = Unit {0}

-- how many of them are instructions
abbrev pub count_of : List Shown → ℕ
count_of [] = 0
count_of (Line w items ∷ lines) = by_step (label_step w) 0 0 1 0 + count_of lines
count_of (Labels n ∷ lines) = count_of lines

-- the next line is a body's, or there is none
abbrev pub EndsBody : List Shown → Type 0
EndsBody [] = Unit {0}
EndsBody (Line w items ∷ lines) = w ≡ words.Body
EndsBody (Labels n ∷ lines) = ⊥

label_is : (w : Word) → is_label w ≡ true → w ≡ words.Label
label_is words.Label e = refl
label_is words.Abc e = absurd cc
label_is words.Int e = absurd cc
label_is words.UInt e = absurd cc
label_is words.Double e = absurd cc
label_is words.Text e = absurd cc
label_is words.Namespace e = absurd cc
label_is words.Set e = absurd cc
label_is words.Name e = absurd cc
label_is words.Method e = absurd cc
label_is words.Param e = absurd cc
label_is words.Optional e = absurd cc
label_is words.ParamName e = absurd cc
label_is words.Metadata e = absurd cc
label_is words.Entry e = absurd cc
label_is words.Instance e = absurd cc
label_is words.Protected e = absurd cc
label_is words.Implements e = absurd cc
label_is words.Initializer e = absurd cc
label_is words.Trait e = absurd cc
label_is words.TraitMetadata e = absurd cc
label_is words.Class e = absurd cc
label_is words.Script e = absurd cc
label_is words.Body e = absurd cc
label_is (words.Instruction op) e = absurd cc
label_is words.Catch e = absurd cc
label_is words.Unknown e = absurd cc

module _ (labels : List Label) (taken : List (List ℕ)) where
  abbrev rows_at : List (List ℕ) → List Raw → List Row
  rows_at set raws = rows_of_lines labels set taken raws

  set_by : (j : ℕ) (raw : Raw) (raws : List Raw) (s : Step) → label_step raw.word ≡ s → labels_set j (raw ∷ raws) ≡ by_step s [] (record { name = raw.name; number = j } ∷ labels_set j raws) (labels_set (j + 1) raws) (labels_set j raws)
  set_by j raw raws s e = ap (λ (t : Step). by_step t [] (record { name = raw.name; number = j } ∷ labels_set j raws) (labels_set (j + 1) raws) (labels_set j raws)) e

  -- label lines
  labels_below : (k j : ℕ) → j ≤ k → (ls others : List Row) (set : List (List ℕ)) (raws : List Raw) → rows_at set raws ≡ ls ++ others → AllByRecursion IsLabel ls
      → ((set : List (List ℕ)) (raws : List Raw) → rows_at set raws ≡ others → AreBelow k (labels_set j raws)) → AreBelow k (labels_set j raws)
  labels_below k j le [] others set raws e all more = more set raws e
  labels_below k j le (l ∷ ls) others set [] e all more = absurd (no_rows l (ls ++ others) e)
  labels_below k j le (l ∷ ls) others set (raw ∷ raws) e all more =
      let is : raw.word ≡ words.Label = word_is labels set taken raw raws l (ls ++ others) e ∙ label_is l.word all.0.word in
      let step : label_step raw.word ≡ Sets = ap label_step is in
      let rest : rows_at (raw.name ∷ set) raws ≡ ls ++ others = ap later (sym (rows_are labels set taken raw raws Sets step) ∙ e) in
      subst (AreBelow k) (sym (set_by j raw raws Sets step)) (le, labels_below k j le ls others (raw.name ∷ set) raws rest all.1 more)

  -- behind the last line of a body no label of it is set
  ended_below : (k j : ℕ) (more : List Shown) → EndsBody more → (set : List (List ℕ)) (raws : List Raw) → Match shows_operands (rows_at set raws) more → AreBelow k (labels_set j raws)
  ended_below k j more ends set [] match = tt
  ended_below k j [] ends set (raw ∷ raws) match = absurd (no_first (label_step raw.word) match)
    where
      no_first : (s : Step) → ¬ (Stepped labels set taken raw raws s ≡ [])
      no_first Ends e = cc
      no_first Sets e = cc
      no_first Counts e = cc
      no_first Skips e = cc
  ended_below k j (Line w items ∷ more) ends set (raw ∷ raws) match =
      let is : raw.word ≡ words.Body = word_is labels set taken raw raws match.0 match.1 match.2 ∙ match.3.word ∙ ends in
      subst (AreBelow k) (sym (set_by j raw raws Ends (ap label_step is))) tt
  ended_below k j (Labels n ∷ more) ends set (raw ∷ raws) match = absurd ends

  below_all : (lines more : List Shown) → AllByRecursion IsInner lines → EndsBody more → (j : ℕ) (set : List (List ℕ)) (raws : List Raw) → Match shows_operands (rows_at set raws) (lines ++ more) → AreBelow (j + count_of lines) (labels_set j raws)
  below_all [] more inner ends j set raws match = ended_below (j + 0) j more ends set raws match
  below_all (Labels n ∷ lines) more inner ends j set raws match =
      labels_below (j + count_of lines) j (omega arith) match.0 match.1 set raws match.2 match.3
      (λ set raws e. below_all lines more inner.1 ends j set raws (subst (λ (rs : List Row). Match shows_operands rs (lines ++ more)) (sym e) match.4))
  below_all (Line w items ∷ lines) more inner ends j set [] match = absurd (no_rows match.0 match.1 match.2)
  below_all (Line w items ∷ lines) more inner ends j set (raw ∷ raws) match =
      let is : raw.word ≡ w = word_is labels set taken raw raws match.0 match.1 match.2 ∙ match.3.word in
      elim inner.0 [
        | inl e ↦
            let step : label_step raw.word ≡ Skips = ap label_step is ∙ e in
            let rest : rows_at set raws ≡ match.1 = ap later (sym (rows_are labels set taken raw raws Skips step) ∙ match.2) in
            let none : by_step (label_step w) 0 0 1 0 + count_of lines ≡ count_of lines = ap (λ (t : Step). by_step t 0 0 1 0 + count_of lines) e ∙ omega arith in
            subst (λ (m : ℕ). AreBelow (j + m) (labels_set j (raw ∷ raws))) (sym none)
            (subst (AreBelow (j + count_of lines)) (sym (set_by j raw raws Skips step)) (below_all lines more inner.1 ends j set raws (subst (λ (rs : List Row). Match shows_operands rs (lines ++ more)) (sym rest) match.4)))
        | inr e ↦
            let step : label_step raw.word ≡ Counts = ap label_step is ∙ e in
            let rest : rows_at set raws ≡ match.1 = ap later (sym (rows_are labels set taken raw raws Counts step) ∙ match.2) in
            let one : j + 1 + count_of lines ≡ j + (by_step (label_step w) 0 0 1 0 + count_of lines) = omega arith ∙ ap (λ (t : Step). j + (by_step t 0 0 1 0 + count_of lines)) (sym e) in
            subst (λ (m : ℕ). AreBelow m (labels_set j (raw ∷ raws))) one
            (subst (AreBelow (j + 1 + count_of lines)) (sym (set_by j raw raws Counts step)) (below_all lines more inner.1 ends (j + 1) set raws (subst (λ (rs : List Row). Match shows_operands rs (lines ++ more)) (sym rest) match.4)))
      ]

-- ---- what the lines of a body name

abbrev pub TargetUpTo : ℕ → Item → Type 0
TargetUpTo k (Target n) = n ≤ k
TargetUpTo k _ = Unit {0}

abbrev pub LineUpTo : ℕ → Shown → Type 0
LineUpTo k (Line w items) = AllByRecursion (TargetUpTo k) items
LineUpTo k (Labels n) = Unit {0}

place_below : (k : ℕ) (labels : List Label) (name : List ℕ) (n : ℕ) → AreBelow k labels → place_of_label labels name ≡ Some n → n ≤ k
place_below k [] name n all e = absurd (let none : None ≡ Some n = e in cc)
place_below k (l ∷ labels) name n all e =
    elim (split_bool (bytes_eq l.name name)) [
      | inl same ↦ let found : Some l.number ≡ Some n = rw same at e in let is : l.number ≡ n = cc in subst (λ (m : ℕ). m ≤ k) is all.0
      | inr other ↦ place_below k labels name n all.1 (let more : place_of_label labels name ≡ Some n = rw other at e in more)
    ]

item_below : (k : ℕ) (labels : List Label) → AreBelow k labels → (token : Token) (item : Item) → IsToken labels token item → TargetUpTo k item
item_below k labels all (Bare word) (Target n) is = place_below k labels word n all is.1
item_below k labels all (Quoted bytes) (Target n) is = absurd is
item_below k labels all token (Number n) is = tt
item_below k labels all token (Signed z) is = tt
item_below k labels all token (Text bytes) is = tt
item_below k labels all token (Eight bytes) is = tt
item_below k labels all token (Kind kind) is = tt

items_below : (k : ℕ) (labels : List Label) → AreBelow k labels → (tokens : List Token) (items : List Item) → AreTokens labels tokens items → AllByRecursion (TargetUpTo k) items
items_below k labels all [] [] are = tt
items_below k labels all [] (item ∷ items) are = absurd are
items_below k labels all (token ∷ tokens) [] are = absurd are
items_below k labels all (token ∷ tokens) (item ∷ items) are = (item_below k labels all token item are.0, items_below k labels all tokens items are.1)

module _ (labels : List Label) (taken : List (List ℕ)) (k : ℕ) (below : AreBelow k labels) where
  inner_labels : (w : Word) → (label_step w ≡ Skips) ⊎ (label_step w ≡ Counts) → (set : List (List ℕ)) (raw : Raw) (raws : List Raw) → raw.word ≡ w → first_labels (rows_of_lines labels set taken (raw ∷ raws)) ≡ labels
  inner_labels w inner set raw raws is =
      elim inner [
        | inl e ↦ ap first_labels (rows_are labels set taken raw raws Skips (ap label_step is ∙ e))
        | inr e ↦ ap first_labels (rows_are labels set taken raw raws Counts (ap label_step is ∙ e))
      ]

  inner_rest : (w : Word) → (label_step w ≡ Skips) ⊎ (label_step w ≡ Counts) → (set : List (List ℕ)) (raw : Raw) (raws : List Raw) → raw.word ≡ w → later (rows_of_lines labels set taken (raw ∷ raws)) ≡ rows_of_lines labels set taken raws
  inner_rest w inner set raw raws is =
      elim inner [
        | inl e ↦ ap later (rows_are labels set taken raw raws Skips (ap label_step is ∙ e))
        | inr e ↦ ap later (rows_are labels set taken raw raws Counts (ap label_step is ∙ e))
      ]

  behind_set : (ls others : List Row) (set : List (List ℕ)) (raws : List Raw) → rows_of_lines labels set taken raws ≡ ls ++ others → AllByRecursion IsLabel ls → (set2 : List (List ℕ)) × (raws2 : List Raw) × (rows_of_lines labels set2 taken raws2 ≡ others)
  behind_set [] others set raws e all = (set, raws, e)
  behind_set (l ∷ ls) others set [] e all = absurd (no_rows l (ls ++ others) e)
  behind_set (l ∷ ls) others set (raw ∷ raws) e all =
      let is : raw.word ≡ words.Label = word_is labels set taken raw raws l (ls ++ others) e ∙ label_is l.word all.0.word in
      let rest : rows_of_lines labels (raw.name ∷ set) taken raws ≡ ls ++ others = ap later (sym (rows_are labels set taken raw raws Sets (ap label_step is)) ∙ e) in
      behind_set ls others (raw.name ∷ set) raws rest all.1

  -- each line names numbers up to the last
  lines_below : (lines more : List Shown) → AllByRecursion IsInner lines → (set : List (List ℕ)) (raws : List Raw) → Match shows_operands (rows_of_lines labels set taken raws) (lines ++ more) → AllByRecursion (LineUpTo k) lines
  lines_below [] more inner set raws match = tt
  lines_below (Labels n ∷ lines) more inner set raws match =
      let b = behind_set match.0 match.1 set raws match.2 match.3 in
      (tt, lines_below lines more inner.1 b.0 b.1 (subst (λ (rs : List Row). Match shows_operands rs (lines ++ more)) (sym b.2) match.4))
  lines_below (Line w items ∷ lines) more inner set [] match = absurd (no_rows match.0 match.1 match.2)
  lines_below (Line w items ∷ lines) more inner set (raw ∷ raws) match =
      let is : raw.word ≡ w = word_is labels set taken raw raws match.0 match.1 match.2 ∙ match.3.word in
      let same : match.0.labels ≡ labels = ap first_labels (sym match.2) ∙ inner_labels w inner.0 set raw raws is in
      let rest : rows_of_lines labels set taken raws ≡ match.1 = sym (inner_rest w inner.0 set raw raws is) ∙ ap later match.2 in (
        items_below k labels below match.0.operands items (subst (λ (l : List Label). AreTokens l match.0.operands items) same match.3.operands),
        lines_below lines more inner.1 set raws (subst (λ (rs : List Row). Match shows_operands rs (lines ++ more)) (sym rest) match.4),
      )

-- ---- a body

-- the lines behind a body's line name numbers of its instructions or of its end
pub body_below : (w : Word) → w ≡ words.Body → (items : List Item) (lines more : List Shown) → AllByRecursion IsInner lines → EndsBody more → (rows : List Row) → Behind rows → Match shows_operands rows (Line w items ∷ (lines ++ more)) → AllByRecursion (LineUpTo (count_of lines)) lines
body_below w first items lines more inner ends rows b match = by b.raws b.is
  where
    by : (raws : List Raw) → rows ≡ rows_of_lines b.labels b.set_ b.taken raws → AllByRecursion (LineUpTo (count_of lines)) lines
    by [] e = absurd (no_rows match.0 match.1 (sym e ∙ match.2))
    by (raw ∷ raws) e =
        let is : raw.word ≡ words.Body = word_is b.labels b.set_ b.taken raw raws match.0 match.1 (sym e ∙ match.2) ∙ match.3.word ∙ first in
        let here = labels_set 0 raws in
        let taken = method_named raw.operands ++ b.taken in
        let rest : rows_of_lines here [] taken raws ≡ match.1 = ap later (sym (rows_are b.labels b.set_ b.taken raw raws Ends (ap label_step is)) ∙ (sym e ∙ match.2)) in
        let there : Match shows_operands (rows_of_lines here [] taken raws) (lines ++ more) = subst (λ (rs : List Row). Match shows_operands rs (lines ++ more)) (sym rest) match.4 in
        let zero_ : 0 + count_of lines ≡ count_of lines = omega arith in
        let below = subst (λ (m : ℕ). AreBelow m (labels_set 0 raws)) zero_ (below_all here taken lines more inner ends 0 [] raws there) in
        lines_below here taken (count_of lines) below lines more inner [] raws there

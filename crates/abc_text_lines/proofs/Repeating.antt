-- What a row takes from the lines before it, read off the lists that the rows are made with.
use Rattle.std.proofs.Common.{◌≡◌, ◌≢◌, ◌↔◌, ◌⊎◌, ℕ, suc, inl, inr, true, false, List, [], ◌∷◌, ◌++◌, length, refl, sym, ap, subst, ◌∙◌}
use Rattle.std.proofs.lemmas.Slice.Eq.{bytes_eq-Decides}
use Rattle.std.specs.Str.{bytes_eq}
use Rattle.abc_text_lines.specs.declared.word.Word.{Word}
use Rattle.abc_text_lines.specs.declared.word.Word.TheVariants as words
use Rattle.abc_text_lines.specs.Tokens.{Token, Bare, Quoted}
use Rattle.abc_text_lines.specs.Lines.{Label, Row}
use Rattle.abc_text_lines.specs.Texts.{Raw, Step, Ends, Sets, Counts, Skips, by_step, is_text_among, is_taken, labels_set, method_named, row_of_raw, rows_of_lines, rows_of, label_step}
use Rattle.abc_text_lines.specs.Repeats.{HasBodyIn, HasLabels, HasRow, HasRows, HaveNoBody, IsRepeat, IsSetIn, raws_of}
use Rattle.abc_text_lines.proofs.Bools.{if_is, split_bool}

-- ---- what a line does to the labels of a body

which : (s : Step) → (s ≡ Ends) ⊎ ((s ≡ Sets) ⊎ ((s ≡ Counts) ⊎ (s ≡ Skips)))
which Ends = inl refl
which Sets = inr (inl refl)
which Counts = inr (inr (inl refl))
which Skips = inr (inr (inr refl))

ends_word : (w : Word) → label_step w ≡ Ends → w ≡ words.Body
ends_word words.Body e = refl
ends_word words.Label e = absurd cc
ends_word (words.Instruction op) e = absurd cc
ends_word _ e = absurd cc

sets_word : (w : Word) → label_step w ≡ Sets → w ≡ words.Label
sets_word words.Label e = refl
sets_word words.Body e = absurd cc
sets_word (words.Instruction op) e = absurd cc
sets_word _ e = absurd cc

other_word : (w : Word) (s : Step) → label_step w ≡ s → s ≢ Ends → w ≢ words.Body
other_word w s e other is = other (sym e ∙ ap label_step is)

-- ---- the lists behind some lines

abbrev set_after : List (List ℕ) → List Raw → List (List ℕ)
set_after set [] = set
set_after set (r ∷ front) = by_step (label_step r.word) (set_after [] front) (set_after (r.name ∷ set) front) (set_after set front) (set_after set front)

abbrev taken_after : List (List ℕ) → List Raw → List (List ℕ)
taken_after taken [] = taken
taken_after taken (r ∷ front) = by_step (label_step r.word) (taken_after (method_named r.operands ++ taken) front) (taken_after taken front) (taken_after taken front) (taken_after taken front)

abbrev labels_after : List Label → List Raw → List Raw → List Label
labels_after labels [] rest = labels
labels_after labels (r ∷ front) rest = by_step (label_step r.word) (labels_after (labels_set 0 (front ++ rest)) front rest) (labels_after labels front rest) (labels_after labels front rest) (labels_after labels front rest)

-- ---- the row of a line

record Found (rows : List Row) (n : ℕ) (line : Row) : Type 0 where
  before : List Row
  behind : List Row
  parts : rows ≡ before ++ line ∷ behind
  place : length before ≡ n

first : (line : Row) (rows : List Row) → Found (line ∷ rows) 0 line
first line rows = record { before = []; behind = rows; parts = refl; place = refl }

next : (x : Row) (rows : List Row) (n : ℕ) (line : Row) → Found rows n line → Found (x ∷ rows) (suc n) line
next x rows n line f = record { before = x ∷ f.before; behind = f.behind; parts = ap (λ (l : List Row). x ∷ l) f.parts; place = ap suc f.place }

module _ (raw : Raw) (after : List Raw) where
  -- the row, by the lists that stand before the line
  abbrev here : List Label → List (List ℕ) → List (List ℕ) → Step → Row
  here labels set taken s = row_of_raw raw (by_step s (labels_set 0 after) labels labels labels) (by_step s (is_taken (method_named raw.operands) taken) (is_text_among raw.name set) false false)

  found_first : (labels : List Label) (set taken : List (List ℕ)) (s : Step) (a b c d : List Row) →
      Found (by_step s (row_of_raw raw (labels_set 0 after) (is_taken (method_named raw.operands) taken) ∷ a) (row_of_raw raw labels (is_text_among raw.name set) ∷ b) (row_of_raw raw labels false ∷ c) (row_of_raw raw labels false ∷ d)) 0 (here labels set taken s)
  found_first labels set taken Ends a b c d = first _ a
  found_first labels set taken Sets a b c d = first _ b
  found_first labels set taken Counts a b c d = first _ c
  found_first labels set taken Skips a b c d = first _ d

  found : (front : List Raw) (labels : List Label) (set taken : List (List ℕ)) →
      Found (rows_of_lines labels set taken (front ++ raw ∷ after)) (length front) (here (labels_after labels front (raw ∷ after)) (set_after set front) (taken_after taken front) (label_step raw.word))
  found [] labels set taken = found_first labels set taken (label_step raw.word) _ _ _ _
  found (r ∷ front) labels set taken =
      elim (which (label_step r.word)) [
        | inl e ↦ rw e (next _ _ _ _ (found front (labels_set 0 (front ++ raw ∷ after)) [] (method_named r.operands ++ taken)))
        | inr f ↦ elim f [
          | inl e ↦ rw e (next _ _ _ _ (found front labels (r.name ∷ set) taken))
          | inr g ↦ elim g [
            | inl e ↦ rw e (next _ _ _ _ (found front labels set taken))
            | inr e ↦ rw e (next _ _ _ _ (found front labels set taken))
          ]
        ]
      ]

-- ---- names among others

among_first : (x name : List ℕ) (set : List (List ℕ)) → x ≡ name → is_text_among name (x ∷ set) ≡ true
among_first x name set same = let e = (bytes_eq-Decides x name).1 same in rw e refl

among_more : (x name : List ℕ) (set : List (List ℕ)) → is_text_among name set ≡ true → is_text_among name (x ∷ set) ≡ true
among_more x name set e = elim (split_bool (bytes_eq x name)) [ inl b ↦ rw b refl | inr b ↦ rw b e ]

among_behind : (name : List ℕ) (a b : List (List ℕ)) → is_text_among name b ≡ true → is_text_among name (a ++ b) ≡ true
among_behind name [] b e = e
among_behind name (x ∷ a) b e = among_more x name (a ++ b) (among_behind name a b e)

none_among : (name : List ℕ) → is_text_among name [] ≡ true → ⊥
none_among name e = absurd cc

-- ---- labels that are set

set_later : (r : Raw) (front : List Raw) (name : List ℕ) → IsSetIn front name → IsSetIn (r ∷ front) name
set_later r front name s = record {
  before = r ∷ s.before;
  line = s.line;
  since = s.since;
  parts = ap (λ (l : List Raw). r ∷ l) s.parts;
  word = s.word;
  same = s.same;
  one_body = s.one_body;
}

abbrev IsSetOr : List ℕ → List (List ℕ) → List Raw → Type 0
IsSetOr name set front = IsSetIn front name ⊎ (HaveNoBody front × (is_text_among name set ≡ true))

after_body : (r : Raw) (front : List Raw) (name : List ℕ) (set : List (List ℕ)) → IsSetOr name [] front → IsSetOr name set (r ∷ front)
after_body r front name set (inl s) = inl (set_later r front name s)
after_body r front name set (inr n) = absurd (none_among name n.1)

after_label : (r : Raw) (front : List Raw) (name : List ℕ) (set : List (List ℕ)) → label_step r.word ≡ Sets → IsSetOr name (r.name ∷ set) front → IsSetOr name set (r ∷ front)
after_label r front name set e (inl s) = inl (set_later r front name s)
after_label r front name set e (inr n) =
    elim (if_is (bytes_eq r.name name) true (is_text_among name set) true n.1) [
      | inl c ↦ inl (record { before = []; line = r; since = front; parts = refl; word = sets_word r.word e; same = (bytes_eq-Decides r.name name).0 c.0; one_body = n.0 })
      | inr c ↦ inr ((other_word r.word Sets e (λ q. absurd cc), n.0), c.1)
    ]

after_other : (r : Raw) (front : List Raw) (name : List ℕ) (set : List (List ℕ)) → r.word ≢ words.Body → IsSetOr name set front → IsSetOr name set (r ∷ front)
after_other r front name set other (inl s) = inl (set_later r front name s)
after_other r front name set other (inr n) = inr ((other, n.0), n.1)

set_found : (name : List ℕ) (front : List Raw) (set : List (List ℕ)) → is_text_among name (set_after set front) ≡ true → IsSetOr name set front
set_found name [] set e = inr (tt, e)
set_found name (r ∷ front) set e =
    elim (which (label_step r.word)) [
      | inl s ↦ after_body r front name set (set_found name front [] (rw s at e))
      | inr f ↦ elim f [
        | inl s ↦ after_label r front name set s (set_found name front (r.name ∷ set) (rw s at e))
        | inr g ↦ elim g [
          | inl s ↦ after_other r front name set (other_word r.word Counts s (λ q. absurd cc)) (set_found name front set (rw s at e))
          | inr s ↦ after_other r front name set (other_word r.word Skips s (λ q. absurd cc)) (set_found name front set (rw s at e))
        ]
      ]
    ]

set_stays : (name : List ℕ) (front : List Raw) (set : List (List ℕ)) → HaveNoBody front → is_text_among name set ≡ true → is_text_among name (set_after set front) ≡ true
set_stays name [] set n e = e
set_stays name (r ∷ front) set n e =
    elim (which (label_step r.word)) [
      | inl s ↦ absurd (n.0 (ends_word r.word s))
      | inr f ↦ elim f [
        | inl s ↦ rw s (set_stays name front (r.name ∷ set) n.1 (among_more r.name name set e))
        | inr g ↦ elim g [ inl s ↦ rw s (set_stays name front set n.1 e) | inr s ↦ rw s (set_stays name front set n.1 e) ]
      ]
    ]

set_kept : (name : List ℕ) (before : List Raw) (line : Raw) (since : List Raw) (set : List (List ℕ)) → line.word ≡ words.Label → line.name ≡ name → HaveNoBody since → is_text_among name (set_after set (before ++ line ∷ since)) ≡ true
set_kept name [] line since set word same none = let s : label_step line.word ≡ Sets = ap label_step word in rw s (set_stays name since (line.name ∷ set) none (among_first line.name name set same))
set_kept name (r ∷ before) line since set word same none =
    elim (which (label_step r.word)) [
      | inl s ↦ rw s (set_kept name before line since [] word same none)
      | inr f ↦ elim f [
        | inl s ↦ rw s (set_kept name before line since (r.name ∷ set) word same none)
        | inr g ↦ elim g [ inl s ↦ rw s (set_kept name before line since set word same none) | inr s ↦ rw s (set_kept name before line since set word same none) ]
      ]
    ]

only_set : (name : List ℕ) (front : List Raw) → IsSetOr name [] front → IsSetIn front name
only_set name front (inl s) = s
only_set name front (inr n) = absurd (none_among name n.1)

set_is : (name : List ℕ) (front : List Raw) → (is_text_among name (set_after [] front) ≡ true) ↔ IsSetIn front name
set_is name front = (
  λ e. only_set name front (set_found name front [] e),
  λ s. subst (λ (l : List Raw). is_text_among name (set_after [] l) ≡ true) (sym s.parts) (set_kept name s.before s.line s.since [] s.word s.same s.one_body),
)

-- ---- methods that have a body

method_split : (tokens : List Token) → (method_named tokens ≡ []) ⊎ ((m : List ℕ) × (method_named tokens ≡ m ∷ []))
method_split [] = inl refl
method_split (Bare word ∷ tokens) = inr (word, refl)
method_split (Quoted text ∷ tokens) = inl refl

body_later : (r : Raw) (front : List Raw) (m : List ℕ) → HasBodyIn front m → HasBodyIn (r ∷ front) m
body_later r front m b = record { before = r ∷ b.before; line = b.line; since = b.since; parts = ap (λ (l : List Raw). r ∷ l) b.parts; word = b.word; same = b.same }

abbrev HasBodyOr : List ℕ → List (List ℕ) → List Raw → Type 0
HasBodyOr m taken front = HasBodyIn front m ⊎ (is_text_among m taken ≡ true)

body_other : (r : Raw) (front : List Raw) (m : List ℕ) (taken : List (List ℕ)) → HasBodyOr m taken front → HasBodyOr m taken (r ∷ front)
body_other r front m taken (inl b) = inl (body_later r front m b)
body_other r front m taken (inr e) = inr e

body_here : (r : Raw) (front : List Raw) (m : List ℕ) (taken : List (List ℕ)) → r.word ≡ words.Body → HasBodyOr m (method_named r.operands ++ taken) front → HasBodyOr m taken (r ∷ front)
body_here r front m taken word (inl b) = inl (body_later r front m b)
body_here r front m taken word (inr e) =
    elim (method_split r.operands) [
      | inl none ↦ inr (rw none at e)
      | inr some ↦
          let is = some.1 in
          let h : is_text_among m (some.0 ∷ taken) ≡ true = rw is at e in
          elim (if_is (bytes_eq some.0 m) true (is_text_among m taken) true h) [
            | inl c ↦ inl (record { before = []; line = r; since = front; parts = refl; word = word; same = is ∙ ap (λ (x : List ℕ). x ∷ []) ((bytes_eq-Decides some.0 m).0 c.0) })
            | inr c ↦ inr c.1
          ]
    ]

body_found : (m : List ℕ) (front : List Raw) (taken : List (List ℕ)) → is_text_among m (taken_after taken front) ≡ true → HasBodyOr m taken front
body_found m [] taken e = inr e
body_found m (r ∷ front) taken e =
    elim (which (label_step r.word)) [
      | inl s ↦ body_here r front m taken (ends_word r.word s) (body_found m front (method_named r.operands ++ taken) (rw s at e))
      | inr f ↦ elim f [
        | inl s ↦ body_other r front m taken (body_found m front taken (rw s at e))
        | inr g ↦ elim g [ inl s ↦ body_other r front m taken (body_found m front taken (rw s at e)) | inr s ↦ body_other r front m taken (body_found m front taken (rw s at e)) ]
      ]
    ]

body_stays : (m : List ℕ) (front : List Raw) (taken : List (List ℕ)) → is_text_among m taken ≡ true → is_text_among m (taken_after taken front) ≡ true
body_stays m [] taken e = e
body_stays m (r ∷ front) taken e =
    elim (which (label_step r.word)) [
      | inl s ↦ rw s (body_stays m front (method_named r.operands ++ taken) (among_behind m (method_named r.operands) taken e))
      | inr f ↦ elim f [
        | inl s ↦ rw s (body_stays m front taken e)
        | inr g ↦ elim g [ inl s ↦ rw s (body_stays m front taken e) | inr s ↦ rw s (body_stays m front taken e) ]
      ]
    ]

body_kept : (m : List ℕ) (before : List Raw) (line : Raw) (since : List Raw) (taken : List (List ℕ)) → line.word ≡ words.Body → method_named line.operands ≡ m ∷ [] → is_text_among m (taken_after taken (before ++ line ∷ since)) ≡ true
body_kept m [] line since taken word same =
    let s : label_step line.word ≡ Ends = ap label_step word in
    let h : is_text_among m (method_named line.operands ++ taken) ≡ true = rw same (among_first m m taken refl) in
    rw s (body_stays m since (method_named line.operands ++ taken) h)
body_kept m (r ∷ before) line since taken word same =
    elim (which (label_step r.word)) [
      | inl s ↦ rw s (body_kept m before line since (method_named r.operands ++ taken) word same)
      | inr f ↦ elim f [
        | inl s ↦ rw s (body_kept m before line since taken word same)
        | inr g ↦ elim g [ inl s ↦ rw s (body_kept m before line since taken word same) | inr s ↦ rw s (body_kept m before line since taken word same) ]
      ]
    ]

only_body : (m : List ℕ) (front : List Raw) → HasBodyOr m [] front → HasBodyIn front m
only_body m front (inl b) = b
only_body m front (inr e) = absurd (none_among m e)

none_taken : (taken : List (List ℕ)) → is_taken [] taken ≡ true → ⊥
none_taken taken e = absurd cc

body_is : (front : List Raw) (raw : Raw) → (is_taken (method_named raw.operands) (taken_after [] front) ≡ true) ↔ ((m : List ℕ) × (method_named raw.operands ≡ m ∷ []) × HasBodyIn front m)
body_is front raw = (
  λ e. elim (method_split raw.operands) [
    | inl none ↦ absurd (none_taken (taken_after [] front) (subst (λ (ms : List (List ℕ)). is_taken ms (taken_after [] front) ≡ true) none e))
    | inr some ↦ (some.0, some.1, only_body some.0 front (body_found some.0 front [] (subst (λ (ms : List (List ℕ)). is_taken ms (taken_after [] front) ≡ true) some.1 e)))
  ],
  λ h. subst (λ (ms : List (List ℕ)). is_taken ms (taken_after [] front) ≡ true) (sym h.1)
      (subst (λ (l : List Raw). is_text_among h.0 (taken_after [] l) ≡ true) (sym h.2.parts) (body_kept h.0 h.2.before h.2.line h.2.since [] h.2.word h.2.same)),
)

-- ---- repeats

repeat_is : (w : Word) (front : List Raw) (raw : Raw) → (by_step (label_step w) (is_taken (method_named raw.operands) (taken_after [] front)) (is_text_among raw.name (set_after [] front)) false false ≡ true) ↔ IsRepeat w front raw
repeat_is words.Label front raw = set_is raw.name front
repeat_is words.Body front raw = body_is front raw
repeat_is (words.Instruction op) front raw = (λ e. absurd cc, λ h. absurd h)
repeat_is _ front raw = (λ e. absurd cc, λ h. absurd h)

-- ---- the labels of a line

not_ended : {A : Type 0} (w : Word) (a b : A) → w ≢ words.Body → by_step (label_step w) a b b b ≡ b
not_ended w a b other =
    elim (which (label_step w)) [
      | inl s ↦ absurd (other (ends_word w s))
      | inr f ↦ elim f [ inl s ↦ rw s refl | inr g ↦ elim g [ inl s ↦ rw s refl | inr s ↦ rw s refl ] ]
    ]

labels_stay : (labels : List Label) (front rest : List Raw) → HaveNoBody front → labels_after labels front rest ≡ labels
labels_stay labels [] rest n = refl
labels_stay labels (r ∷ front) rest n = not_ended r.word _ _ n.0 ∙ labels_stay labels front rest n.1

labels_kept : (before : List Raw) (body : Raw) (since rest : List Raw) (labels : List Label) → body.word ≡ words.Body → HaveNoBody since → labels_after labels (before ++ body ∷ since) rest ≡ labels_set 0 (since ++ rest)
labels_kept [] body since rest labels word none = let s : label_step body.word ≡ Ends = ap label_step word in rw s (labels_stay (labels_set 0 (since ++ rest)) since rest none)
labels_kept (r ∷ before) body since rest labels word none =
    elim (which (label_step r.word)) [
      | inl s ↦ rw s (labels_kept before body since rest (labels_set 0 ((before ++ body ∷ since) ++ rest)) word none)
      | inr f ↦ elim f [
        | inl s ↦ rw s (labels_kept before body since rest labels word none)
        | inr g ↦ elim g [ inl s ↦ rw s (labels_kept before body since rest labels word none) | inr s ↦ rw s (labels_kept before body since rest labels word none) ]
      ]
    ]

labels_are : (front : List Raw) (raw : Raw) (after : List Raw) → let l = labels_after [] front (raw ∷ after) in HasLabels front raw after (by_step (label_step raw.word) (labels_set 0 after) l l l)
labels_are front raw after = record {
  own = λ word. let s : label_step raw.word ≡ Ends = ap label_step word in rw s refl;
  of_body = λ other before body since e word none. not_ended raw.word _ _ other ∙ ap (λ (f : List Raw). labels_after [] f (raw ∷ after)) e ∙ labels_kept before body since (raw ∷ after) [] word none;
  none = λ other none. not_ended raw.word _ _ other ∙ labels_stay [] front (raw ∷ after) none;
}

-- ---- all rows

as_many_rows : (labels : List Label) (set taken : List (List ℕ)) (raws : List Raw) → length (rows_of_lines labels set taken raws) ≡ length raws
as_many_rows labels set taken [] = refl
as_many_rows labels set taken (r ∷ raws) =
    elim (which (label_step r.word)) [
      | inl s ↦ rw s (ap suc (as_many_rows (labels_set 0 raws) [] (method_named r.operands ++ taken) raws))
      | inr f ↦ elim f [
        | inl s ↦ rw s (ap suc (as_many_rows labels (r.name ∷ set) taken raws))
        | inr g ↦ elim g [ inl s ↦ rw s (ap suc (as_many_rows labels set taken raws)) | inr s ↦ rw s (ap suc (as_many_rows labels set taken raws)) ]
      ]
    ]

row_of : (front : List Raw) (raw : Raw) (after : List Raw) → HasRow (rows_of_lines [] [] [] (front ++ raw ∷ after)) front raw after
row_of front raw after =
    let f = found raw after front [] [] [] in
    record {
      before = f.before;
      row = here raw after (labels_after [] front (raw ∷ after)) (set_after [] front) (taken_after [] front) (label_step raw.word);
      behind = f.behind;
      parts = f.parts;
      place = f.place;
      number = refl;
      word = refl;
      broken = refl;
      operands = refl;
      labels = labels_are front raw after;
      repeated = repeat_is raw.word front raw;
    }

pub has_rows : (text : List ℕ) → HasRows text
unfolding rows_of
has_rows text = record {
  as_many = as_many_rows [] [] [] (raws_of text);
  each = λ front raw after e. subst (λ (raws : List Raw). HasRow (rows_of_lines [] [] [] raws) front raw after) (sym e) (row_of front raw after);
}

-- How many lines of a value stand at a place.
use Rattle.std.proofs.Common.{◌≡◌, ℕ, ◌+◌, inl, inr, true, false, nat_eq, List, [], ◌∷◌, ◌++◌, length, map, refl, sym, ap, subst, ◌∙◌, append_assoc, arith}
use Rattle.std.specs.List.{AllByRecursion}
use Rattle.abc_text_lines.specs.declared.word.Word.{Word}
use Rattle.abc_text_lines.specs.Words.{place_of}
use Rattle.abc_text_lines.proofs.Bools.{split_bool}
use Rattle.abc_text_lines.specs.Lines.{Row, Shown, Line, Labels, places_shown}
use Rattle.abc_text_lines.specs.Operands.{Operands}
use Rattle.abc_text_lines.specs.Rows.{Head, Rows, items_shown, empty_rows}
use Rattle.abc_text_lines.specs.Law.{Among, IsLabel, Match, Next, Shows}
use Rattle.abc_text_lines.specs.Wordlines.{always, among, count_all, count_in, count_lines, lines_of_word}
use Rattle.abc_text_lines.proofs.Many.{eq_refl, eq_true, label_place}
use Rattle.abc_text_lines.proofs.Pieces.{shown-append}
use Rattle.abc_text_lines.proofs.Wordlines.{yes_among}

pub count_in-append : (place : ℕ) (a b : List ℕ) → count_in place (a ++ b) ≡ count_in place a + count_in place b
count_in-append place [] b = omega arith
count_in-append place (p ∷ a) b =
    let more = count_in-append place a b in
    elim (split_bool (nat_eq p place)) [ inl e ↦ rw e (omega (arith, more)) | inr e ↦ rw e more ]

-- a place that none of the lines has
pub count_in-none : (place : ℕ) (ps has : List ℕ) → ((before : List ℕ) (w : ℕ) (more : List ℕ) → ps ≡ before ++ w ∷ more → Among w has) → (Among place has → ⊥) → count_in place ps ≡ 0
count_in-none place [] has inside free = refl
count_in-none place (p ∷ ps) has inside free =
    elim (split_bool (nat_eq p place)) [
      | inl e ↦ absurd (free (subst (λ (w : ℕ). Among w has) (eq_true p place e) (inside [] p ps refl)))
      | inr e ↦ rw e (count_in-none place ps has (λ before w more s. inside (p ∷ before) w more (ap (λ (l : List ℕ). p ∷ l) s)) free)
    ]

-- lines of one word with no lines below them
pub flat_count : {A : Type 0} (w : Word) (p : Operands A) (xs : List A) → count_in (place_of w) (places_shown (items_shown (lines_of_word w p always) empty_rows (map (λ (x : A). (x, tt)) xs))) ≡ length xs
flat_count w p [] = refl
flat_count w p (x ∷ xs) = let yes : nat_eq (place_of w) (place_of w) ≡ true = eq_refl (place_of w) (place_of w) refl in let more = flat_count w p xs in rw yes (omega (arith, more))

-- heads, where the lines below them are of other places
pub many_count : {H B : Type 0} (head : Head H B) (below : Rows B) → ((h : H) → place_of (head.word h) ≡ head.place) → ((x : B) (before : List ℕ) (w : ℕ) (more : List ℕ) → places_shown (below.shows x) ≡ before ++ w ∷ more → Among w below.has) → (Among head.place below.has → ⊥) → (xs : List (H × B)) → count_in head.place (places_shown (items_shown head below xs)) ≡ length xs
many_count head below at inside free [] = refl
many_count head below at inside free (x ∷ xs) =
    let yes : nat_eq (place_of (head.word x.0)) head.place ≡ true = eq_refl (place_of (head.word x.0)) head.place (at x.0) in
    let none = count_in-none head.place (places_shown (below.shows x.1)) below.has (inside x.1) free in
    let more = many_count head below at inside free xs in
    let all : count_in head.place (places_shown (below.shows x.1 ++ items_shown head below xs)) ≡ length xs =
    ap (count_in head.place) (shown-append (below.shows x.1) (items_shown head below xs)) ∙ count_in-append head.place (places_shown (below.shows x.1)) (places_shown (items_shown head below xs)) ∙ omega (arith, none, more) in
    rw yes (omega (arith, all))

-- heads and lines below them, of which none stands at a place
pub many_none : {H B : Type 0} (place : ℕ) (head : Head H B) (below : Rows B) → ((h : H) → nat_eq (place_of (head.word h)) place ≡ false) → ((x : B) → count_in place (places_shown (below.shows x)) ≡ 0) → (xs : List (H × B)) → count_in place (places_shown (items_shown head below xs)) ≡ 0
many_none place head below other none [] = refl
many_none place head below other none (x ∷ xs) =
    let here = other x.0 in
    let all : count_in place (places_shown (below.shows x.1 ++ items_shown head below xs)) ≡ 0 =
    ap (count_in place) (shown-append (below.shows x.1) (items_shown head below xs)) ∙ count_in-append place (places_shown (below.shows x.1)) (places_shown (items_shown head below xs)) ∙ omega (arith, none x.1, many_none place head below other none xs) in
    rw here all

-- ---- rows

count_free : (part : List ℕ) (place : ℕ) (rest : List Row) → Among place part → ((w : ℕ) → Next rest w → Among w part → ⊥) → count_lines part place rest ≡ 0
count_free part place [] there free = refl
count_free part place (row ∷ rest) there free =
    let a : nat_eq (place_of row.word) place ≡ false = elim (split_bool (nat_eq (place_of row.word) place)) [
      | inl e ↦ absurd (free (place_of row.word) refl (subst (λ (x : ℕ). Among x part) (sym (eq_true (place_of row.word) place e)) there))
      | inr e ↦ e
    ] in
    let b : among (place_of row.word) part ≡ false = elim (split_bool (among (place_of row.word) part)) [
      | inl e ↦ absurd (free (place_of row.word) refl (yes_among (place_of row.word) part e))
      | inr e ↦ e
    ] in
    rw (a, b) refl

module _ (part : List ℕ) (place : ℕ) (labels_in : among 23 part ≡ true) (no_labels : nat_eq 23 place ≡ false) (same : Shows) where
  labels_skipped : (labels rest : List Row) → AllByRecursion IsLabel labels → count_lines part place (labels ++ rest) ≡ count_lines part place rest
  labels_skipped [] rest all = refl
  labels_skipped (row ∷ labels) rest all =
      let at : place_of row.word ≡ 23 = label_place row.word all.0.word in
      let a : nat_eq (place_of row.word) place ≡ false = ap (λ (n : ℕ). nat_eq n place) at ∙ no_labels in
      let b : among (place_of row.word) part ≡ true = ap (λ (n : ℕ). among n part) at ∙ labels_in in
      rw (a, b) (labels_skipped labels rest all.1)

  -- the lines of a value, all of the part, and then others
  count_match : (s : List Shown) (front rest : List Row) → Match same front s → ((before : List ℕ) (w : ℕ) (more : List ℕ) → places_shown s ≡ before ++ w ∷ more → among w part ≡ true) → count_lines part place (front ++ rest) ≡ count_in place (places_shown s) + count_lines part place rest
  count_match [] front rest match inside = rw match (omega arith)
  count_match (Line w items ∷ s) front rest match inside =
      let row = match.0 in
      let regroup : front ++ rest ≡ row ∷ (match.1 ++ rest) = ap (λ (l : List Row). l ++ rest) match.2 in
      let at : place_of row.word ≡ place_of w = ap place_of match.3.word in
      let b : among (place_of w) part ≡ true = inside [] (place_of w) (places_shown s) refl in
      let more = count_match s match.1 rest match.4 (λ before v tail e. inside (place_of w ∷ before) v tail (ap (λ (l : List ℕ). place_of w ∷ l) e)) in
      elim (split_bool (nat_eq (place_of w) place)) [
        | inl e ↦ rw (regroup, at, e) (omega (arith, more))
        | inr e ↦ rw (regroup, at, e, b) more
      ]
  count_match (Labels n ∷ s) front rest match inside =
      let regroup : front ++ rest ≡ match.0 ++ (match.1 ++ rest) = ap (λ (l : List Row). l ++ rest) match.2 ∙ append_assoc match.0 match.1 rest in
      ap (count_lines part place) regroup ∙ labels_skipped match.0 (match.1 ++ rest) match.3 ∙ count_match s match.1 rest match.4 inside

  -- behind a part after which no line of it comes
  pub counted : {A : Type 0} (p : Rows A) (x : A) (front rest : List Row) → Among place part → ((before : List ℕ) (w : ℕ) (more : List ℕ) → places_shown (p.shows x) ≡ before ++ w ∷ more → among w part ≡ true) → Match same front (p.shows x) → ((w : ℕ) → Next rest w → Among w part → ⊥) → count_lines part place (front ++ rest) ≡ count_in place (places_shown (p.shows x))
  counted p x front rest there inside match free =
      let none = count_free part place rest there free in
      omega (arith, count_match (p.shows x) front rest match inside, none)

-- ---- all rows

labels_not_counted : (place : ℕ) (labels rest : List Row) → nat_eq 23 place ≡ false → AllByRecursion IsLabel labels → count_all place (labels ++ rest) ≡ count_all place rest
labels_not_counted place [] rest other all = refl
labels_not_counted place (row ∷ labels) rest other all =
    let at : place_of row.word ≡ 23 = label_place row.word all.0.word in
    let a : nat_eq (place_of row.word) place ≡ false = ap (λ (n : ℕ). nat_eq n place) at ∙ other in
    rw a (labels_not_counted place labels rest other all.1)

-- all lines of a value, but for label lines
pub count_all-match : (place : ℕ) (same : Shows) → nat_eq 23 place ≡ false → (s : List Shown) (rows : List Row) → Match same rows s → count_all place rows ≡ count_in place (places_shown s)
count_all-match place same other [] rows match = rw match refl
count_all-match place same other (Line w items ∷ s) rows match =
    let at : place_of match.0.word ≡ place_of w = ap place_of match.3.word in
    let whole = match.2 in
    let more = count_all-match place same other s match.1 match.4 in
    elim (split_bool (nat_eq (place_of w) place)) [
      | inl e ↦ rw (whole, at, e) (omega (arith, more))
      | inr e ↦ rw (whole, at, e) more
    ]
count_all-match place same other (Labels n ∷ s) rows match =
    ap (count_all place) match.2 ∙ labels_not_counted place match.0 match.1 other match.3 ∙ count_all-match place same other s match.1 match.4

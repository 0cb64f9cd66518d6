-- Any number of lines of one word, each with the lines below it.
use Rattle.std.proofs.Common.{◌≡◌, ℕ, zero, suc, ◌≤◌, ◌⊎◌, inl, inr, true, false, nat_eq, List, [], ◌∷◌, ◌++◌, length, map, Ok, Err, Some, None, refl, sym, ap, subst, ◌∙◌, append_assoc, length-append, arith}
use Rattle.std.proofs.lemmas.Bool.Decides.{nat_tests}
use Rattle.std.specs.declared.result.Result.{Result}
use Rattle.abc_text_lines.specs.declared.word.Word.{Word}
use Rattle.abc_text_lines.specs.declared.word.Word.TheVariants as words
use Rattle.abc_text_lines.specs.Reasons.{least}
use Rattle.abc_text_lines.specs.Words.{place_of}
use Rattle.abc_text_lines.specs.Lines.{Row, line_places, places_shown}
use Rattle.abc_text_lines.specs.Rows.{Fault, Faults, Rows, Head, both_rows, image_rows, many, empty_rows, unless, item_first, pair_reads, items_reads, items_shown, is_label}
use Rattle.abc_text_lines.specs.Law.{Among, IsLineFree, LineKeeps, Lawful, Match, Next, Refused, Shows, Taken}
use Rattle.abc_text_lines.proofs.Bools.{if_is, split_bool}
use Rattle.abc_text_lines.proofs.Pieces.{Among-cases, Match-split, Next-cases, bind_err, bind_ok, fine, ok_is, shown-append, unless_err, unless_ok}
use Rattle.abc_text_lines.proofs.Exact.{both-lawful, inside_of_two}

pub none_inside : (before : List ℕ) (w : ℕ) (more : List ℕ) → [] ≡ before ++ w ∷ more → ⊥
none_inside [] w more e = cc
none_inside (v ∷ before) w more e = cc

pub nothing-lawful : (given : Type 0) (same : Shows) (faults : Faults) (n : ℕ) → Lawful given same faults n empty_rows
nothing-lawful given same faults n = record {
  taken = λ rows x rest le e.
      let made : Unit {0} × List Row = (tt, rows) in
      subst (λ (z : Unit {0} × List Row). Taken given same faults empty_rows rows z.0 z.1) (ok_is made (x, rest) e)
      (record { front = []; parts = refl; shown = refl; clean = tt; fits = λ all free. tt; like = tt; alike = refl; stops = λ y w more s h. absurd cc });
  refused = λ rows f le e. absurd cc;
  again = λ x front rest le fit match free. ap (λ (l : List Row). fine (x, l ++ rest)) match;
  some = tt;
  first = λ x w more e. absurd cc;
  begins = λ x front w more match e. let none : line_places front ≡ [] = ap line_places match in absurd cc;
  inside = λ x before w more e. absurd (none_inside before w more e);
}

-- ---- fewer lines

pub weaken : {A : Type 0} (given : Type 0) (same : Shows) (faults : Faults) (n m : ℕ) (p : Rows A) → n ≤ m → Lawful given same faults m p → Lawful given same faults n p
weaken given same faults n m p le lp = record {
  taken = λ rows x rest few e. lp.taken rows x rest (omega arith) e;
  refused = λ rows f few e. lp.refused rows f (omega arith) e;
  again = λ x front rest few fit match free. lp.again x front rest (omega arith) fit match free;
  some = lp.some;
  first = lp.first;
  begins = lp.begins;
  inside = lp.inside;
}

-- ---- other values

pub image-lawful : {A B : Type 0} (given : Type 0) (same : Shows) (faults : Faults) (n : ℕ) (f : A → B) (g : B → A) (p : Rows A) → ((x : A) → g (f x) ≡ x) → ((y : B) → f (g y) ≡ y) → Lawful given same faults n p → Lawful given same faults n (image_rows f g p)
image-lawful {A} {B} given same faults n f g p back forth lp = record {
  taken = λ rows y rest le e.
      let a = bind_ok (p.reads rows) (λ x. Ok (f x.0, x.1)) (y, rest) e in
      let t = lp.taken rows a.0.0 a.0.1 le a.1 in
      let made : B × List Row = (f a.0.0, a.0.1) in
      subst (λ (z : B × List Row). Taken given same faults (image_rows f g p) rows z.0 z.1) (ok_is made (y, rest) a.2)
      (record {
        front = t.front;
        parts = t.parts;
        clean = t.clean;
        shown = subst (λ (x : A). Match same t.front (p.shows x)) (sym (back a.0.0)) t.shown;
        fits = λ all free. subst (λ (x : A). p.fits x) (sym (back a.0.0)) (t.fits all free);
        like = f t.like;
        alike = ap (λ (x : A). places_shown (p.shows x)) (back t.like) ∙ t.alike;
        stops = λ z w more s h. t.stops (g z) w more s h;
      });
  refused = λ rows d le e.
      elim (bind_err (p.reads rows) (λ x. Ok (f x.0, x.1)) d e) [
        | inl h ↦
            let r = lp.refused rows d le h in
            record { front = r.front; row = r.row; after = r.after; parts = r.parts; clean = r.clean; reason = r.reason; line = r.line; like = f r.like; more = r.more; alike = ap (λ (x : A). places_shown (p.shows x)) (back r.like) ∙ r.alike }
        | inr a ↦ absurd cc
      ];
  again = λ y front rest le fit match free.
      let one : p.reads (front ++ rest) ≡ Ok (g y, rest) = lp.again (g y) front rest le fit match free in
      rw one (ap (λ (z : B). Ok (z, rest)) (forth y));
  some = f lp.some;
  first = λ y w more e. lp.first (g y) w more e;
  begins = λ y front w more match e. lp.begins (g y) front w more match e;
  inside = λ y before w more e. lp.inside (g y) before w more e;
}

-- ---- many

pub same_cons : (v w : ℕ) (a b : List ℕ) → v ≡ w → a ≡ b → v ∷ a ≡ w ∷ b
same_cons v w a b e f = cc

pub label_place : (w : Word) → is_label w ≡ true → place_of w ≡ 23
label_place words.Label e = refl
label_place _ e = absurd cc

pub eq_true : (a b : ℕ) → nat_eq a b ≡ true → a ≡ b
eq_true a b e = grind (arith, nat_tests)

pub eq_refl : (a b : ℕ) → a ≡ b → nat_eq a b ≡ true
eq_refl a b e = grind (arith, nat_tests)

module _ {H B : Type 0} (given : Type 0) (same : Shows) (faults : Faults) (head : Head H B) (below : Rows B) (keeps : LineKeeps given same faults head below) (ordinary : ¬ (head.place ≡ 23)) (apart : Among head.place below.has → ⊥) (inside : (x : B) (before : List ℕ) (w : ℕ) (more : List ℕ) → places_shown (below.shows x) ≡ before ++ w ∷ more → Among w below.has) where
  abbrev made_of : List (H × B) → List Row → Result (List (H × B) × List Row) Fault
  made_of x rest = Ok (x, rest)

  plain_row : (row : Row) → place_of row.word ≡ head.place → is_label row.word ≡ false
  plain_row row e = elim (split_bool (is_label row.word)) [ inl l ↦ absurd (ordinary (sym e ∙ label_place row.word l)) | inr other ↦ other ]

  many_first : (x : List (H × B)) (w : ℕ) (more : List ℕ) → places_shown (items_shown head below x) ≡ w ∷ more → Among w (head.place ∷ [])
  many_first [] w more e = absurd cc
  many_first (x ∷ xs) w more e = let h : place_of (head.word x.0) ≡ w = cc in inl (sym h ∙ keeps.at x.0)

  many_begins : (x : List (H × B)) (front : List Row) (w : ℕ) (more : List ℕ) → Match same front (items_shown head below x) → line_places front ≡ w ∷ more → Among w (head.place ∷ [])
  many_begins [] front w more match e = let none : line_places front ≡ [] = ap line_places match in absurd cc
  many_begins (x ∷ xs) front w more match e =
      let all : line_places front ≡ place_of match.0.word ∷ line_places match.1 = ap line_places match.2 in
      let h : place_of match.0.word ≡ w = cc in
      inl (sym h ∙ ap place_of match.3.word ∙ keeps.at x.0)

  -- where the items after one come next, the lines below it cannot go on
  below_free : (n : ℕ) (xs : List (H × B)) (b rest : List Row) → Match same b (items_shown head below xs) → IsLineFree (many faults head below n) rest → IsLineFree below (b ++ rest)
  below_free n xs b rest match free w h k =
      elim (Next-cases b rest w h) [
        | inl m ↦ elim (many_begins xs b w m.0 match m.1) [ inl e ↦ apart (subst (λ (v : ℕ). Among v below.has) e k) | inr other ↦ absurd other ]
        | inr r ↦ free w r (inr k)
      ]

  one_stops : (y : List (H × B)) (v : ℕ) (front : List ℕ) (w : ℕ) (more : List ℕ) → ((y1 : B × List (H × B)) → places_shown (below.shows y1.0 ++ items_shown head below y1.1) ≡ front ++ w ∷ more → ⊥) → places_shown (items_shown head below y) ≡ v ∷ (front ++ w ∷ more) → ⊥
  one_stops [] v front w more rest s = cc
  one_stops (y ∷ ys) v front w more rest s = let tail : places_shown (below.shows y.1 ++ items_shown head below ys) ≡ front ++ w ∷ more = cc in rest (y.1, ys) tail

  no_rows : (rows : List Row) → length rows ≤ 0 → rows ≡ []
  no_rows [] le = refl
  no_rows (row ∷ rows) le = absurd (omega arith)

  both_has : (w : ℕ) → Among w (below.has ++ (head.place ∷ below.has)) → Among w (head.place ∷ below.has)
  both_has w a = elim (Among-cases w below.has (head.place ∷ below.has) a) [ inl b ↦ inr b | inr m ↦ m ]

  zero_again : (x : List (H × B)) (front rest : List Row) → length (front ++ rest) ≤ 0 → Match same front (items_shown head below x) → made_of [] (front ++ rest) ≡ made_of x rest
  zero_again [] front rest le match = ap (λ (l : List Row). made_of [] (l ++ rest)) match
  zero_again (x ∷ xs) front rest le match = absurd (omega (arith, ap length match.2, length-append front rest))

  other_stops : (row : Row) → nat_eq (place_of row.word) head.place ≡ false → (y : List (H × B)) (w : ℕ) (more : List ℕ) → places_shown (items_shown head below y) ≡ w ∷ more → place_of row.word ≡ w → ⊥
  other_stops row differs y w more s h =
      elim (many_first y w more s) [
        | inl e ↦ let yes : nat_eq (place_of row.word) head.place ≡ true = eq_refl (place_of row.word) head.place (h ∙ e) in absurd cc
        | inr other ↦ absurd other
      ]

  none_again : (n : ℕ) (rest : List Row) → IsLineFree (many faults head below n) rest → items_reads faults head below (suc n) rest ≡ Ok ([], rest)
  none_again n [] free = refl
  none_again n (row ∷ rest) free =
      elim (split_bool (nat_eq (place_of row.word) head.place)) [
        | inl e ↦ absurd (free (place_of row.word) refl (inl (eq_true (place_of row.word) head.place e)))
        | inr e ↦ rw e refl
      ]

  many_inside : (x : List (H × B)) (before : List ℕ) (w : ℕ) (more : List ℕ) → places_shown (items_shown head below x) ≡ before ++ w ∷ more → Among w (head.place ∷ below.has)
  many_inside [] before w more e = absurd (none_inside before w more e)
  many_inside (x ∷ xs) [] w more e = let h : place_of (head.word x.0) ≡ w = cc in inl (sym h ∙ keeps.at x.0)
  many_inside (x ∷ xs) (v ∷ before) w more e =
      let tail : places_shown (below.shows x.1 ++ items_shown head below xs) ≡ before ++ w ∷ more = cc in
      both_has w (inside_of_two (places_shown (below.shows x.1)) (places_shown (items_shown head below xs)) before w more below.has (head.place ∷ below.has) (λ a m. inside x.1 a w m) (λ a m. many_inside xs a w m) (sym (shown-append (below.shows x.1) (items_shown head below xs)) ∙ tail))

  item_lawful : (n : ℕ) → Lawful given same faults n below → Lawful given same faults n (many faults head below n) → Lawful given same faults n (both_rows below (many faults head below n))
  item_lawful n lb lm = both-lawful given same faults n below (many faults head below n) lb lm (λ w s k. elim s [ inl e ↦ apart (subst (λ (v : ℕ). Among v below.has) e k) | inr other ↦ absurd other ])

  -- a first line that is not of the word
  other_taken : (n : ℕ) (row : Row) (rows : List Row) (x : List (H × B)) (rest : List Row) → nat_eq (place_of row.word) head.place ≡ false → made_of [] (row ∷ rows) ≡ made_of x rest → Taken given same faults (many faults head below n) (row ∷ rows) x rest
  other_taken n row rows x rest differs e =
      let made : List (H × B) × List Row = ([], row ∷ rows) in
      subst (λ (z : List (H × B) × List Row). Taken given same faults (many faults head below n) (row ∷ rows) z.0 z.1) (ok_is made (x, rest) e)
      (record { front = []; parts = refl; shown = refl; clean = tt; fits = λ all free. tt; like = []; alike = refl; stops = λ y w more s h. other_stops row differs y w more s h })

  one_taken : (n : ℕ) → Lawful given same faults n (both_rows below (many faults head below n)) → (row : Row) (rows : List Row) (x : List (H × B)) (rest : List Row) → length rows ≤ n → place_of row.word ≡ head.place → (least (faults row rows) ≡ None) × ((item_first (head.value row) (pair_reads below.reads (items_reads faults head below n) rows)) ≡ Ok (x, rest)) → Taken given same faults (many faults head below (suc n)) (row ∷ rows) x rest
  one_taken n lt row rows x rest le here u =
      let b = bind_ok (pair_reads below.reads (items_reads faults head below n) rows) (λ x. Ok ((head.value row, x.0.0) ∷ x.0.1, x.1)) (x, rest) u.1 in
      let z = b.0 in
      let t = lt.taken rows z.0 z.1 le b.1 in
      let plain = plain_row row here in
      let clean : least (faults row (t.front ++ z.1)) ≡ None = subst (λ (l : List Row). least (faults row l) ≡ None) t.parts u.0 in
      let m = Match-split same t.front (below.shows z.0.0) (items_shown head below z.0.1) t.shown in
      let regroup : t.front ++ z.1 ≡ m.0 ++ (m.1 ++ z.1) = ap (λ (l : List Row). l ++ z.1) m.2 ∙ append_assoc m.0 m.1 z.1 in
      let made : List (H × B) × List Row = ((head.value row, z.0.0) ∷ z.0.1, z.1) in
      subst (λ (z : List (H × B) × List Row). Taken given same faults (many faults head below (suc n)) (row ∷ rows) z.0 z.1) (ok_is made (x, rest) b.2)
      (record {
        front = row ∷ t.front;
        parts = ap (λ (l : List Row). row ∷ l) t.parts;
        shown = (row, t.front, refl, keeps.found row rows here plain u.0, t.shown);
        clean = (clean, t.clean);
        fits = λ all free.
            let inner = t.fits all (λ w h a. free w h (both_has w a)) in
            (keeps.fits all row m.0 (m.1 ++ z.1) z.0.0 here plain (subst (λ (l : List Row). least (faults row l) ≡ None) regroup clean) m.3 inner.0 (below_free n z.0.1 m.1 z.1 m.4 free), inner.0, inner.1);
        like = (head.value row, t.like.0) ∷ t.like.1;
        alike = same_cons (place_of (head.word (head.value row))) (place_of row.word) (places_shown (below.shows t.like.0 ++ items_shown head below t.like.1)) (line_places t.front) (keeps.at (head.value row) ∙ sym here) t.alike;
        stops = λ y w more s h. one_stops y (place_of row.word) (line_places t.front) w more (λ y1 s1. t.stops y1 w more s1 h) s;
      })

  one_refused : (n : ℕ) → Lawful given same faults n (both_rows below (many faults head below n)) → (row : Row) (rows : List Row) (f : Fault) → length rows ≤ n → place_of row.word ≡ head.place → ((least (faults row rows) ≡ Some f.reason) × (f.line ≡ row.number)) ⊎ ((least (faults row rows) ≡ None) × ((item_first (head.value row) (pair_reads below.reads (items_reads faults head below n) rows)) ≡ Err f)) → Refused faults (many faults head below (suc n)) (row ∷ rows) f
  one_refused n lt row rows f le here u =
      elim u [
        | inl now ↦ record {
          front = [];
          row = row;
          after = rows;
          parts = refl;
          clean = tt;
          reason = now.0;
          line = now.1;
          like = (head.value row, lt.some.0) ∷ [];
          more = places_shown (below.shows lt.some.0 ++ []);
          alike = same_cons (place_of (head.word (head.value row))) (place_of row.word) (places_shown (below.shows lt.some.0 ++ [])) (places_shown (below.shows lt.some.0 ++ [])) (keeps.at (head.value row) ∙ sym here) refl;
        }
        | inr later ↦ elim (bind_err (pair_reads below.reads (items_reads faults head below n) rows) (λ x. Ok ((head.value row, x.0.0) ∷ x.0.1, x.1)) f later.1) [
          | inl h ↦
              let r = lt.refused rows f le h in
              record {
                front = row ∷ r.front;
                row = r.row;
                after = r.after;
                parts = ap (λ (l : List Row). row ∷ l) r.parts;
                clean = (subst (λ (l : List Row). least (faults row l) ≡ None) r.parts later.0, r.clean);
                reason = r.reason;
                line = r.line;
                like = (head.value row, r.like.0) ∷ r.like.1;
                more = r.more;
                alike = same_cons (place_of (head.word (head.value row))) (place_of row.word) (places_shown (below.shows r.like.0 ++ items_shown head below r.like.1)) (line_places r.front ++ place_of r.row.word ∷ r.more) (keeps.at (head.value row) ∙ sym here) r.alike;
              }
          | inr c ↦ absurd cc
        ]
      ]

  many_taken : (n : ℕ) → Lawful given same faults n (both_rows below (many faults head below n)) → (rows : List Row) (x : List (H × B)) (rest : List Row) → length rows ≤ suc n → items_reads faults head below (suc n) rows ≡ Ok (x, rest) → Taken given same faults (many faults head below (suc n)) rows x rest
  many_taken n lt [] x rest le e =
      let made : List (H × B) × List Row = ([], []) in
      subst (λ (z : List (H × B) × List Row). Taken given same faults (many faults head below (suc n)) [] z.0 z.1) (ok_is made (x, rest) e)
      (record { front = []; parts = refl; shown = refl; clean = tt; fits = λ all free. tt; like = []; alike = refl; stops = λ y w more s h. absurd h })
  many_taken n lt (row ∷ rows) x rest le e =
      elim (if_is (nat_eq (place_of row.word) head.place) (unless (least (faults row rows)) row.number (item_first (head.value row) (pair_reads below.reads (items_reads faults head below n) rows))) (Ok ([], row ∷ rows)) (Ok (x, rest)) e) [
        | inr c ↦ other_taken (suc n) row rows x rest c.0 c.1
        | inl c ↦ one_taken n lt row rows x rest (omega arith) (eq_true (place_of row.word) head.place c.0) (unless_ok (least (faults row rows)) row.number (item_first (head.value row) (pair_reads below.reads (items_reads faults head below n) rows)) (x, rest) c.1)
      ]

  many_refused : (n : ℕ) → Lawful given same faults n (both_rows below (many faults head below n)) → (rows : List Row) (f : Fault) → length rows ≤ suc n → items_reads faults head below (suc n) rows ≡ Err f → Refused faults (many faults head below (suc n)) rows f
  many_refused n lt [] f le e = absurd cc
  many_refused n lt (row ∷ rows) f le e =
      elim (if_is (nat_eq (place_of row.word) head.place) (unless (least (faults row rows)) row.number (item_first (head.value row) (pair_reads below.reads (items_reads faults head below n) rows))) (Ok ([], row ∷ rows)) (Err f) e) [
        | inr c ↦ absurd cc
        | inl c ↦ one_refused n lt row rows f (omega arith) (eq_true (place_of row.word) head.place c.0) (unless_err (least (faults row rows)) row.number (item_first (head.value row) (pair_reads below.reads (items_reads faults head below n) rows)) f c.1)
      ]

  many_again : (n : ℕ) → Lawful given same faults n (both_rows below (many faults head below n)) → (x : List (H × B)) (front rest : List Row) → length (front ++ rest) ≤ suc n → (many faults head below n).fits x → Match same front (items_shown head below x) → IsLineFree (many faults head below n) rest → items_reads faults head below (suc n) (front ++ rest) ≡ Ok (x, rest)
  many_again n lt [] front rest le fit match free = rw match (none_again n rest free)
  many_again n lt (x ∷ xs) front rest le fit match free =
      let row = match.0 in
      let others = match.1 in
      let regroup : front ++ rest ≡ row ∷ (others ++ rest) = ap (λ (l : List Row). l ++ rest) match.2 in
      let m = Match-split same others (below.shows x.1) (items_shown head below xs) match.4 in
      let apart_ : others ++ rest ≡ m.0 ++ (m.1 ++ rest) = ap (λ (l : List Row). l ++ rest) m.2 ∙ append_assoc m.0 m.1 rest in
      let k = keeps.again row m.0 (m.1 ++ rest) x.0 x.1 fit.0 match.3 m.3 fit.1 (below_free n xs m.1 rest m.4 free) in
      let clean : least (faults row (others ++ rest)) ≡ None = subst (λ (l : List Row). least (faults row l) ≡ None) (sym apart_) k.0 in
      let here : nat_eq (place_of row.word) head.place ≡ true = eq_refl (place_of row.word) head.place (ap place_of match.3.word ∙ keeps.at x.0) in
      let le1 : length (others ++ rest) ≤ n = omega (arith, subst (λ (l : List Row). length l ≤ suc n) regroup le) in
      let tail : pair_reads below.reads (items_reads faults head below n) (others ++ rest) ≡ Ok ((x.1, xs), rest) = lt.again (x.1, xs) others rest le1 (fit.1, fit.2) match.4 (λ w h a. free w h (both_has w a)) in
      rw (regroup, here, clean, tail) (ap (λ (h : H). fine ((h, x.1) ∷ xs, rest)) k.1)

  pub many-lawful : (n : ℕ) → Lawful given same faults n below → Lawful given same faults n (many faults head below n)
  many-lawful zero lb = record {
    taken = λ rows x rest le e.
        let made : List (H × B) × List Row = ([], rows) in
        let none : rows ≡ [] = no_rows rows le in
        subst (λ (z : List (H × B) × List Row). Taken given same faults (many faults head below zero) rows z.0 z.1) (ok_is made (x, rest) e)
        (record { front = []; parts = refl; shown = refl; clean = tt; fits = λ all free. tt; like = []; alike = refl; stops = λ y w more s h. subst (λ (l : List Row). Next l w) none h });
    refused = λ rows f le e. absurd cc;
    again = λ x front rest le fit match free. zero_again x front rest le match;
    some = [];
    first = many_first;
    begins = many_begins;
    inside = many_inside;
  }
  many-lawful (suc n) lb =
      let ln = many-lawful n (weaken given same faults n (suc n) below (omega arith) lb) in
      let lt = item_lawful n (weaken given same faults n (suc n) below (omega arith) lb) ln in
      record { taken = many_taken n lt; refused = many_refused n lt; again = many_again n lt; some = []; first = many_first; begins = many_begins; inside = many_inside }

-- ---- tables

pub map_back : {A B : Type 0} (f : A → B) (g : B → A) → ((x : A) → g (f x) ≡ x) → (xs : List A) → map g (map f xs) ≡ xs
map_back f g h [] = refl
map_back f g h (x ∷ xs) = let a = h x in let b = map_back f g h xs in rw (a, b) refl

-- At most one line of a word, with the lines below it.
use Rattle.std.proofs.Common.{◌≡◌, ℕ, ◌≤◌, ◌⊎◌, inl, inr, true, false, nat_eq, List, [], ◌∷◌, ◌++◌, length, Ok, Err, Some, None, refl, sym, ap, subst, ◌∙◌, arith}
use Rattle.std.specs.declared.option.Option.{Option}
use Rattle.std.specs.declared.result.Result.{Result}
use Rattle.abc_text_lines.specs.Reasons.{least}
use Rattle.abc_text_lines.specs.Words.{place_of}
use Rattle.abc_text_lines.proofs.Bools.{if_is, split_bool}
use Rattle.abc_text_lines.specs.Lines.{Row, line_places, places_shown}
use Rattle.abc_text_lines.specs.Rows.{Fault, Faults, Rows, Head, is_label, option_reads, option_shown, optional, with_line_value, unless}
use Rattle.abc_text_lines.specs.Law.{Among, IsLineFree, LineKeeps, Lawful, Match, Refused, Shows, Taken}
use Rattle.abc_text_lines.proofs.Many.{eq_refl, eq_true, label_place, none_inside, same_cons}
use Rattle.abc_text_lines.proofs.Pieces.{bind_err, bind_ok, ok_is, unless_err, unless_ok}

module _ {H B : Type 0} (given : Type 0) (same : Shows) (faults : Faults) (head : Head H B) (below : Rows B) (keeps : LineKeeps given same faults head below) (ordinary : ¬ (head.place ≡ 23)) (inside : (x : B) (before : List ℕ) (w : ℕ) (more : List ℕ) → places_shown (below.shows x) ≡ before ++ w ∷ more → Among w below.has) where
  abbrev part : Rows (Option (H × B))
  part = optional faults head below

  abbrev made_of : Option (H × B) → List Row → Result (Option (H × B) × List Row) Fault
  made_of x rest = Ok (x, rest)

  plain_row : (row : Row) → place_of row.word ≡ head.place → is_label row.word ≡ false
  plain_row row e = elim (split_bool (is_label row.word)) [ inl l ↦ absurd (ordinary (sym e ∙ label_place row.word l)) | inr other ↦ other ]

  option_first : (x : Option (H × B)) (w : ℕ) (more : List ℕ) → places_shown (option_shown head below x) ≡ w ∷ more → Among w (head.place ∷ [])
  option_first None w more e = absurd cc
  option_first (Some x) w more e = let h : place_of (head.word x.0) ≡ w = cc in inl (sym h ∙ keeps.at x.0)

  option_begins : (x : Option (H × B)) (front : List Row) (w : ℕ) (more : List ℕ) → Match same front (option_shown head below x) → line_places front ≡ w ∷ more → Among w (head.place ∷ [])
  option_begins None front w more match e = let none : line_places front ≡ [] = ap line_places match in absurd cc
  option_begins (Some x) front w more match e =
      let all : line_places front ≡ place_of match.0.word ∷ line_places match.1 = ap line_places match.2 in
      let h : place_of match.0.word ≡ w = cc in
      inl (sym h ∙ ap place_of match.3.word ∙ keeps.at x.0)

  option_inside : (x : Option (H × B)) (before : List ℕ) (w : ℕ) (more : List ℕ) → places_shown (option_shown head below x) ≡ before ++ w ∷ more → Among w (head.place ∷ below.has)
  option_inside None before w more e = absurd (none_inside before w more e)
  option_inside (Some x) [] w more e = let h : place_of (head.word x.0) ≡ w = cc in inl (sym h ∙ keeps.at x.0)
  option_inside (Some x) (v ∷ before) w more e = let tail : places_shown (below.shows x.1) ≡ before ++ w ∷ more = cc in inr (inside x.1 before w more tail)

  other_stops : (row : Row) → nat_eq (place_of row.word) head.place ≡ false → (y : Option (H × B)) (w : ℕ) (more : List ℕ) → places_shown (option_shown head below y) ≡ w ∷ more → place_of row.word ≡ w → ⊥
  other_stops row differs y w more s h =
      elim (option_first y w more s) [
        | inl e ↦ let yes : nat_eq (place_of row.word) head.place ≡ true = eq_refl (place_of row.word) head.place (h ∙ e) in absurd cc
        | inr other ↦ absurd other
      ]

  one_stops : (y : Option (H × B)) (v : ℕ) (front : List ℕ) (w : ℕ) (more : List ℕ) → ((b : B) → places_shown (below.shows b) ≡ front ++ w ∷ more → ⊥) → places_shown (option_shown head below y) ≡ v ∷ (front ++ w ∷ more) → ⊥
  one_stops None v front w more rest s = cc
  one_stops (Some y) v front w more rest s = let tail : places_shown (below.shows y.1) ≡ front ++ w ∷ more = cc in rest y.1 tail

  other_taken : (row : Row) (rows : List Row) (x : Option (H × B)) (rest : List Row) → nat_eq (place_of row.word) head.place ≡ false → made_of None (row ∷ rows) ≡ made_of x rest → Taken given same faults part (row ∷ rows) x rest
  other_taken row rows x rest differs e =
      let made : Option (H × B) × List Row = (None, row ∷ rows) in
      subst (λ (z : Option (H × B) × List Row). Taken given same faults part (row ∷ rows) z.0 z.1) (ok_is made (x, rest) e)
      (record { front = []; parts = refl; shown = refl; clean = tt; fits = λ all free. tt; like = None; alike = refl; stops = λ y w more s h. other_stops row differs y w more s h })

  module _ (n : ℕ) (lb : Lawful given same faults n below) where
    one_taken : (row : Row) (rows : List Row) (x : Option (H × B)) (rest : List Row) → length rows ≤ n → place_of row.word ≡ head.place → (least (faults row rows) ≡ None) × (with_line_value (head.value row) (below.reads rows) ≡ Ok (x, rest)) → Taken given same faults part (row ∷ rows) x rest
    one_taken row rows x rest le here u =
        let b = bind_ok (below.reads rows) (λ y. Ok (Some (head.value row, y.0), y.1)) (x, rest) u.1 in
        let z = b.0 in
        let t = lb.taken rows z.0 z.1 le b.1 in
        let plain = plain_row row here in
        let clean : least (faults row (t.front ++ z.1)) ≡ None = subst (λ (l : List Row). least (faults row l) ≡ None) t.parts u.0 in
        let made : Option (H × B) × List Row = (Some (head.value row, z.0), z.1) in
        subst (λ (y : Option (H × B) × List Row). Taken given same faults part (row ∷ rows) y.0 y.1) (ok_is made (x, rest) b.2)
        (record {
          front = row ∷ t.front;
          parts = ap (λ (l : List Row). row ∷ l) t.parts;
          shown = (row, t.front, refl, keeps.found row rows here plain u.0, t.shown);
          clean = (clean, t.clean);
          fits = λ all free.
              let inner = t.fits all (λ w h a. free w h (inr a)) in
              (keeps.fits all row t.front z.1 z.0 here plain clean t.shown inner (λ w h a. free w h (inr a)), inner);
          like = Some (head.value row, t.like);
          alike = same_cons (place_of (head.word (head.value row))) (place_of row.word) (places_shown (below.shows t.like)) (line_places t.front) (keeps.at (head.value row) ∙ sym here) t.alike;
          stops = λ y w more s h. one_stops y (place_of row.word) (line_places t.front) w more (λ b s1. t.stops b w more s1 h) s;
        })

    one_refused : (row : Row) (rows : List Row) (f : Fault) → length rows ≤ n → place_of row.word ≡ head.place → ((least (faults row rows) ≡ Some f.reason) × (f.line ≡ row.number)) ⊎ ((least (faults row rows) ≡ None) × (with_line_value (head.value row) (below.reads rows) ≡ Err f)) → Refused faults part (row ∷ rows) f
    one_refused row rows f le here u =
        elim u [
          | inl now ↦ record {
            front = [];
            row = row;
            after = rows;
            parts = refl;
            clean = tt;
            reason = now.0;
            line = now.1;
            like = Some (head.value row, lb.some);
            more = places_shown (below.shows lb.some);
            alike = same_cons (place_of (head.word (head.value row))) (place_of row.word) (places_shown (below.shows lb.some)) (places_shown (below.shows lb.some)) (keeps.at (head.value row) ∙ sym here) refl;
          }
          | inr later ↦ elim (bind_err (below.reads rows) (λ y. Ok (Some (head.value row, y.0), y.1)) f later.1) [
            | inl h ↦
                let r = lb.refused rows f le h in
                record {
                  front = row ∷ r.front;
                  row = r.row;
                  after = r.after;
                  parts = ap (λ (l : List Row). row ∷ l) r.parts;
                  clean = (subst (λ (l : List Row). least (faults row l) ≡ None) r.parts later.0, r.clean);
                  reason = r.reason;
                  line = r.line;
                  like = Some (head.value row, r.like);
                  more = r.more;
                  alike = same_cons (place_of (head.word (head.value row))) (place_of row.word) (places_shown (below.shows r.like)) (line_places r.front ++ place_of r.row.word ∷ r.more) (keeps.at (head.value row) ∙ sym here) r.alike;
                }
            | inr c ↦ absurd cc
          ]
        ]

    option_taken : (rows : List Row) (x : Option (H × B)) (rest : List Row) → length rows ≤ n → option_reads faults head below rows ≡ Ok (x, rest) → Taken given same faults part rows x rest
    option_taken [] x rest le e =
        let made : Option (H × B) × List Row = (None, []) in
        subst (λ (z : Option (H × B) × List Row). Taken given same faults part [] z.0 z.1) (ok_is made (x, rest) e)
        (record { front = []; parts = refl; shown = refl; clean = tt; fits = λ all free. tt; like = None; alike = refl; stops = λ y w more s h. absurd h })
    option_taken (row ∷ rows) x rest le e =
        elim (if_is (nat_eq (place_of row.word) head.place) (unless (least (faults row rows)) row.number (with_line_value (head.value row) (below.reads rows))) (Ok (None, row ∷ rows)) (Ok (x, rest)) e) [
          | inr c ↦ other_taken row rows x rest c.0 c.1
          | inl c ↦ one_taken row rows x rest (omega arith) (eq_true (place_of row.word) head.place c.0) (unless_ok (least (faults row rows)) row.number (with_line_value (head.value row) (below.reads rows)) (x, rest) c.1)
        ]

    option_refused : (rows : List Row) (f : Fault) → length rows ≤ n → option_reads faults head below rows ≡ Err f → Refused faults part rows f
    option_refused [] f le e = absurd cc
    option_refused (row ∷ rows) f le e =
        elim (if_is (nat_eq (place_of row.word) head.place) (unless (least (faults row rows)) row.number (with_line_value (head.value row) (below.reads rows))) (Ok (None, row ∷ rows)) (Err f) e) [
          | inr c ↦ absurd cc
          | inl c ↦ one_refused row rows f (omega arith) (eq_true (place_of row.word) head.place c.0) (unless_err (least (faults row rows)) row.number (with_line_value (head.value row) (below.reads rows)) f c.1)
        ]

    none_again : (rest : List Row) → IsLineFree part rest → option_reads faults head below rest ≡ Ok (None, rest)
    none_again [] free = refl
    none_again (row ∷ rest) free =
        elim (split_bool (nat_eq (place_of row.word) head.place)) [
          | inl e ↦ absurd (free (place_of row.word) refl (inl (eq_true (place_of row.word) head.place e)))
          | inr e ↦ rw e refl
        ]

    option_again : (x : Option (H × B)) (front rest : List Row) → length (front ++ rest) ≤ n → part.fits x → Match same front (option_shown head below x) → IsLineFree part rest → option_reads faults head below (front ++ rest) ≡ Ok (x, rest)
    option_again None front rest le fit match free = rw match (none_again rest free)
    option_again (Some x) front rest le fit match free =
        let row = match.0 in
        let others = match.1 in
        let regroup : front ++ rest ≡ row ∷ (others ++ rest) = ap (λ (l : List Row). l ++ rest) match.2 in
        let k = keeps.again row others rest x.0 x.1 fit.0 match.3 match.4 fit.1 (λ w h a. free w h (inr a)) in
        let clean : least (faults row (others ++ rest)) ≡ None = k.0 in
        let here : nat_eq (place_of row.word) head.place ≡ true = eq_refl (place_of row.word) head.place (ap place_of match.3.word ∙ keeps.at x.0) in
        let le1 : length (others ++ rest) ≤ n = omega (arith, subst (λ (l : List Row). length l ≤ n) regroup le) in
        let tail : below.reads (others ++ rest) ≡ Ok (x.1, rest) = lb.again x.1 others rest le1 fit.1 match.4 (λ w h a. free w h (inr a)) in
        rw (regroup, here, clean, tail) (ap (λ (h : H). made_of (Some (h, x.1)) rest) k.1)

    pub optional-lawful : Lawful given same faults n part
    optional-lawful = record { taken = option_taken; refused = option_refused; again = option_again; some = None; first = option_first; begins = option_begins; inside = option_inside }

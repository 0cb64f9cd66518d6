-- Label lines and instructions.
use Rattle.std.proofs.Common.{◌≡◌, ℕ, ◌+◌, inl, inr, Bool, true, false, cond, nat_eq, List, [], ◌∷◌, ◌++◌, Ok, Err, Some, None, refl, sym, ap, subst, ◌∙◌, append_assoc}
use Rattle.std.specs.List.{AllByRecursion}
use Rattle.std.specs.declared.result.Result.{Result}
use Rattle.abc_text_lines.specs.Reasons.{least}
use Rattle.abc_text_lines.specs.Words.{place_of}
use Rattle.abc_text_lines.specs.Lines.{Row, line_places, places_shown}
use Rattle.abc_text_lines.specs.Rows.{AllFit, Fault, Faults, Rows, Head, empty_rows, unless, code_rows, instruction_first, code_reads, code_after, is_label}
use Rattle.abc_text_lines.specs.Law.{Among, Clean, IsLabel, LineKeeps, Lawful, Match, Next, Shows}
use Rattle.abc_text_lines.proofs.Bools.{if_is, split_bool}
use Rattle.abc_text_lines.proofs.Pieces.{bind_err, bind_ok, fine, ok_is, unless_err, unless_ok}
use Rattle.abc_text_lines.proofs.Many.{eq_refl, eq_true, label_place, none_inside, same_cons}

coded_ok : {I : Type 0} (b : Bool) (i : I) (r : Result (List I × List Row) Fault) (x : List I) (rest : List Row) → instruction_first b i r ≡ Ok (x, rest) → (y : List I) × (r ≡ Ok (y, rest)) × (x ≡ cond b y (i ∷ y))
coded_ok true i r x rest e = (x, e, refl)
coded_ok {I} false i r x rest e =
    let a = bind_ok r (λ z. Ok (i ∷ z.0, z.1)) (x, rest) e in
    let made : List I × List Row = (i ∷ a.0.0, a.0.1) in
    let all = ok_is made (x, rest) a.2 in
    (a.0.0, a.1 ∙ ap (λ (l : List Row). fine (a.0.0, l)) (ap (λ (z : List I × List Row). z.1) all), sym (ap (λ (z : List I × List Row). z.0) all))

coded_err : {I : Type 0} (b : Bool) (i : I) (r : Result (List I × List Row) Fault) (f : Fault) → instruction_first b i r ≡ Err f → r ≡ Err f
coded_err true i r f e = e
coded_err false i r f e = elim (bind_err r (λ z. Ok (i ∷ z.0, z.1)) f e) [ inl h ↦ h | inr a ↦ absurd cc ]

module _ {I : Type 0} (given : Type 0) (same : Shows) (faults : Faults) (head : Head I (Unit {0})) (keeps : LineKeeps given same faults head empty_rows) (here : head.place ≡ 23) (plain_words : (i : I) → is_label (head.word i) ≡ false) (labels_clean : (row : Row) (after : List Row) → IsLabel row → least (faults row after) ≡ None) (labels_found : (row : Row) (after : List Row) → is_label row.word ≡ true → least (faults row after) ≡ None → IsLabel row) where
  abbrev part : ℕ → Rows (List I)
  part k = code_rows faults head k

  code_first : (k : ℕ) (x : List I) (w : ℕ) (more : List ℕ) → places_shown (code_after head k x) ≡ w ∷ more → Among w (head.place ∷ [])
  code_first k [] w more e = absurd cc
  code_first k (i ∷ is) w more e = let h : place_of (head.word i) ≡ w = cc in inl (sym h ∙ keeps.at i)

  code_inside : (k : ℕ) (x : List I) (before : List ℕ) (w : ℕ) (more : List ℕ) → places_shown (code_after head k x) ≡ before ++ w ∷ more → Among w (head.place ∷ [])
  code_inside k [] before w more e = absurd (none_inside before w more e)
  code_inside k (i ∷ is) [] w more e = code_first k (i ∷ is) w more e
  code_inside k (i ∷ is) (v ∷ before) w more e = let tail : places_shown (code_after head (k + 1) is) ≡ before ++ w ∷ more = cc in code_inside (k + 1) is before w more tail

  after_begins : (k : ℕ) (x : List I) (front : List Row) (w : ℕ) (more : List ℕ) → Match same front (code_after head k x) → line_places front ≡ w ∷ more → Among w (head.place ∷ [])
  after_begins k [] front w more match e = let none : line_places front ≡ [] = ap line_places match in absurd cc
  after_begins k (i ∷ is) front w more match e =
      let all : line_places front ≡ place_of match.0.word ∷ line_places match.1 = ap line_places match.2 in
      let h : place_of match.0.word ≡ w = cc in
      inl (sym h ∙ ap place_of match.3.word ∙ keeps.at i)

  labels_begin : (k : ℕ) (x : List I) (labels others : List Row) (w : ℕ) (more : List ℕ) → AllByRecursion IsLabel labels → Match same others (code_after head k x) → line_places (labels ++ others) ≡ w ∷ more → Among w (head.place ∷ [])
  labels_begin k x [] others w more all match e = after_begins k x others w more match e
  labels_begin k x (row ∷ labels) others w more all match e =
      let h : place_of row.word ≡ w = cc in inl (sym h ∙ label_place row.word all.0.word ∙ sym here)

  code_begins : (k : ℕ) (x : List I) (front : List Row) (w : ℕ) (more : List ℕ) → Match same front ((part k).shows x) → line_places front ≡ w ∷ more → Among w (head.place ∷ [])
  code_begins k x front w more match e = labels_begin k x match.0 match.1 w more match.3 match.4 (sym (ap line_places match.2) ∙ e)

  -- one more line at the front, a label line or an instruction
  front_shown : (k : ℕ) (row : Row) (rows : List Row) (front : List Row) (y : List I) (b : Bool) → is_label row.word ≡ b → place_of row.word ≡ head.place → least (faults row rows) ≡ None → ((k : ℕ) → Match same front ((part k).shows y)) → Match same (row ∷ front) ((part k).shows (cond b y (head.value row ∷ y)))
  front_shown k row rows front y true l e clean rest =
      let m = rest k in
      (row ∷ m.0, m.1, ap (λ (l : List Row). row ∷ l) m.2, (labels_found row rows l clean, m.3), m.4)
  front_shown k row rows front y false l e clean rest =
      ([], row ∷ front, refl, tt, (row, front, refl, keeps.found row rows e l clean, rest (k + 1)))

  front_fits : given → (row : Row) (rows : List Row) (y : List I) (b : Bool) → is_label row.word ≡ b → place_of row.word ≡ head.place → least (faults row rows) ≡ None → AllFit head y → AllFit head (cond b y (head.value row ∷ y))
  front_fits all row rows y true l e clean rest = rest
  front_fits all row rows y false l e clean rest = (keeps.fits all row [] rows tt e l clean refl tt (λ w h a. a), rest)

  abbrev made_of : List I → List Row → Result (List I × List Row) Fault
  made_of x rest = Ok (x, rest)

  record CodeTaken (rows : List Row) (x : List I) (rest : List Row) : Type 0 where
    front : List Row
    parts : rows ≡ front ++ rest
    shown : (k : ℕ) → Match same front ((part k).shows x)
    clean : Clean faults front rest
    fits : given → AllFit head x
    like : List I
    alike : (k : ℕ) → places_shown (code_after head k like) ≡ line_places front
    all : (w : ℕ) → Among w (line_places front) → w ≡ head.place
    other : Next rest head.place → ⊥

  none_taken : (rows : List Row) (x : List I) (rest : List Row) → (Next rows head.place → ⊥) → made_of [] rows ≡ made_of x rest → CodeTaken rows x rest
  none_taken rows x rest stop e =
      let made : List I × List Row = ([], rows) in
      subst (λ (z : List I × List Row). CodeTaken rows z.0 z.1) (ok_is made (x, rest) e)
      (record { front = []; parts = refl; shown = λ k. ([], [], refl, tt, refl); clean = tt; fits = λ all. tt; like = []; alike = λ k. refl; all = λ w a. absurd a; other = stop })

  code_taken : (rows : List Row) (x : List I) (rest : List Row) → code_reads faults head rows ≡ Ok (x, rest) → CodeTaken rows x rest
  code_taken [] x rest e = none_taken [] x rest (λ h. h) e
  code_taken (row ∷ rows) x rest e =
      elim (if_is (nat_eq (place_of row.word) head.place) (unless (least (faults row rows)) row.number (instruction_first (is_label row.word) (head.value row) (code_reads faults head rows))) (Ok ([], row ∷ rows)) (Ok (x, rest)) e) [
        | inr c ↦ none_taken (row ∷ rows) x rest (λ h. let yes : nat_eq (place_of row.word) head.place ≡ true = eq_refl (place_of row.word) head.place h in absurd cc) c.1
        | inl c ↦
            let is : place_of row.word ≡ head.place = eq_true (place_of row.word) head.place c.0 in
            let u = unless_ok (least (faults row rows)) row.number (instruction_first (is_label row.word) (head.value row) (code_reads faults head rows)) (x, rest) c.1 in
            let a = coded_ok (is_label row.word) (head.value row) (code_reads faults head rows) x rest u.1 in
            let t = code_taken rows a.0 rest a.1 in
            subst (λ (z : List I). CodeTaken (row ∷ rows) z rest) (sym a.2)
            (record {
              front = row ∷ t.front;
              parts = ap (λ (l : List Row). row ∷ l) t.parts;
              shown = λ k. front_shown k row rows t.front a.0 (is_label row.word) refl is u.0 t.shown;
              clean = (subst (λ (l : List Row). least (faults row l) ≡ None) t.parts u.0, t.clean);
              fits = λ all. front_fits all row rows a.0 (is_label row.word) refl is u.0 (t.fits all);
              like = head.value row ∷ t.like;
              alike = λ k. same_cons (place_of (head.word (head.value row))) (place_of row.word) (places_shown (code_after head (k + 1) t.like)) (line_places t.front) (keeps.at (head.value row) ∙ sym is) (t.alike (k + 1));
              all = λ w h. elim h [ inl e ↦ e ∙ is | inr m ↦ t.all w m ];
              other = t.other;
            })
      ]

  record CodeRefused (rows : List Row) (f : Fault) : Type 0 where
    front : List Row
    row : Row
    after : List Row
    parts : rows ≡ front ++ row ∷ after
    clean : Clean faults front (row ∷ after)
    reason : least (faults row after) ≡ Some f.reason
    line : f.line ≡ row.number
    like : List I
    alike : (k : ℕ) → places_shown (code_after head k like) ≡ line_places front ++ place_of row.word ∷ []

  code_refused : (rows : List Row) (f : Fault) → code_reads faults head rows ≡ Err f → CodeRefused rows f
  code_refused [] f e = absurd cc
  code_refused (row ∷ rows) f e =
      elim (if_is (nat_eq (place_of row.word) head.place) (unless (least (faults row rows)) row.number (instruction_first (is_label row.word) (head.value row) (code_reads faults head rows))) (Ok ([], row ∷ rows)) (Err f) e) [
        | inr c ↦ absurd cc
        | inl c ↦
            let is : place_of row.word ≡ head.place = eq_true (place_of row.word) head.place c.0 in
            let here_alike : (k : ℕ) → place_of (head.word (head.value row)) ≡ place_of row.word = λ k. keeps.at (head.value row) ∙ sym is in
            elim (unless_err (least (faults row rows)) row.number (instruction_first (is_label row.word) (head.value row) (code_reads faults head rows)) f c.1) [
              | inl now ↦ record { front = []; row = row; after = rows; parts = refl; clean = tt; reason = now.0; line = now.1; like = head.value row ∷ []; alike = λ k. same_cons _ _ [] [] (here_alike k) refl }
              | inr later ↦
                  let r = code_refused rows f (coded_err (is_label row.word) (head.value row) (code_reads faults head rows) f later.1) in
                  record {
                    front = row ∷ r.front;
                    row = r.row;
                    after = r.after;
                    parts = ap (λ (l : List Row). row ∷ l) r.parts;
                    clean = (subst (λ (l : List Row). least (faults row l) ≡ None) r.parts later.0, r.clean);
                    reason = r.reason;
                    line = r.line;
                    like = head.value row ∷ r.like;
                    alike = λ k. same_cons (place_of (head.word (head.value row))) (place_of row.word) (places_shown (code_after head (k + 1) r.like)) (line_places r.front ++ place_of r.row.word ∷ []) (here_alike k) (r.alike (k + 1));
                  }
            ]
      ]

  skipped : (labels tail : List Row) (z : List I × List Row) → AllByRecursion IsLabel labels → code_reads faults head tail ≡ Ok z → code_reads faults head (labels ++ tail) ≡ Ok z
  skipped [] tail z all e = e
  skipped (row ∷ labels) tail z all e =
      let is : nat_eq (place_of row.word) head.place ≡ true = eq_refl (place_of row.word) head.place (label_place row.word all.0.word ∙ sym here) in
      let clean : least (faults row (labels ++ tail)) ≡ None = labels_clean row (labels ++ tail) all.0 in
      let label : is_label row.word ≡ true = all.0.word in
      rw (is, clean, label) (skipped labels tail z all.1 e)

  none_again : (rest : List Row) → (Next rest head.place → ⊥) → code_reads faults head rest ≡ Ok ([], rest)
  none_again [] free = refl
  none_again (row ∷ rest) free =
      elim (split_bool (nat_eq (place_of row.word) head.place)) [
        | inl e ↦ absurd (free (eq_true (place_of row.word) head.place e))
        | inr e ↦ rw e refl
      ]

  after_again : (k : ℕ) (x : List I) (others rest : List Row) → AllFit head x → Match same others (code_after head k x) → (Next rest head.place → ⊥) → code_reads faults head (others ++ rest) ≡ Ok (x, rest)
  after_again k [] others rest fit match free = rw match (none_again rest free)
  after_again k (i ∷ is) others rest fit match free =
      let row = match.0 in
      let next = match.4 in
      let regroup : others ++ rest ≡ row ∷ (next.0 ++ (next.1 ++ rest)) =
      ap (λ (l : List Row). l ++ rest) match.2 ∙ ap (λ (l : List Row). row ∷ (l ++ rest)) next.2 ∙ ap (λ (l : List Row). row ∷ l) (append_assoc next.0 next.1 rest) in
      let tail : code_reads faults head (next.0 ++ (next.1 ++ rest)) ≡ Ok (is, rest) = skipped next.0 (next.1 ++ rest) (is, rest) next.3 (after_again (k + 1) is next.1 rest fit.1 next.4 free) in
      let a = keeps.again row [] (next.0 ++ (next.1 ++ rest)) i tt fit.0 match.3 refl tt (λ w h m. m) in
      let here_ : nat_eq (place_of row.word) head.place ≡ true = eq_refl (place_of row.word) head.place (ap place_of match.3.word ∙ keeps.at i) in
      let clean : least (faults row (next.0 ++ (next.1 ++ rest))) ≡ None = a.0 in
      let plain : is_label row.word ≡ false = ap is_label match.3.word ∙ plain_words i in
      rw (regroup, here_, clean, plain, tail) (ap (λ (j : I). made_of (j ∷ is) rest) a.1)

  code_stops : (k : ℕ) (y : List I) (front : List ℕ) (w : ℕ) (more : List ℕ) (rest : List Row) → (Next rest head.place → ⊥) → places_shown (code_after head k y) ≡ front ++ w ∷ more → Next rest w → ⊥
  code_stops k y front w more rest other e h =
      elim (code_inside k y front w more e) [ inl s ↦ other (subst (λ (v : ℕ). Next rest v) s h) | inr no_ ↦ absurd no_ ]

  pub code-lawful : (n k : ℕ) → Lawful given same faults n (part k)
  code-lawful n k = record {
    taken = λ rows x rest le e.
        let t = code_taken rows x rest e in
        record { front = t.front; parts = t.parts; shown = t.shown k; clean = t.clean; fits = λ all free. t.fits all; like = t.like; alike = t.alike k; stops = λ y w more s h. code_stops k y (line_places t.front) w more rest t.other s h };
    refused = λ rows f le e.
        let r = code_refused rows f e in
        record { front = r.front; row = r.row; after = r.after; parts = r.parts; clean = r.clean; reason = r.reason; line = r.line; like = r.like; more = []; alike = r.alike k };
    again = λ x front rest le fit match free.
        let regroup : front ++ rest ≡ match.0 ++ (match.1 ++ rest) = ap (λ (l : List Row). l ++ rest) match.2 ∙ append_assoc match.0 match.1 rest in
        let body = skipped match.0 (match.1 ++ rest) (x, rest) match.3 (after_again k x match.1 rest fit match.4 (λ h. free head.place h (inl refl))) in
        rw regroup body;
    some = [];
    first = code_first k;
    begins = code_begins k;
    inside = code_inside k;
  }

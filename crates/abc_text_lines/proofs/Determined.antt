-- Lines are those of exactly one value, or have exactly one fault.
use Rattle.std.proofs.Common.{◌≡◌, ℕ, suc, ◌≤◌, ◌⊎◌, inl, inr, true, false, nat_eq, List, [], ◌∷◌, ◌++◌, length, Ok, Err, Some, None, refl, sym, ap, subst, ◌∙◌, append_assoc, append-nil, arith}
use Rattle.std.specs.declared.result.Result.{Result}
use Rattle.abc_text_lines.specs.declared.reason.AsmReason.{AsmReason}
use Rattle.abc_text_lines.specs.declared.reason.AsmReason.TheVariants as reasons
use Rattle.abc_text_lines.specs.declared.word.Word.TheVariants as words
use Rattle.abc_text_lines.specs.Reasons.{least, lesser, rank_of_reason}
use Rattle.abc_text_lines.specs.Words.{place_of}
use Rattle.abc_text_lines.specs.Lines.{Row, Number, line_places, places_shown}
use Rattle.abc_text_lines.specs.Rows.{Fault, Faults, Rows, fault, unless, ◌>>=◌}
use Rattle.abc_text_lines.specs.Law.{Clean, IsLine, Lawful, Match, Refused, Shows, Taken}
use Rattle.abc_text_lines.specs.Assembly.{CanBeginLines, HasReason, IsAssemblyFault, IsAssemblyOf, IsTextDetermined, IsFaultOf, assembles, end_or_fault, lines_of_value, order_fault}
use Rattle.abc_text_lines.proofs.Leasts.{least_none, least_some, lesser_least, same_rank}
use Rattle.abc_text_lines.proofs.Many.{eq_refl, eq_true}
use Rattle.abc_text_lines.proofs.Bools.{if_is}
use Rattle.abc_text_lines.proofs.Pieces.{cut, ok_is, places-append, unless_err, unless_ok}

pub Clean-at : (faults : Faults) (a : List Row) (row : Row) (b rest : List Row) → Clean faults (a ++ row ∷ b) rest → least (faults row (b ++ rest)) ≡ None
Clean-at faults [] row b rest c = c.0
Clean-at faults (other ∷ a) row b rest c = Clean-at faults a row b rest c.1

regrouped : (a : List ℕ) (x : ℕ) (b more : List ℕ) → (a ++ x ∷ b) ++ more ≡ (a ++ x ∷ []) ++ (b ++ more)
regrouped [] x b more = refl
regrouped (y ∷ a) x b more = ap (λ (l : List ℕ). y ∷ l) (regrouped a x b more)

fault_eta : (f : Fault) → fault f.line f.reason ≡ f
fault_eta f = refl

cons_same : (v w : ℕ) (a b : List ℕ) → v ≡ w → b ≡ a → w ∷ b ≡ v ∷ a
cons_same v w a b e f = cc

none_front : (a : List Row) (other : Row) (b : List Row) → [] ≡ a ++ other ∷ b → ⊥
none_front [] other b e = cc
none_front (x ∷ a) other b e = cc

no_row : (row : Row) (rows : List Row) → [] ≡ row ∷ rows → ⊥
no_row row rows e = cc

other_first : (p : ℕ) (a more : List ℕ) → nat_eq p 0 ≡ false → 0 ∷ a ≡ p ∷ more → ⊥
other_first p a more differs e = let same : p ≡ 0 = cc in let yes : nat_eq p 0 ≡ true = eq_refl p 0 same in cc

tail_is : (p q : ℕ) (a front : List ℕ) (w : ℕ) (more : List ℕ) → q ∷ a ≡ (p ∷ front ++ w ∷ []) ++ more → a ≡ front ++ w ∷ more
tail_is p q a front w more e = let t : a ≡ (front ++ w ∷ []) ++ more = cc in t ∙ append_assoc front (w ∷ []) more

abbrev bad_of : {A : Type 0} → Fault → Result A Fault
bad_of f = Err f

err_is : {A : Type 0} (f g : Fault) → bad_of {A = A} f ≡ bad_of g → f ≡ g
err_is f g e = cc

module _ {A : Type 0} (given : Type 0) (same : Shows) (faults : Faults) (body : Rows A) (version_found : (row : Row) (after : List Row) → place_of row.word ≡ 0 → least (faults row after) ≡ None → IsLine same row words.Abc (Number 16 ∷ Number 46 ∷ [])) (version_clean : (row : Row) (after : List Row) → IsLine same row words.Abc (Number 16 ∷ Number 46 ∷ []) → least (faults row after) ≡ None) where
  -- no reason holds at any line
  abbrev NoReason : List Row → Type 0
  NoReason rows = (a : List Row) (row : Row) (b : List Row) (reason : AsmReason) → rows ≡ a ++ row ∷ b → HasReason faults body a row b reason → ⊥

  -- where the lines up to some point are clean and begin those of a value, no reason holds up to there
  none_before : (front rest : List Row) (v : A) (more : List ℕ) → Clean faults front rest → places_shown (lines_of_value body v) ≡ line_places front ++ more → (a : List Row) (row : Row) (b : List Row) (reason : AsmReason) → front ≡ a ++ row ∷ b → HasReason faults body a row (b ++ rest) reason → ⊥
  none_before front rest v more clean alike a row b reason e h =
      elim h [
        | inl i ↦ least_none (faults row (b ++ rest)) reason (Clean-at faults a row b rest (subst (λ (l : List Row). Clean faults l rest) e clean)) i
        | inr o ↦ o.1 (v, line_places b ++ more, alike ∙ ap (λ (l : List Row). line_places l ++ more) e ∙ ap (λ (l : List ℕ). l ++ more) (places-append a (row ∷ b)) ∙ regrouped (line_places a) (place_of row.word) (line_places b) more)
      ]

  moved_holds : (front : List Row) (r s : Row) (a b : List Row) (reason : AsmReason) → r ∷ a ≡ s ∷ b → HasReason faults body front r a reason → HasReason faults body front s b reason
  moved_holds front r s a b reason e h =
      let e1 : r ≡ s = cc in
      let e2 : a ≡ b = cc in
      subst (λ (x : Row). HasReason faults body front x b reason) e1 (subst (λ (l : List Row). HasReason faults body front r l reason) e2 h)

  fault_is : (f g : Fault) → f.line ≡ g.line → rank_of_reason f.reason ≤ rank_of_reason g.reason → rank_of_reason g.reason ≤ rank_of_reason f.reason → f ≡ g
  fault_is f g e le ge = let r : f.reason ≡ g.reason = same_rank f.reason g.reason (omega arith) in rw (← fault_eta f, ← fault_eta g, e, r) refl

  met : (rows : List Row) (f g : Fault) (p : IsFaultOf faults body rows f) (q : IsFaultOf faults body rows g) (m : List Row) → p.front ≡ q.front ++ m → q.row ∷ q.after ≡ m ++ p.row ∷ p.after → f ≡ g
  met rows f g p q (x ∷ m) e d = absurd (p.before q.front x m g.reason e (moved_holds q.front q.row x q.after (m ++ p.row ∷ p.after) g.reason d q.holds))
  met rows f g p q [] e d =
      let front : p.front ≡ q.front = e ∙ append-nil q.front in
      let row : q.row ≡ p.row = cc in
      let there : HasReason faults body p.front p.row p.after g.reason = subst (λ (l : List Row). HasReason faults body l p.row p.after g.reason) (sym front) (moved_holds q.front q.row p.row q.after p.after g.reason d q.holds) in
      let here : HasReason faults body q.front q.row q.after f.reason = subst (λ (l : List Row). HasReason faults body l q.row q.after f.reason) front (moved_holds p.front p.row q.row p.after q.after f.reason (sym d) p.holds) in
      fault_is f g (p.line ∙ ap (λ (r : Row). r.number) (sym row) ∙ sym q.line) (p.first g.reason there) (q.first f.reason here)

  one_fault_of : (rows : List Row) (f g : Fault) → IsFaultOf faults body rows f → IsFaultOf faults body rows g → f ≡ g
  one_fault_of rows f g p q =
      elim (cut p.front (p.row ∷ p.after) q.front (q.row ∷ q.after) (sym p.parts ∙ q.parts)) [
        | inl c ↦ met rows f g p q c.0 c.1 c.2
        | inr c ↦ absurd (q.before p.front c.0 c.1 f.reason c.2 (moved_holds p.front p.row c.0 p.after (c.1 ++ q.row ∷ q.after) f.reason c.3 p.holds))
      ]

  one_fault : (rows : List Row) (f g : Fault) → IsAssemblyFault faults body rows f → IsAssemblyFault faults body rows g → f ≡ g
  one_fault [] f g p q = p ∙ sym q
  one_fault (row ∷ rows) f g p q = one_fault_of (row ∷ rows) f g p q

  -- no reason holds, and the lines are those of a value
  record Answered (rows : List Row) (v : A) : Type 0 where
    is : IsAssemblyOf same body rows v
    clean : NoReason rows

  -- a line that may not stand where it does
  misplaced_fault : (front : List Row) (row : Row) (after : List Row) (v : A) → Clean faults front (row ∷ after) → places_shown (lines_of_value body v) ≡ line_places front → ¬ CanBeginLines body (line_places front ++ place_of row.word ∷ []) → IsFaultOf faults body (front ++ row ∷ after) (fault row.number (lesser reasons.Order (least (faults row after))))
  misplaced_fault front row after v clean alike no_value =
      let m = lesser_least reasons.Order (faults row after) in
      record {
        front = front;
        row = row;
        after = after;
        parts = refl;
        line = refl;
        before = none_before front (row ∷ after) v [] clean (alike ∙ sym (append-nil (line_places front)));
        holds = elim m.among [ inl e ↦ inr (e, no_value) | inr i ↦ inl i ];
        first = λ s h. m.first s (elim h [ inl i ↦ inr i | inr o ↦ inl o.0 ]);
      }

  refused_fault : (row : Row) (rows : List Row) (f : Fault) → place_of row.word ≡ 0 → least (faults row rows) ≡ None → Refused faults body rows f → IsFaultOf faults body (row ∷ rows) f
  refused_fault row rows f here clean r =
      let m = least_some (faults r.row r.after) f.reason r.reason in
      let alike : places_shown (lines_of_value body r.like) ≡ line_places (row ∷ r.front) ++ place_of r.row.word ∷ r.more = cons_same (place_of row.word) 0 (line_places r.front ++ place_of r.row.word ∷ r.more) (places_shown (body.shows r.like)) here r.alike in
      record {
        front = row ∷ r.front;
        row = r.row;
        after = r.after;
        parts = ap (λ (l : List Row). row ∷ l) r.parts;
        line = r.line;
        before = none_before (row ∷ r.front) (r.row ∷ r.after) r.like (place_of r.row.word ∷ r.more) (subst (λ (l : List Row). least (faults row l) ≡ None) r.parts clean, r.clean) alike;
        holds = inl m.among;
        first = λ s h. elim h [ inl i ↦ m.first s i | inr o ↦ absurd (o.1 (r.like, r.more, alike ∙ sym (append_assoc (line_places (row ∷ r.front)) (place_of r.row.word ∷ []) r.more))) ];
      }

  version_fault : (row : Row) (rows : List Row) (f : Fault) → place_of row.word ≡ 0 → least (faults row rows) ≡ Some f.reason → f.line ≡ row.number → A → IsFaultOf faults body (row ∷ rows) f
  version_fault row rows f here reason line v =
      let m = least_some (faults row rows) f.reason reason in
      record {
        front = [];
        row = row;
        after = rows;
        parts = refl;
        line = line;
        before = λ a other b r e h. absurd (none_front a other b e);
        holds = inl m.among;
        first = λ s h. elim h [ inl i ↦ m.first s i | inr o ↦ absurd (o.1 (v, places_shown (body.shows v), ap (λ (p : ℕ). p ∷ places_shown (body.shows v)) (sym here))) ];
      }

  first_fault : (row : Row) (rows : List Row) → nat_eq (place_of row.word) 0 ≡ false → A → IsFaultOf faults body (row ∷ rows) (fault row.number (lesser reasons.Order (least (faults row rows))))
  first_fault row rows differs v =
      let m = lesser_least reasons.Order (faults row rows) in
      record {
        front = [];
        row = row;
        after = rows;
        parts = refl;
        line = refl;
        before = λ a other b r e h. absurd (none_front a other b e);
        holds = elim m.among [ inl e ↦ inr (e, λ c. other_first (place_of row.word) (places_shown (body.shows c.0)) c.1 differs c.2) | inr i ↦ inl i ];
        first = λ s h. m.first s (elim h [ inl i ↦ inr i | inr o ↦ inl o.0 ]);
      }

  -- what reading the lines after the first gives
  record Outcome (rows : List Row) (res : Result A Fault) : Type 0 where
    ok : (v : A) → res ≡ Ok v → Answered rows v
    err : (f : Fault) → res ≡ Err f → IsFaultOf faults body rows f

  module _ (n : ℕ) (lawful : Lawful given same faults n body) where
    finished : (row : Row) (rows : List Row) → (Clean faults (row ∷ rows) [] → given) → (x : A) (rest : List Row) → place_of row.word ≡ 0 → least (faults row rows) ≡ None → Taken given same faults body rows x rest → Outcome (row ∷ rows) (end_or_fault faults (x, rest))
    finished row rows given_holds x [] here clean t =
        let all : rows ≡ t.front = t.parts ∙ append-nil t.front in
        let shown : Match same (row ∷ rows) (lines_of_value body x) = (row, rows, refl, version_found row rows here clean, subst (λ (l : List Row). Match same l (body.shows x)) (sym all) t.shown) in
        let alike : places_shown (lines_of_value body t.like) ≡ line_places (row ∷ t.front) ++ [] = cons_same (place_of row.word) 0 (line_places t.front) (places_shown (body.shows t.like)) here t.alike ∙ sym (append-nil (line_places (row ∷ t.front))) in
        let cleaned : Clean faults (row ∷ t.front) [] = (subst (λ (l : List Row). least (faults row l) ≡ None) t.parts clean, t.clean) in
        let none : NoReason (row ∷ rows) = λ a other b reason e h.
        none_before (row ∷ t.front) [] t.like [] cleaned alike a other b reason (ap (λ (l : List Row). row ∷ l) (sym all) ∙ e) (subst (λ (l : List Row). HasReason faults body a other l reason) (sym (append-nil b)) h) in
        record {
          ok = λ v e. subst (λ (w : A). Answered (row ∷ rows) w) (ok_is x v e) (record { is = record { shown = shown; fits = t.fits (given_holds (subst (λ (l : List Row). Clean faults (row ∷ l) []) (sym all) cleaned)) (λ w h k. h) }; clean = none });
          err = λ f e. absurd cc;
        }
    finished row rows given_holds x (other ∷ after) here clean t =
        let alike : places_shown (lines_of_value body t.like) ≡ line_places (row ∷ t.front) = cons_same (place_of row.word) 0 (line_places t.front) (places_shown (body.shows t.like)) here t.alike in
        let cleaned : Clean faults (row ∷ t.front) (other ∷ after) = (subst (λ (l : List Row). least (faults row l) ≡ None) t.parts clean, t.clean) in
        let stop : ¬ CanBeginLines body (line_places (row ∷ t.front) ++ place_of other.word ∷ []) = λ c.
        t.stops c.0 (place_of other.word) c.1 (tail_is (place_of row.word) 0 (places_shown (body.shows c.0)) (line_places t.front) (place_of other.word) c.1 c.2) refl in
        record {
          ok = λ v e. absurd cc;
          err = λ f e.
              let g : Fault = fault other.number (lesser reasons.Order (least (faults other after))) in
              let same_fault : g ≡ f = err_is {A = A} g f e in
              subst (λ (l : List Row). IsFaultOf faults body l f) (sym (ap (λ (l : List Row). row ∷ l) t.parts)) (subst (λ (h : Fault). IsFaultOf faults body (row ∷ (t.front ++ other ∷ after)) h) same_fault (misplaced_fault (row ∷ t.front) other after t.like cleaned alike stop));
        }

    after_version : (row : Row) (rows : List Row) → (Clean faults (row ∷ rows) [] → given) → length rows ≤ n → place_of row.word ≡ 0 → least (faults row rows) ≡ None → (r : Result (A × List Row) Fault) → body.reads rows ≡ r → Outcome (row ∷ rows) (r >>= λ x. end_or_fault faults x)
    after_version row rows g le here clean (Ok x) e = finished row rows g x.0 x.1 here clean (lawful.taken rows x.0 x.1 le e)
    after_version row rows g le here clean (Err d) e =
        record { ok = λ v h. absurd cc; err = λ f h. subst (λ (g : Fault). IsFaultOf faults body (row ∷ rows) g) (err_is {A = A} d f h) (refused_fault row rows d here clean (lawful.refused rows d le e)) }

    outcome : (row : Row) (rows : List Row) → (Clean faults (row ∷ rows) [] → given) → length rows ≤ n → Outcome (row ∷ rows) (assembles faults body (row ∷ rows))
    outcome row rows g le = record {
      ok = λ v e. elim (if_is (nat_eq (place_of row.word) 0) (unless (least (faults row rows)) row.number (body.reads rows >>= λ x. end_or_fault faults x)) (order_fault faults row rows) (Ok v) e) [
        | inl c ↦
            let u = unless_ok (least (faults row rows)) row.number (body.reads rows >>= λ x. end_or_fault faults x) v c.1 in
            (after_version row rows g le (eq_true (place_of row.word) 0 c.0) u.0 (body.reads rows) refl).ok v u.1
        | inr c ↦ absurd cc
      ];
      err = λ f e. elim (if_is (nat_eq (place_of row.word) 0) (unless (least (faults row rows)) row.number (body.reads rows >>= λ x. end_or_fault faults x)) (order_fault faults row rows) (Err f) e) [
        | inl c ↦ elim (unless_err (least (faults row rows)) row.number (body.reads rows >>= λ x. end_or_fault faults x) f c.1) [
          | inl now ↦ version_fault row rows f (eq_true (place_of row.word) 0 c.0) now.0 now.1 lawful.some
          | inr later ↦ (after_version row rows g le (eq_true (place_of row.word) 0 c.0) later.0 (body.reads rows) refl).err f later.1
        ]
        | inr c ↦ subst (λ (g : Fault). IsFaultOf faults body (row ∷ rows) g) (err_is {A = A} (fault row.number (lesser reasons.Order (least (faults row rows)))) f c.1) (first_fault row rows c.0 lawful.some)
      ];
    }

    -- ---- what the program answers

    pub assembled : (rows : List Row) (v : A) → (Clean faults rows [] → given) → length rows ≤ suc n → assembles faults body rows ≡ Ok v → IsAssemblyOf same body rows v
    assembled [] v g le e = absurd cc
    assembled (row ∷ rows) v g le e = ((outcome row rows g (omega arith)).ok v e).is

    pub refused : (rows : List Row) (f : Fault) → (Clean faults rows [] → given) → length rows ≤ suc n → assembles faults body rows ≡ Err f → IsAssemblyFault faults body rows f
    refused [] f g le e = sym (err_is {A = A} (fault 1 reasons.Order) f e)
    refused (row ∷ rows) f g le e = (outcome row rows g (omega arith)).err f e

    pub assembles_it : (rows : List Row) (v : A) → length rows ≤ suc n → IsAssemblyOf same body rows v → assembles faults body rows ≡ Ok v
    assembles_it [] v le is = absurd (no_row is.shown.0 is.shown.1 is.shown.2)
    assembles_it (row ∷ rows) v le is =
        let s = is.shown in
        let rowed : row ≡ s.0 = let e = s.2 in cc in
        let others : rows ≡ s.1 = let e = s.2 in cc in
        let line : IsLine same row words.Abc (Number 16 ∷ Number 46 ∷ []) = subst (λ (r : Row). IsLine same r words.Abc (Number 16 ∷ Number 46 ∷ [])) (sym rowed) s.3 in
        let here : nat_eq (place_of row.word) 0 ≡ true = eq_refl (place_of row.word) 0 (ap place_of line.word) in
        let clean : least (faults row rows) ≡ None = version_clean row rows line in
        let shown : Match same rows (body.shows v) = subst (λ (l : List Row). Match same l (body.shows v)) (sym others) s.4 in
        let nil : rows ++ [] ≡ rows = append-nil rows in
        let few : length (rows ++ []) ≤ n = subst (λ (l : List Row). length l ≤ n) (sym nil) (omega arith) in
        let reads : body.reads rows ≡ Ok (v, []) = subst (λ (l : List Row). body.reads l ≡ Ok (v, [])) nil (lawful.again v rows [] few is.fits shown (λ w h k. h)) in
        rw (here, clean, reads) refl

    either : (rows : List Row) → (Clean faults rows [] → given) → length rows ≤ suc n → (r : Result A Fault) → assembles faults body rows ≡ r → ((v : A) × IsAssemblyOf same body rows v) ⊎ ((f : Fault) × IsAssemblyFault faults body rows f)
    either rows g le (Ok v) e = inl (v, assembled rows v g le e)
    either rows g le (Err f) e = inr (f, refused rows f g le e)

    both_not : (rows : List Row) (v : A) (f : Fault) → (Clean faults rows [] → given) → length rows ≤ suc n → IsAssemblyOf same body rows v → IsAssemblyFault faults body rows f → ⊥
    both_not [] v f g le is bad = absurd (no_row is.shown.0 is.shown.1 is.shown.2)
    both_not (row ∷ rows) v f g le is bad =
        let a = (outcome row rows g (omega arith)).ok v (assembles_it (row ∷ rows) v le is) in
        a.clean bad.front bad.row bad.after f.reason bad.parts bad.holds

    pub determined : (rows : List Row) → (Clean faults rows [] → given) → length rows ≤ suc n → IsTextDetermined same faults body rows
    determined rows g le = record {
      some = either rows g le (assembles faults body rows) refl;
      one_value = λ v w p q. ok_is v w (sym (assembles_it rows v le p) ∙ assembles_it rows w le q);
      one_fault = λ f h p q. one_fault rows f h p q;
      never_both = λ v f p q. both_not rows v f g le p q;
    }

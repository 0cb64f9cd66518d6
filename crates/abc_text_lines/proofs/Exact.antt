-- The laws of each way to make a part of a text.
use Rattle.std.proofs.Common.{◌≡◌, ℕ, ◌≤◌, inl, inr, List, [], ◌∷◌, ◌++◌, length, Ok, Err, refl, sym, ap, subst, ◌∙◌, append_assoc, length-append, arith}
use Rattle.abc_text_lines.specs.Words.{place_of}
use Rattle.abc_text_lines.specs.Lines.{Row, line_places, places_shown}
use Rattle.abc_text_lines.specs.Rows.{Fault, Faults, Rows, both_rows, ◌>>=◌}
use Rattle.abc_text_lines.specs.Law.{Among, Clean, IsLineFree, Lawful, Match, Next, Refused, Shows, Taken}
use Rattle.abc_text_lines.proofs.Pieces.{Among-left, Among-right, Clean-append, Match-append, Match-split, Next-cases, Next-made, bind_err, bind_ok, cut, ok_is, places-append, shown-append}

-- ---- one after the other

beyond : (m F1 P1 P2 : List ℕ) (f2 rest mid : List Row) (w : ℕ) (more : List ℕ) → mid ≡ f2 ++ rest → ((v : ℕ) (m : List ℕ) → P1 ≡ F1 ++ v ∷ m → Next mid v → ⊥) → (P2 ≡ line_places f2 ++ w ∷ more → Next rest w → ⊥) → P1 ≡ F1 ++ m → line_places f2 ++ w ∷ more ≡ m ++ P2 → Next rest w → ⊥
beyond [] F1 P1 P2 f2 rest mid w more parts one two e1 e2 h = two (sym e2) h
beyond (v ∷ m) F1 P1 P2 f2 rest mid w more parts one two e1 e2 h = one v m e1 (subst (λ (l : List Row). Next l v) (sym parts) (Next-made f2 rest w v more (m ++ P2) e2 h))

first_of_two : (a b : List ℕ) (w : ℕ) (more s t : List ℕ) → ((m : List ℕ) → a ≡ w ∷ m → Among w s) → ((m : List ℕ) → b ≡ w ∷ m → Among w t) → a ++ b ≡ w ∷ more → Among w (s ++ t)
first_of_two [] b w more s t f g e = Among-right w s t (g more e)
first_of_two (v ∷ a) b w more s t f g e = let same : v ≡ w = cc in Among-left w s t (f a (ap (λ (n : ℕ). n ∷ a) same))

inside_second : (m a b before : List ℕ) (w : ℕ) (more s t : List ℕ) → ((k m : List ℕ) → a ≡ k ++ w ∷ m → Among w s) → ((k m : List ℕ) → b ≡ k ++ w ∷ m → Among w t) → a ≡ before ++ m → w ∷ more ≡ m ++ b → Among w (s ++ t)
inside_second [] a b before w more s t f g e d = Among-right w s t (g [] more (sym d))
inside_second (v ∷ m) a b before w more s t f g e d = let is : v ≡ w = cc in Among-left w s t (f before m (e ∙ ap (λ (n : ℕ). before ++ n ∷ m) is))

pub inside_of_two : (a b before : List ℕ) (w : ℕ) (more s t : List ℕ) → ((k m : List ℕ) → a ≡ k ++ w ∷ m → Among w s) → ((k m : List ℕ) → b ≡ k ++ w ∷ m → Among w t) → a ++ b ≡ before ++ w ∷ more → Among w (s ++ t)
inside_of_two a b before w more s t f g e =
    elim (cut a b before (w ∷ more) e) [
      | inl c ↦ inside_second c.0 a b before w more s t f g c.1 c.2
      | inr c ↦ Among-right w s t (g (c.0 ∷ c.1) more c.3)
    ]

module _ {A B : Type 0} (given : Type 0) (same : Shows) (faults : Faults) (n : ℕ) (p : Rows A) (q : Rows B) (lp : Lawful given same faults n p) (lq : Lawful given same faults n q) (apart : (w : ℕ) → Among w q.starts → Among w p.has → ⊥) where
  -- where the second part's lines and what is free for both come next, the first part cannot go on
  both_free : (b rest : List Row) → ((w : ℕ) (more : List ℕ) → line_places b ≡ w ∷ more → Among w q.starts) → IsLineFree (both_rows p q) rest → IsLineFree p (b ++ rest)
  both_free b rest begins free w h k =
      elim (Next-cases b rest w h) [
        | inl m ↦ apart w (begins w m.0 m.1) k
        | inr r ↦ free w r (Among-left w p.has q.has k)
      ]

  both_taken : (rows : List Row) (x : A × B) (rest : List Row) → length rows ≤ n → (both_rows p q).reads rows ≡ Ok (x, rest) → Taken given same faults (both_rows p q) rows x rest
  both_taken rows x rest le e =
      let a = bind_ok (p.reads rows) (λ x. q.reads x.1 >>= λ y. Ok ((x.0, y.0), y.1)) (x, rest) e in
      let b = bind_ok (q.reads a.0.1) (λ y. Ok ((a.0.0, y.0), y.1)) (x, rest) a.2 in
      let one = lp.taken rows a.0.0 a.0.1 le a.1 in
      let less : length a.0.1 ≤ n = omega (arith, ap length one.parts, length-append one.front a.0.1) in
      let two = lq.taken a.0.1 b.0.0 b.0.1 less b.1 in
      let made : (A × B) × List Row = ((a.0.0, b.0.0), b.0.1) in
      subst (λ (z : (A × B) × List Row). Taken given same faults (both_rows p q) rows z.0 z.1) (ok_is made (x, rest) b.2)
      (record {
        front = one.front ++ two.front;
        parts = one.parts ∙ ap (λ (l : List Row). one.front ++ l) two.parts ∙ sym (append_assoc one.front two.front b.0.1);
        shown = Match-append same one.front two.front (p.shows a.0.0) (q.shows b.0.0) one.shown two.shown;
        clean = Clean-append faults one.front two.front b.0.1 (subst (λ (l : List Row). Clean faults one.front l) two.parts one.clean) two.clean;
        fits = λ all free. (
          one.fits all (subst (λ (l : List Row). IsLineFree p l) (sym two.parts) (both_free two.front b.0.1 (λ w more s. lq.first two.like w more (two.alike ∙ s)) free)),
          two.fits all (λ w h k. free w h (Among-right w p.has q.has k)),
        );
        like = (one.like, two.like);
        alike = shown-append (p.shows one.like) (q.shows two.like) ∙ ap (λ (l : List ℕ). l ++ places_shown (q.shows two.like)) one.alike ∙ ap (λ (l : List ℕ). line_places one.front ++ l) two.alike ∙ sym (places-append one.front two.front);
        stops = λ y w more s h.
            let P1 = places_shown (p.shows y.0) in
            let P2 = places_shown (q.shows y.1) in
            let F1 = line_places one.front in
            let F2 = line_places two.front in
            let t : P1 ++ P2 ≡ F1 ++ (F2 ++ w ∷ more) = sym (shown-append (p.shows y.0) (q.shows y.1)) ∙ s ∙ ap (λ (l : List ℕ). l ++ w ∷ more) (places-append one.front two.front) ∙ append_assoc F1 F2 (w ∷ more) in
            elim (cut P1 P2 F1 (F2 ++ w ∷ more) t) [
              | inl c ↦ beyond c.0 F1 P1 P2 two.front b.0.1 a.0.1 w more two.parts (λ v m. one.stops y.0 v m) (λ s k. two.stops y.1 w more s k) c.1 c.2 h
              | inr c ↦ apart c.0 (lq.first y.1 c.0 (c.1 ++ (F2 ++ w ∷ more)) c.3) (lp.inside one.like P1 c.0 c.1 (one.alike ∙ c.2))
            ];
      })

  both_refused : (rows : List Row) (f : Fault) → length rows ≤ n → (both_rows p q).reads rows ≡ Err f → Refused faults (both_rows p q) rows f
  both_refused rows f le e =
      elim (bind_err (p.reads rows) (λ x. q.reads x.1 >>= λ y. Ok ((x.0, y.0), y.1)) f e) [
        | inl h ↦
            let r = lp.refused rows f le h in
            record {
              front = r.front;
              row = r.row;
              after = r.after;
              parts = r.parts;
              clean = r.clean;
              reason = r.reason;
              line = r.line;
              like = (r.like, lq.some);
              more = r.more ++ places_shown (q.shows lq.some);
              alike = shown-append (p.shows r.like) (q.shows lq.some) ∙ ap (λ (l : List ℕ). l ++ places_shown (q.shows lq.some)) r.alike ∙ append_assoc (line_places r.front) (place_of r.row.word ∷ r.more) (places_shown (q.shows lq.some));
            }
        | inr a ↦ elim (bind_err (q.reads a.0.1) (λ y. Ok ((a.0.0, y.0), y.1)) f a.2) [
          | inl h ↦
              let one = lp.taken rows a.0.0 a.0.1 le a.1 in
              let less : length a.0.1 ≤ n = omega (arith, ap length one.parts, length-append one.front a.0.1) in
              let r = lq.refused a.0.1 f less h in
              record {
                front = one.front ++ r.front;
                row = r.row;
                after = r.after;
                parts = one.parts ∙ ap (λ (l : List Row). one.front ++ l) r.parts ∙ sym (append_assoc one.front r.front (r.row ∷ r.after));
                clean = Clean-append faults one.front r.front (r.row ∷ r.after) (subst (λ (l : List Row). Clean faults one.front l) r.parts one.clean) r.clean;
                reason = r.reason;
                line = r.line;
                like = (one.like, r.like);
                more = r.more;
                alike = shown-append (p.shows one.like) (q.shows r.like) ∙ ap (λ (l : List ℕ). l ++ places_shown (q.shows r.like)) one.alike ∙ ap (λ (l : List ℕ). line_places one.front ++ l) r.alike ∙ sym (append_assoc (line_places one.front) (line_places r.front) (place_of r.row.word ∷ r.more)) ∙ ap (λ (l : List ℕ). l ++ place_of r.row.word ∷ r.more) (sym (places-append one.front r.front));
              }
          | inr c ↦ absurd cc
        ]
      ]

  both_again : (x : A × B) (front rest : List Row) → length (front ++ rest) ≤ n → (both_rows p q).fits x → Match same front ((both_rows p q).shows x) → IsLineFree (both_rows p q) rest → (both_rows p q).reads (front ++ rest) ≡ Ok (x, rest)
  both_again x front rest le fit match free =
      let m = Match-split same front (p.shows x.0) (q.shows x.1) match in
      let regroup : front ++ rest ≡ m.0 ++ (m.1 ++ rest) = ap (λ (l : List Row). l ++ rest) m.2 ∙ append_assoc m.0 m.1 rest in
      let le1 : length (m.0 ++ (m.1 ++ rest)) ≤ n = subst (λ (l : List Row). length l ≤ n) regroup le in
      let le2 : length (m.1 ++ rest) ≤ n = omega (arith, length-append m.0 (m.1 ++ rest)) in
      let one : p.reads (m.0 ++ (m.1 ++ rest)) ≡ Ok (x.0, m.1 ++ rest) = lp.again x.0 m.0 (m.1 ++ rest) le1 fit.0 m.3 (both_free m.1 rest (λ w more s. lq.begins x.1 m.1 w more m.4 s) free) in
      let two : q.reads (m.1 ++ rest) ≡ Ok (x.1, rest) = lq.again x.1 m.1 rest le2 fit.1 m.4 (λ w h k. free w h (Among-right w p.has q.has k)) in
      rw (regroup, one, two) refl

  both_first : (x : A × B) (w : ℕ) (more : List ℕ) → places_shown ((both_rows p q).shows x) ≡ w ∷ more → Among w (both_rows p q).starts
  both_first x w more e =
      first_of_two (places_shown (p.shows x.0)) (places_shown (q.shows x.1)) w more p.starts q.starts (λ m. lp.first x.0 w m) (λ m. lq.first x.1 w m) (sym (shown-append (p.shows x.0) (q.shows x.1)) ∙ e)

  both_begins : (x : A × B) (front : List Row) (w : ℕ) (more : List ℕ) → Match same front ((both_rows p q).shows x) → line_places front ≡ w ∷ more → Among w (both_rows p q).starts
  both_begins x front w more match e =
      let m = Match-split same front (p.shows x.0) (q.shows x.1) match in
      first_of_two (line_places m.0) (line_places m.1) w more p.starts q.starts (λ s. lp.begins x.0 m.0 w s m.3) (λ s. lq.begins x.1 m.1 w s m.4) (sym (places-append m.0 m.1) ∙ ap line_places (sym m.2) ∙ e)

  both_inside : (x : A × B) (before : List ℕ) (w : ℕ) (more : List ℕ) → places_shown ((both_rows p q).shows x) ≡ before ++ w ∷ more → Among w (both_rows p q).has
  both_inside x before w more e =
      inside_of_two (places_shown (p.shows x.0)) (places_shown (q.shows x.1)) before w more p.has q.has (λ a m. lp.inside x.0 a w m) (λ a m. lq.inside x.1 a w m) (sym (shown-append (p.shows x.0) (q.shows x.1)) ∙ e)

  pub both-lawful : Lawful given same faults n (both_rows p q)
  both-lawful = record { taken = both_taken; refused = both_refused; again = both_again; some = (lp.some, lq.some); first = both_first; begins = both_begins; inside = both_inside }

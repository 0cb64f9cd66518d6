-- The laws of parts within an end.
use Rattle.std.proofs.Common.{◌≡◌, ℕ, zero, suc, ◌+◌, ◌-◌, ◌≤◌, min, inl, inr, List, [], ◌∷◌, length, Ok, Err, refl, sym, ap, subst, ◌∙◌, length-append, arith}
use Rattle.std.specs.declared.result.Result.{Result}
use Rattle.std.proofs.lemmas.Bool.{cases_lt}
use Rattle.abc_file_types.specs.declared.reason.Reason.TheVariants as reasons
use Rattle.abc_file_types.proofs.Exact.{bind_ok, bind_err, fine, ok_is, done-exact, image-exact, then-exact}
use Rattle.abc_file_types.specs.Ends.{IsNonEmpty, Pieces, blame, blame_first, blamed_read, within_next, fill, inside, with_byte_count, with_outer_end}
use Rattle.abc_file_types.specs.Law.{Exact}
use Rattle.abc_file_types.specs.Part.{At, Begins, Front, Part, Refusal, limit, refusal}

-- ---- inside

abbrev with_end : ℕ → At → At
with_end e a = record { place = a.place; bytes = a.bytes; end = e }

uncapped_ok : {A : Type 0} (end : ℕ) (r : Result (A × At) Refusal) (x : A) (after : At) → with_outer_end end r ≡ Ok (x, after) → (a : At) × (r ≡ Ok (x, a)) × (with_end end a ≡ after)
uncapped_ok {A = A} end (Ok z) x after e =
    let left : A × At = (z.0, with_end end z.1) in
    let right : A × At = (x, after) in
    let p = ok_is left right e in (z.1, ap (λ (w : A). Ok (w, z.1)) (ap (λ (w : A × At). w.0) p), ap (λ (w : A × At). w.1) p)
uncapped_ok end (Err d) x after e = absurd cc

uncapped_err : {A : Type 0} (end : ℕ) (r : Result (A × At) Refusal) (d : Refusal) → with_outer_end end r ≡ Err d → r ≡ Err d
uncapped_err end (Ok z) d e = absurd cc
uncapped_err {A = A} end (Err c) d e = let same : c ≡ d = cc in ap (λ (z : Refusal). Err z) same

Front-uncap : (n : ℕ) (from : At) (front : List ℕ) (a : At) → Front (within_next n from) front a → Front from front (with_end from.end a)
Front-uncap n from front a f = record { parts = f.parts; place = f.place; room = f.room; same = refl; within = λ h. omega (arith, f.within h) }

front_short : (n : ℕ) (from : At) (front : List ℕ) (a : At) → Front (within_next n from) front a → length front ≤ n
front_short n from front a f =
    elim (cases_lt 0 (length front)) [
      | inl some ↦ omega (arith, f.within some, f.place)
      | inr none ↦ omega arith
    ]

Front-cap : (n : ℕ) (from : At) (front : List ℕ) (after : At) → length front ≤ n → Front from front after → Front (within_next n from) front (with_end (min from.end (from.place + n)) after)
Front-cap n from front after le f = record { parts = f.parts; place = f.place; room = f.room; same = refl; within = λ h. omega (arith, f.within h, f.place) }

module _ {A : Type 0} (n : ℕ) (p : Part A) (ep : Exact p) where
  inside_found : (from : At) (x : A) (after : At) → from.place ≤ limit → (inside n p).reads from ≡ Ok (x, after) → Begins (inside n p) from x after
  inside_found from x after k e =
      let a = uncapped_ok from.end (p.reads (within_next n from)) x after e in
      let one = ep.found (within_next n from) x a.0 k a.1 in
      subst (λ (z : At). Begins (inside n p) from x z) a.2 (record { front = one.front; spelled = (one.spelled, front_short n from one.front a.0 one.is); is = Front-uncap n from one.front a.0 one.is })

  inside_again : (from : At) (x : A) (after : At) → Begins (inside n p) from x after → (inside n p).reads from ≡ Ok (x, after)
  inside_again from x after b =
      let one : p.reads (within_next n from) ≡ Ok (x, with_end (min from.end (from.place + n)) after) = ep.again (within_next n from) x (with_end (min from.end (from.place + n)) after) (record { front = b.front; spelled = b.spelled.0; is = Front-cap n from b.front after b.spelled.1 b.is }) in
      rw one (ap (λ (e : ℕ). fine (x, with_end e after)) (sym b.is.same))

  pub inside-exact : Exact (inside n p)
  inside-exact = record {
    found = inside_found;
    again = inside_again;
    refused = λ from r k e. ep.refused (within_next n from) r k (uncapped_err from.end (p.reads (within_next n from)) r e);
    refuses = λ from r b. let e = ep.refuses (within_next n from) r b in rw e refl;
  }

-- ---- blamed

blamed_ok : {A : Type 0} (place : ℕ) (r : Result (A × At) Refusal) (x : A × At) → blamed_read place r ≡ Ok x → r ≡ Ok x
blamed_ok place (Ok z) x e = e
blamed_ok place (Err d) x e = absurd cc

blamed_err : {A : Type 0} (place : ℕ) (r : Result (A × At) Refusal) (d : Refusal) → blamed_read place r ≡ Err d → (c : Refusal) × (r ≡ Err c) × (d ≡ blame place c)
blamed_err place (Ok z) d e = absurd cc
blamed_err place (Err c) d e = (c, refl, cc)

pub blamed-exact : {A : Type 0} (p : Part A) → Exact p → Exact (blame_first p)
blamed-exact p ep = record {
  found = λ from x after k e. let b = ep.found from x after k (blamed_ok from.place (p.reads from) (x, after) e) in record { front = b.front; spelled = b.spelled; is = b.is };
  again = λ from x after b. let e = ep.again from x after (record { front = b.front; spelled = b.spelled; is = b.is }) in rw e refl;
  refused = λ from r k e. let c = blamed_err from.place (p.reads from) r e in (c.0, ep.refused from c.0 k c.1, c.2);
  refuses = λ from r b. let e = ep.refuses from b.0 b.1 in rw (e, b.2) refl;
}

-- ---- measured

module _ {A : Type 0} (p : Part A) (ep : Exact p) where
  measured_found : (from : At) (y : A × ℕ) (after : At) → from.place ≤ limit → (with_byte_count p).reads from ≡ Ok (y, after) → Begins (with_byte_count p) from y after
  measured_found from y after k e =
      let a = bind_ok (p.reads from) (λ x. Ok ((x.0, x.1.place - from.place), x.1)) (y, after) e in
      let one = ep.found from a.0.0 a.0.1 k a.1 in
      let made : (A × ℕ) × At = ((a.0.0, a.0.1.place - from.place), a.0.1) in
      subst (λ (z : (A × ℕ) × At). Begins (with_byte_count p) from z.0 z.1) (ok_is made (y, after) a.2) (record { front = one.front; spelled = (one.spelled, omega (arith, one.is.place)); is = one.is })

  measured_again : (from : At) (y : A × ℕ) (after : At) → Begins (with_byte_count p) from y after → (with_byte_count p).reads from ≡ Ok (y, after)
  measured_again from y after b =
      let one : p.reads from ≡ Ok (y.0, after) = ep.again from y.0 after (record { front = b.front; spelled = b.spelled.0; is = b.is }) in
      let len : after.place - from.place ≡ y.1 = omega (arith, b.is.place, b.spelled.1) in
      rw one (ap (λ (m : ℕ). fine ((y.0, m), after)) len)

  measured_refused : (from : At) (r : Refusal) → from.place ≤ limit → (with_byte_count p).reads from ≡ Err r → (with_byte_count p).bad from r
  measured_refused from r k e =
      elim (bind_err (p.reads from) (λ x. Ok ((x.0, x.1.place - from.place), x.1)) r e) [ inl h ↦ ep.refused from r k h | inr a ↦ absurd cc ]

  pub measured-exact : Exact (with_byte_count p)
  measured-exact = record { found = measured_found; again = measured_again; refused = measured_refused; refuses = λ from r b. let e = ep.refuses from r b in rw e refl }

-- ---- fill

pub fill-exact : {A : Type 0} (k n : ℕ) (p : Part A) → Exact p → Exact (fill k n p)
fill-exact k zero p ep = done-exact []
fill-exact zero (suc n) p ep = done-exact []
fill-exact (suc k) (suc n) p ep =
    image-exact _ _ (then-exact (with_byte_count (inside (suc n) p)) (λ x. fill k (suc n - x.1) p) (measured-exact (inside (suc n) p) (inside-exact (suc n) p ep)) (λ x. fill-exact k (suc n - x.1) p ep))

pub fill_pieces : {A : Type 0} (k n : ℕ) (p : Part A) → IsNonEmpty p → n ≤ k → (xs : List (A × ℕ)) (b : List ℕ) → (fill k n p).spells xs b → Pieces p xs b × (length b ≡ n)
fill_pieces k zero p full le xs b s = rw s.0 (s.1, ap length s.1)
fill_pieces zero (suc n) p full le xs b s = absurd (omega arith)
fill_pieces (suc k) (suc n) p full le xs b s =
    let one : 1 ≤ length s.1.0 = full.some s.0.0.0 s.1.0 s.1.3.0.0 in
    let left : suc n - s.0.0.1 ≤ k = omega (arith, s.1.3.1, one) in
    let rest = fill_pieces k (suc n - s.0.0.1) p full left s.0.1 s.1.1 s.1.4 in
    rw s.2 ((s.1.0, s.1.1, s.1.2, s.1.3.0.0, s.1.3.1, rest.0), omega (arith, rest.1, s.1.3.1, s.1.3.0.1, ap length s.1.2, length-append s.1.0 s.1.1))

pub pieces_fill : {A : Type 0} (k n : ℕ) (p : Part A) → IsNonEmpty p → n ≤ k → (xs : List (A × ℕ)) (b : List ℕ) → Pieces p xs b → length b ≡ n → (fill k n p).spells xs b
pieces_fill k zero p full le [] b s len = (refl, s)
pieces_fill k zero p full le (x ∷ xs) b s len = absurd (omega (arith, full.some x.0 s.0 s.3, ap length s.2, length-append s.0 s.1))
pieces_fill zero (suc n) p full le xs b s len = absurd (omega arith)
pieces_fill (suc k) (suc n) p full le [] b s len = absurd (omega (arith, ap length s))
pieces_fill (suc k) (suc n) p full le (x ∷ xs) b s len =
    let one : 1 ≤ length s.0 = full.some x.0 s.0 s.3 in
    let all : length b ≡ length s.0 + length s.1 = ap length s.2 ∙ length-append s.0 s.1 in
    let left : suc n - x.1 ≤ k = omega (arith, s.4) in
    let rest = pieces_fill k (suc n - x.1) p full left xs s.1 s.5 (omega (arith, s.4)) in
    ((x, xs), (s.0, s.1, s.2, ((s.3, omega arith), s.4), rest), refl)

-- ---- what a reader does with the end

pub blamed_ends : {A : Type 0} (place q : ℕ) (read : Result (A × At) Refusal) → read ≡ Err (refusal q reasons.CodeEnds) → blamed_read place read ≡ Err (refusal place reasons.CodeEnds)
blamed_ends place q read e = rw e refl

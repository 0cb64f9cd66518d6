-- The first piece that is bad.
use Rattle.std.proofs.Common.{◌≡◌, ℕ, zero, suc, ◌+◌, ◌-◌, ◌<◌, ◌≤◌, inl, inr, List, [], ◌∷◌, ◌++◌, length, refl, ap, subst, ◌∙◌, length-append, arith}
use Rattle.abc_file_types.proofs.Exact.{Front-then, Front-first, Front-second}
use Rattle.abc_file_types.specs.Ends.{BadPiece, IsNonEmpty, Pieces, fill, inside, with_byte_count}
use Rattle.abc_file_types.specs.Part.{At, Begins, Front, Part, Refusal, further, limit}

Front-none : (from : At) → from.place ≤ limit → Front from [] from
Front-none from le = record { parts = refl; place = omega arith; room = le; same = refl; within = λ h. absurd (omega arith) }

pub fill_bad : {A : Type 0} (k n : ℕ) (p : Part A) (from : At) (r : Refusal) → from.place ≤ limit → IsNonEmpty p → n ≤ k → (fill k n p).bad from r → BadPiece n p from r
fill_bad k zero p from r near full le b = absurd b
fill_bad zero (suc n) p from r near full le b = absurd b
fill_bad (suc k) (suc n) p from r near full le (inl h) =
    let e : suc n ≡ suc n - 0 = omega arith in
    record { before = []; front = []; after = from; filled = refl; is = Front-none from near; room = omega arith; bad = subst (λ (m : ℕ). (inside m p).bad from r) e h }
fill_bad (suc k) (suc n) p from r near full le (inr a) =
    let x = a.0 in
    let one = a.2 in
    let some : 1 ≤ length one.front = full.some x.0 one.front one.spelled.0.0 in
    let left : suc n - x.1 ≤ k = omega (arith, one.spelled.1, some) in
    let rest = fill_bad k (suc n - x.1) p a.1 r one.is.room full left a.3 in
    let len : length (one.front ++ rest.front) ≡ length one.front + length rest.front = length-append one.front rest.front in
    let e : suc n - x.1 - length rest.front ≡ suc n - length (one.front ++ rest.front) = omega (arith, one.spelled.1, len) in
    record {
      before = x ∷ rest.before;
      front = one.front ++ rest.front;
      after = rest.after;
      filled = (one.front, rest.front, refl, one.spelled.0.0, one.spelled.1, rest.filled);
      is = Front-then from one.front a.1 rest.front rest.after one.is rest.is;
      room = omega (arith, len, rest.room, one.spelled.1);
      bad = subst (λ (m : ℕ). (inside m p).bad rest.after r) e rest.bad;
    }

bad_fill_at : {A : Type 0} (k n : ℕ) (p : Part A) (from : At) (r : Refusal) (before : List (A × ℕ)) (front : List ℕ) (after : At) → IsNonEmpty p → n ≤ k → Pieces p before front → Front from front after → length front < n → (inside (n - length front) p).bad after r → (fill k n p).bad from r
bad_fill_at k zero p from r before front after full le s f lt b = absurd (omega arith)
bad_fill_at zero (suc n) p from r before front after full le s f lt b = absurd (omega arith)
bad_fill_at (suc k) (suc n) p from r [] front after full le s f lt b =
    let none : Front from [] after = subst (λ (l : List ℕ). Front from l after) s f in
    let place : after.place ≡ from.place = omega (arith, none.place) in
    let here : further after after.place after.bytes ≡ further from from.place from.bytes = rw (place, none.parts, none.same) refl in
    let e : suc n - length front ≡ suc n = omega (arith, ap length s) in
    inl (subst (λ (z : At). (inside (suc n) p).bad z r) here (subst (λ (m : ℕ). (inside m p).bad after r) e b))
bad_fill_at (suc k) (suc n) p from r (x ∷ xs) front after full le s f lt b =
    let whole : Front from (s.0 ++ s.1) after = subst (λ (l : List ℕ). Front from l after) s.2 f in
    let mid : At = further from (from.place + length s.0) (s.1 ++ after.bytes) in
    let len : length front ≡ length s.0 + length s.1 = ap length s.2 ∙ length-append s.0 s.1 in
    let some : 1 ≤ length s.0 = full.some x.0 s.0 s.3 in
    let one : Begins (with_byte_count (inside (suc n) p)) from x mid = record { front = s.0; spelled = ((s.3, omega arith), s.4); is = Front-first from s.0 s.1 after whole } in
    let e : suc n - length front ≡ suc n - x.1 - length s.1 = omega (arith, s.4, len) in
    inr (x, mid, one, bad_fill_at k (suc n - x.1) p mid r xs s.1 after full (omega (arith, s.4)) s.5 (Front-second from s.0 s.1 after whole) (omega (arith, s.4)) (subst (λ (m : ℕ). (inside m p).bad after r) e b))

pub bad_fill : {A : Type 0} (k n : ℕ) (p : Part A) (from : At) (r : Refusal) → IsNonEmpty p → n ≤ k → BadPiece n p from r → (fill k n p).bad from r
bad_fill k n p from r full le b = bad_fill_at k n p from r b.before b.front b.after full le b.filled b.is b.room b.bad

-- The laws of each way to make a part.
use Rattle.std.proofs.Common.{◌≡◌, ℕ, zero, suc, ◌+◌, ◌<◌, ◌≤◌, ◌⊎◌, inl, inr, Bool, true, false, cond, List, [], ◌∷◌, ◌++◌, length, Ok, Err, refl, sym, ap, subst, ◌∙◌, append_assoc, length-append, arith}
use Rattle.std.specs.declared.result.Result.{Result}
use Rattle.std.proofs.lemmas.Bool.{cases_lt}
use Rattle.abc_file_types.specs.declared.reason.Reason.{Reason}
use Rattle.abc_file_types.specs.Law.{Exact}
use Rattle.abc_file_types.specs.Lists.{chain, times}
use Rattle.abc_file_types.specs.Part.{At, Begins, Front, Part, Refusal, both, with_test, known_value, further, image, limit, at_offset, map_or_refuse, refusal, then_by, ◌>>=◌}

pub bind_ok : {A B : Type 0} (r : Result A Refusal) (f : A → Result B Refusal) (y : B) → (r >>= f) ≡ Ok y → (x : A) × (r ≡ Ok x) × (f x ≡ Ok y)
bind_ok (Ok x) f y e = (x, refl, e)
bind_ok (Err d) f y e = absurd cc

pub bind_err : {A B : Type 0} (r : Result A Refusal) (f : A → Result B Refusal) (d : Refusal) → (r >>= f) ≡ Err d → (r ≡ Err d) ⊎ ((x : A) × (r ≡ Ok x) × (f x ≡ Err d))
bind_err (Ok x) f d e = inr (x, refl, e)
bind_err {B = B} (Err c) f d e = let same : c ≡ d = cc in inl (ap (λ (z : Refusal). Err z) same)

abbrev pub fine : {A : Type 0} → A → Result A Refusal
fine x = Ok x

pub ok_is : {A : Type 0} (x y : A) → fine x ≡ fine y → x ≡ y
ok_is x y e = cc

pub Front-then : (a : At) (x : List ℕ) (b : At) (y : List ℕ) (c : At) → Front a x b → Front b y c → Front a (x ++ y) c
Front-then a x b y c f g = record {
  parts = f.parts ∙ ap (λ (t : List ℕ). x ++ t) g.parts ∙ sym (append_assoc x y c.bytes);
  place = omega (arith, f.place, g.place, length-append x y);
  room = g.room;
  same = g.same ∙ f.same;
  within = λ h.
      let both : length (x ++ y) ≡ length x + length y = length-append x y in
      elim (cases_lt 0 (length y)) [
        | inl some ↦ omega (arith, g.within some, f.same)
        | inr none ↦ let first : 0 < length x = omega arith in omega (arith, f.within first, f.place, g.place)
      ];
}

pub Front-first : (a : At) (x y : List ℕ) (c : At) → Front a (x ++ y) c → Front a x (further a (a.place + length x) (y ++ c.bytes))
Front-first a x y c f = record { parts = f.parts ∙ append_assoc x y c.bytes; place = refl; room = omega (arith, f.place, f.room, length-append x y); same = refl; within = λ h. let both : length (x ++ y) ≡ length x + length y = length-append x y in let some : 0 < length (x ++ y) = omega arith in omega (arith, f.place, f.within some) }

pub Front-second : (a : At) (x y : List ℕ) (c : At) → Front a (x ++ y) c → Front (further a (a.place + length x) (y ++ c.bytes)) y c
Front-second a x y c f = record { parts = refl; place = omega (arith, f.place, length-append x y); room = f.room; same = f.same; within = λ h. let both : length (x ++ y) ≡ length x + length y = length-append x y in let some : 0 < length (x ++ y) = omega arith in f.within some }

-- ---- done

module _ {A : Type 0} (x : A) where
  done_found : (from : At) (y : A) (after : At) → from.place ≤ limit → (known_value x).reads from ≡ Ok (y, after) → Begins (known_value x) from y after
  done_found from y after k e =
      let made : A × At = (x, from) in
      subst (λ (z : A × At). Begins (known_value x) from z.0 z.1) (ok_is made (y, after) e) (record { front = []; spelled = (refl, refl); is = record { parts = refl; place = omega arith; room = k; same = refl; within = λ h. absurd (omega arith) } })

  done_again : (from : At) (y : A) (after : At) → Begins (known_value x) from y after → (known_value x).reads from ≡ Ok (y, after)
  done_again from y after b =
      let none : Front from [] after = subst (λ (l : List ℕ). Front from l after) b.spelled.1 b.is in
      let same : from.place ≡ after.place = omega (arith, none.place) in
      let is : x ≡ y = sym b.spelled.0 in
      let all : further from from.place from.bytes ≡ further after after.place after.bytes = rw (same, none.parts, none.same) refl in
      rw is (ap (λ (z : At). fine (y, z)) all)

  pub done-exact : Exact (known_value x)
  done-exact = record { found = done_found; again = done_again; refused = λ from r k e. absurd cc; refuses = λ from r b. absurd b }

-- ---- one after the other

module _ {A B : Type 0} (p : Part A) (f : A → Part B) (ep : Exact p) (ef : (x : A) → Exact (f x)) where
  then_found : (from : At) (x : A × B) (after : At) → from.place ≤ limit → (then_by p f).reads from ≡ Ok (x, after) → Begins (then_by p f) from x after
  then_found from x after k e =
      let a = bind_ok (p.reads from) (λ x. (f x.0).reads x.1 >>= λ y. Ok ((x.0, y.0), y.1)) (x, after) e in
      let b = bind_ok ((f a.0.0).reads a.0.1) (λ y. Ok ((a.0.0, y.0), y.1)) (x, after) a.2 in
      let one = ep.found from a.0.0 a.0.1 k a.1 in
      let two = (ef a.0.0).found a.0.1 b.0.0 b.0.1 one.is.room b.1 in
      let made : (A × B) × At = ((a.0.0, b.0.0), b.0.1) in
      subst (λ (z : (A × B) × At). Begins (then_by p f) from z.0 z.1) (ok_is made (x, after) b.2)
      (record { front = one.front ++ two.front; spelled = (one.front, two.front, refl, one.spelled, two.spelled); is = Front-then from one.front a.0.1 two.front b.0.1 one.is two.is })

  then_again : (from : At) (x : A × B) (after : At) → Begins (then_by p f) from x after → (then_by p f).reads from ≡ Ok (x, after)
  then_again from x after b =
      let b1 = b.spelled.0 in
      let b2 = b.spelled.1 in
      let whole : Front from (b1 ++ b2) after = subst (λ (l : List ℕ). Front from l after) b.spelled.2 b.is in
      let mid : At = further from (from.place + length b1) (b2 ++ after.bytes) in
      let one : p.reads from ≡ Ok (x.0, mid) = ep.again from x.0 mid (record { front = b1; spelled = b.spelled.3; is = Front-first from b1 b2 after whole }) in
      let two : (f x.0).reads mid ≡ Ok (x.1, after) = (ef x.0).again mid x.1 after (record { front = b2; spelled = b.spelled.4; is = Front-second from b1 b2 after whole }) in
      rw (one, two) refl

  then_refused : (from : At) (r : Refusal) → from.place ≤ limit → (then_by p f).reads from ≡ Err r → (then_by p f).bad from r
  then_refused from r k e =
      elim (bind_err (p.reads from) (λ x. (f x.0).reads x.1 >>= λ y. Ok ((x.0, y.0), y.1)) r e) [
        | inl h ↦ inl (ep.refused from r k h)
        | inr a ↦ elim (bind_err ((f a.0.0).reads a.0.1) (λ y. Ok ((a.0.0, y.0), y.1)) r a.2) [
          | inl h ↦ let one = ep.found from a.0.0 a.0.1 k a.1 in inr (a.0.0, a.0.1, one, (ef a.0.0).refused a.0.1 r one.is.room h)
          | inr c ↦ absurd cc
        ]
      ]

  then_refuses : (from : At) (r : Refusal) → (then_by p f).bad from r → (then_by p f).reads from ≡ Err r
  then_refuses from r b =
      elim b [
        | inl h ↦ let e = ep.refuses from r h in rw e refl
        | inr a ↦ let one = ep.again from a.0 a.1 a.2 in let two = (ef a.0).refuses a.1 r a.3 in rw (one, two) refl
      ]

  pub then-exact : Exact (then_by p f)
  then-exact = record { found = then_found; again = then_again; refused = then_refused; refuses = then_refuses }

pub both-exact : {A B : Type 0} (p : Part A) (q : Part B) → Exact p → Exact q → Exact (both p q)
both-exact p q ep eq = then-exact p (λ _. q) ep (λ _. eq)

-- ---- other values

module _ {A B : Type 0} (f : A → B) (p : Part A) (ep : Exact p) where
  image_found : (from : At) (y : B) (after : At) → from.place ≤ limit → (image f p).reads from ≡ Ok (y, after) → Begins (image f p) from y after
  image_found from y after k e =
      let a = bind_ok (p.reads from) (λ x. Ok (f x.0, x.1)) (y, after) e in
      let one = ep.found from a.0.0 a.0.1 k a.1 in
      let made : B × At = (f a.0.0, a.0.1) in
      subst (λ (z : B × At). Begins (image f p) from z.0 z.1) (ok_is made (y, after) a.2) (record { front = one.front; spelled = (a.0.0, one.spelled, refl); is = one.is })

  image_again : (from : At) (y : B) (after : At) → Begins (image f p) from y after → (image f p).reads from ≡ Ok (y, after)
  image_again from y after b =
      let x = b.spelled.0 in
      let is : f x ≡ y = sym b.spelled.2 in
      let one : p.reads from ≡ Ok (x, after) = ep.again from x after (record { front = b.front; spelled = b.spelled.1; is = b.is }) in
      rw one (ap (λ (z : B). Ok (z, after)) is)

  image_refused : (from : At) (r : Refusal) → from.place ≤ limit → (image f p).reads from ≡ Err r → (image f p).bad from r
  image_refused from r k e =
      elim (bind_err (p.reads from) (λ x. Ok (f x.0, x.1)) r e) [ inl h ↦ ep.refused from r k h | inr a ↦ absurd cc ]

  image_refuses : (from : At) (r : Refusal) → (image f p).bad from r → (image f p).reads from ≡ Err r
  image_refuses from r b = let e = ep.refuses from r b in rw e refl

  pub image-exact : Exact (image f p)
  image-exact = record { found = image_found; again = image_again; refused = image_refused; refuses = image_refuses }

-- ---- a test of the value

pub guard_ok : {A : Type 0} (b : Bool) (x y : A) (d : Refusal) → cond b (fine x) (Err d) ≡ Ok y → (b ≡ true) × (x ≡ y)
guard_ok true x y d e = (refl, cc)
guard_ok false x y d e = absurd cc

pub guard_err : {A : Type 0} (b : Bool) (x : A) (d r : Refusal) → cond b (fine x) (Err d) ≡ Err r → (b ≡ false) × (r ≡ d)
guard_err true x d r e = absurd cc
guard_err false x d r e = (refl, cc)

module _ {A : Type 0} (test : A → Bool) (reason : Reason) (p : Part A) (ep : Exact p) where
  checked_found : (from : At) (x : A) (after : At) → from.place ≤ limit → (with_test test reason p).reads from ≡ Ok (x, after) → Begins (with_test test reason p) from x after
  checked_found from x after k e =
      let a = bind_ok (p.reads from) (λ x. cond (test x.0) (Ok x) (Err (refusal from.place reason))) (x, after) e in
      let g = guard_ok (test a.0.0) a.0 (x, after) (refusal from.place reason) a.2 in
      let one = ep.found from a.0.0 a.0.1 k a.1 in
      subst (λ (z : A × At). Begins (with_test test reason p) from z.0 z.1) g.1 (record { front = one.front; spelled = (one.spelled, g.0); is = one.is })

  checked_again : (from : At) (x : A) (after : At) → Begins (with_test test reason p) from x after → (with_test test reason p).reads from ≡ Ok (x, after)
  checked_again from x after b =
      let one : p.reads from ≡ Ok (x, after) = ep.again from x after (record { front = b.front; spelled = b.spelled.0; is = b.is }) in
      let yes : test x ≡ true = b.spelled.1 in
      rw (one, yes) refl

  checked_refused : (from : At) (r : Refusal) → from.place ≤ limit → (with_test test reason p).reads from ≡ Err r → (with_test test reason p).bad from r
  checked_refused from r k e =
      elim (bind_err (p.reads from) (λ x. cond (test x.0) (Ok x) (Err (refusal from.place reason))) r e) [
        | inl h ↦ inl (ep.refused from r k h)
        | inr a ↦ let g = guard_err (test a.0.0) a.0 (refusal from.place reason) r a.2 in inr (a.0.0, a.0.1, ep.found from a.0.0 a.0.1 k a.1, g.0, g.1)
      ]

  checked_refuses : (from : At) (r : Refusal) → (with_test test reason p).bad from r → (with_test test reason p).reads from ≡ Err r
  checked_refuses from r b =
      elim b [
        | inl h ↦ let e = ep.refuses from r h in rw e refl
        | inr a ↦
            let one : p.reads from ≡ Ok (a.0, a.1) = ep.again from a.0 a.1 a.2 in
            let no : test a.0 ≡ false = a.3 in
            rw (one, no) (ap (λ (z : Refusal). Err z) (sym a.4))
      ]

  pub checked-exact : Exact (with_test test reason p)
  checked-exact = record { found = checked_found; again = checked_again; refused = checked_refused; refuses = checked_refuses }

-- ---- many

pub times-exact : {A : Type 0} (n : ℕ) (p : Part A) → Exact p → Exact (times n p)
times-exact zero p ep = done-exact []
times-exact (suc n) p ep = image-exact (λ x. x.0 ∷ x.1) (both p (times n p)) (both-exact p (times n p) ep (times-exact n p ep))

-- ---- a value that is looked into

moved_ok : {B : Type 0} (place : ℕ) (a : At) (r : Result B Refusal) (y : B) (after : At) → at_offset place a r ≡ Ok (y, after) → (r ≡ Ok y) × (a ≡ after)
moved_ok {B = B} place a (Ok z) y after e =
    let left : B × At = (z, a) in
    let right : B × At = (y, after) in
    let p = ok_is left right e in (ap (λ (w : B × At). Ok w.0) p, ap (λ (w : B × At). w.1) p)
moved_ok place a (Err d) y after e = absurd cc

moved_err : {B : Type 0} (place : ℕ) (a : At) (res : Result B Refusal) (r : Refusal) → at_offset place a res ≡ Err r → (d : Refusal) × (res ≡ Err d) × (r ≡ refusal (place + d.place) d.reason)
moved_err place a (Ok z) r e = absurd cc
moved_err place a (Err d) r e = (d, refl, cc)

module _ {A B : Type 0} (f : A → Result B Refusal) (p : Part A) (ep : Exact p) where
  refined_found : (from : At) (y : B) (after : At) → from.place ≤ limit → (map_or_refuse f p).reads from ≡ Ok (y, after) → Begins (map_or_refuse f p) from y after
  refined_found from y after k e =
      let a = bind_ok (p.reads from) (λ x. at_offset from.place x.1 (f x.0)) (y, after) e in
      let m = moved_ok from.place a.0.1 (f a.0.0) y after a.2 in
      let one = ep.found from a.0.0 a.0.1 k a.1 in
      subst (λ (z : At). Begins (map_or_refuse f p) from y z) m.1 (record { front = one.front; spelled = (a.0.0, one.spelled, m.0); is = one.is })

  refined_again : (from : At) (y : B) (after : At) → Begins (map_or_refuse f p) from y after → (map_or_refuse f p).reads from ≡ Ok (y, after)
  refined_again from y after b =
      let one : p.reads from ≡ Ok (b.spelled.0, after) = ep.again from b.spelled.0 after (record { front = b.front; spelled = b.spelled.1; is = b.is }) in
      let yes : f b.spelled.0 ≡ Ok y = b.spelled.2 in
      rw (one, yes) refl

  refined_refused : (from : At) (r : Refusal) → from.place ≤ limit → (map_or_refuse f p).reads from ≡ Err r → (map_or_refuse f p).bad from r
  refined_refused from r k e =
      elim (bind_err (p.reads from) (λ x. at_offset from.place x.1 (f x.0)) r e) [
        | inl h ↦ inl (ep.refused from r k h)
        | inr a ↦ let m = moved_err from.place a.0.1 (f a.0.0) r a.2 in inr (a.0.0, a.0.1, ep.found from a.0.0 a.0.1 k a.1, m.0, m.1, m.2)
      ]

  refined_refuses : (from : At) (r : Refusal) → (map_or_refuse f p).bad from r → (map_or_refuse f p).reads from ≡ Err r
  refined_refuses from r b =
      elim b [
        | inl h ↦ let e = ep.refuses from r h in rw e refl
        | inr a ↦
            let one : p.reads from ≡ Ok (a.0, a.1) = ep.again from a.0 a.1 a.2 in
            let no : f a.0 ≡ Err a.3 = a.4 in
            rw (one, no) (ap (λ (z : Refusal). Err z) (sym a.5))
      ]

  pub refined-exact : Exact (map_or_refuse f p)
  refined-exact = record { found = refined_found; again = refined_again; refused = refined_refused; refuses = refined_refuses }

pub chain-exact : {A : Type 0} (n : ℕ) (p : List A → Part A) (before : List A) → ((xs : List A) → Exact (p xs)) → Exact (chain n p before)
chain-exact zero p before ep = done-exact before
chain-exact (suc n) p before ep = image-exact _ _ (then-exact (p before) _ (ep before) (λ x. chain-exact n p (before ++ x ∷ []) ep))

-- The laws of bytes and numbers.
use Rattle.std.proofs.Common.{◌≡◌, ℕ, zero, suc, ◌+◌, ◌-◌, ◌*◌, ◌%◌, ◌<◌, ◌≤◌, ◌⊎◌, inl, inr, Bool, true, false, cond, ltb, List, [], ◌∷◌, ◌++◌, length, Ok, Err, refl, sym, ap, subst, ◌∙◌, arith}
use Rattle.std.specs.declared.result.Result.{Result}
use Rattle.std.specs.List.{AllByRecursion}
use Rattle.std.proofs.lemmas.Bool.{ltb-true, ltb-false, le-ltb, lt-ltb}
use Rattle.abc_file_types.specs.declared.reason.Reason.TheVariants as reasons
use Rattle.abc_file_types.proofs.Exact.{done-exact, bind_ok, bind_err, fine, ok_is, Front-then, Front-first, Front-second, guard_ok, guard_err, image-exact, checked-exact, then-exact, times-exact, both-exact}
use Rattle.abc_base.proofs.Spelling.{IsGroups, raw, longer, groups_number, number_groups, number_value}
use Rattle.abc_file_types.specs.Law.{Exact}
use Rattle.abc_file_types.specs.Lists.{count_and_items, pool, pool_by, times}
use Rattle.abc_file_types.specs.Numbers.{BadHere, byte, byte_at, byte_here, groups, number, s24, u30, u32, u8, index_below, pool_index, entry_index, s32, u16}
use Rattle.abc_file_types.specs.Part.{At, Front, Part, Refusal, both, further, limit, refusal, when, ◌>>=◌}

-- ---- bytes

-- what a byte that was read was
pub record Took (end n : ℕ) (bytes : List ℕ) (x : ℕ) (after : At) : Type 0 where
  pub parts : bytes ≡ x ∷ after.bytes
  pub place : after.place ≡ n + 1
  pub room : n < limit
  pub same : after.end ≡ end
  pub within : n < end

abbrev placed : ℕ → ℕ → List ℕ → At
placed end n bytes = record { place = n; bytes = bytes; end = end }

byte_took_here : (end n : ℕ) (bytes : List ℕ) (x : ℕ) (after : At) → n < end → byte_here end n bytes ≡ Ok (x, after) → Took end n bytes x after
byte_took_here end n [] x after lt e = absurd cc
byte_took_here end n (y ∷ rest) x after lt e =
    let made : ℕ × At = (y, placed end (n + 1) rest) in
    let g = guard_ok (ltb n limit) made (x, after) (refusal n reasons.FileTooLong) e in
    subst (λ (z : ℕ × At). Took end n (y ∷ rest) z.0 z.1) g.1 (record { parts = refl; place = refl; room = ltb-true n limit g.0; same = refl; within = lt })

abbrev bad_read : Refusal → Result (ℕ × At) Refusal
bad_read r = Err r

pick_ok : (b : Bool) (x : Result (ℕ × At) Refusal) (d : Refusal) (y : ℕ × At) → cond b x (bad_read d) ≡ Ok y → (b ≡ true) × (x ≡ Ok y)
pick_ok true x d y e = (refl, e)
pick_ok false x d y e = absurd cc

pick_err : (b : Bool) (x : Result (ℕ × At) Refusal) (d r : Refusal) → cond b x (bad_read d) ≡ Err r → ((b ≡ false) × (r ≡ d)) ⊎ ((b ≡ true) × (x ≡ Err r))
pick_err true x d r e = inr (refl, e)
pick_err false x d r e = inl (refl, cc)

pub byte_took : (end n : ℕ) (bytes : List ℕ) (x : ℕ) (after : At) → byte_at end n bytes ≡ Ok (x, after) → Took end n bytes x after
byte_took end n bytes x after e =
    let g = pick_ok (ltb n end) (byte_here end n bytes) (refusal n reasons.CodeEnds) (x, after) e in
    byte_took_here end n bytes x after (ltb-true n end g.0) g.1

byte_front : (from : At) (x : ℕ) (after : At) → Took from.end from.place from.bytes x after → Front from (x ∷ []) after
byte_front from x after t = record { parts = t.parts; place = t.place; room = omega (arith, t.place, t.room); same = t.same; within = λ h. omega (arith, t.place, t.within) }

pub byte_again : (end n x : ℕ) (rest : List ℕ) → n < end → n < limit → byte_at end n (x ∷ rest) ≡ Ok (x, record { place = n + 1; bytes = rest; end = end })
byte_again end n x rest le lt = rw (lt-ltb n end le, lt-ltb n limit lt) refl

refused_here : (end n : ℕ) (bytes : List ℕ) (r : Refusal) → byte_here end n bytes ≡ Err r → BadHere (placed end n bytes) r
refused_here end n [] r e = inl (refl, cc)
refused_here end n (y ∷ rest) r e =
    let made : ℕ × At = (y, placed end (n + 1) rest) in
    let g = guard_err (ltb n limit) made (refusal n reasons.FileTooLong) r e in
    inr (y, rest, refl, ltb-false n limit g.0, g.1)

pub byte_refused : (end n : ℕ) (bytes : List ℕ) (r : Refusal) → byte_at end n bytes ≡ Err r → byte.bad (placed end n bytes) r
byte_refused end n bytes r e =
    elim (pick_err (ltb n end) (byte_here end n bytes) (refusal n reasons.CodeEnds) r e) [
      | inl h ↦ inl (ltb-false n end h.0, h.1)
      | inr h ↦ inr (ltb-true n end h.0, refused_here end n bytes r h.1)
    ]

pub byte_refuses : (end n : ℕ) (bytes : List ℕ) (r : Refusal) → byte.bad (placed end n bytes) r → byte_at end n bytes ≡ Err r
byte_refuses end n bytes r b =
    elim b [
      | inl h ↦ rw (le-ltb n end h.0, h.1) refl
      | inr h ↦ let some = lt-ltb n end h.0 in elim h.1 [
        | inl g ↦ rw (g.0, g.1, some) refl
        | inr g ↦ let none = le-ltb n limit g.3 in rw (g.2, g.4, some, none) refl
      ]
    ]

pub byte-exact : Exact byte
byte-exact = record {
  found = λ from x after k e. let t = byte_took from.end from.place from.bytes x after e in record { front = x ∷ []; spelled = refl; is = byte_front from x after t };
  again = λ from x after b.
      let one : Front from (x ∷ []) after = subst (λ (l : List ℕ). Front from l after) b.spelled b.is in
      let lt : from.place < limit = omega (arith, one.place, one.room) in
      let le : from.place < from.end = omega (arith, one.place, one.within (omega arith)) in
      let p : after.place ≡ from.place + 1 = one.place in
      let to : placed from.end (from.place + 1) after.bytes ≡ placed after.end after.place after.bytes = rw (p, one.same) refl in
      ap (byte_at from.end from.place) one.parts ∙ byte_again from.end from.place x after.bytes le lt ∙ ap (λ (z : At). fine (x, z)) to;
  refused = λ from r k e. byte_refused from.end from.place from.bytes r e;
  refuses = λ from r b. byte_refuses from.end from.place from.bytes r b;
}

pub u8-exact : Exact u8
unfolding u8
u8-exact = byte-exact

-- ---- numbers

record Spelled (k : ℕ) (from : At) (x : ℕ) (after : At) : Type 0 where
  front : List ℕ
  groups : IsGroups front
  len : length front ≤ k
  value : x ≡ raw front
  is : Front from front after

abbrev rest_of : ℕ → ℕ → ℕ × At → Result (ℕ × At) Refusal
rest_of k start x = cond (ltb x.0 128) (fine x) (groups k start x.1 >>= λ y. Ok (x.0 % 128 + 128 * y.0, y.1))

-- a choice that came out so
chosen : (b : Bool) (x y z : Result (ℕ × At) Refusal) → cond b x y ≡ z → ((b ≡ true) × (x ≡ z)) ⊎ ((b ≡ false) × (y ≡ z))
chosen true x y z e = inl (refl, e)
chosen false x y z e = inr (refl, e)

groups_found : (k start : ℕ) (from : At) (x : ℕ) (after : At) → groups k start from ≡ Ok (x, after) → Spelled k from x after
groups_found zero start from x after e = absurd cc
groups_found (suc k) start from x after e =
    let a = bind_ok (byte_at from.end from.place from.bytes) (rest_of k start) (x, after) e in
    let t = byte_took from.end from.place from.bytes a.0.0 a.0.1 a.1 in
    let one = byte_front from a.0.0 a.0.1 t in
    elim (chosen (ltb a.0.0 128) (fine a.0) (groups k start a.0.1 >>= λ y. Ok (a.0.0 % 128 + 128 * y.0, y.1)) (Ok (x, after)) a.2) [
      | inl h ↦
          let low : a.0.0 < 128 = ltb-true a.0.0 128 h.0 in
          let s : Spelled (suc k) from a.0.0 a.0.1 = record { front = a.0.0 ∷ []; groups = low; len = omega arith; value = omega arith; is = one } in
          subst (λ (z : ℕ × At). Spelled (suc k) from z.0 z.1) (ok_is a.0 (x, after) h.1) s
      | inr h ↦
          let high : 128 ≤ a.0.0 = ltb-false a.0.0 128 h.0 in
          let b = bind_ok (groups k start a.0.1) (λ y. Ok (a.0.0 % 128 + 128 * y.0, y.1)) (x, after) h.1 in
          let more = groups_found k start a.0.1 b.0.0 b.0.1 b.1 in
          let made : ℕ × At = (a.0.0 % 128 + 128 * b.0.0, b.0.1) in
          let s : Spelled (suc k) from made.0 made.1 = record {
            front = a.0.0 ∷ more.front;
            groups = longer a.0.0 more.front high more.groups;
            len = omega (arith, more.len);
            value = ap (λ (n : ℕ). a.0.0 % 128 + 128 * n) more.value;
            is = Front-then from (a.0.0 ∷ []) a.0.1 more.front b.0.1 one more.is;
          } in
          subst (λ (z : ℕ × At). Spelled (suc k) from z.0 z.1) (ok_is made (x, after) b.2) s
    ]

groups_again : (k start : ℕ) (from : At) (front : List ℕ) (after : At) → IsGroups front → length front ≤ k → Front from front after → groups k start from ≡ Ok (raw front, after)
groups_again k start from [] after g le f = absurd g
groups_again zero start from (b ∷ bs) after g le f = absurd (omega arith)
groups_again (suc k) start from (b ∷ []) after g le f =
    let one : byte_at from.end from.place from.bytes ≡ Ok (b, after) = byte-exact.again from b after (record { front = b ∷ []; spelled = refl; is = f }) in
    let low : ltb b 128 ≡ true = lt-ltb b 128 g in
    let same : b ≡ b % 128 + 128 * 0 = omega arith in
    rw (one, low) (ap (λ (n : ℕ). fine (n, after)) same)
groups_again (suc k) start from (b ∷ c ∷ bs) after g le f =
    let mid : At = further from (from.place + 1) (c ∷ (bs ++ after.bytes)) in
    let one : byte_at from.end from.place from.bytes ≡ Ok (b, mid) = byte-exact.again from b mid (record { front = b ∷ []; spelled = refl; is = Front-first from (b ∷ []) (c ∷ bs) after f }) in
    let more : groups k start mid ≡ Ok (raw (c ∷ bs), after) = groups_again k start mid (c ∷ bs) after g.1 (omega arith) (Front-second from (b ∷ []) (c ∷ bs) after f) in
    let high : ltb b 128 ≡ false = le-ltb b 128 g.0 in
    rw (one, high, more) refl

abbrev IsHigh : List ℕ → Type 0
IsHigh bs = AllByRecursion (λ b. 128 ≤ b) bs

record BadGroups (k start : ℕ) (from : At) (r : Refusal) : Type 0 where
  high : List ℕ
  after : At
  is : Front from high after
  each : IsHigh high
  why : ((length high < k) × byte.bad after r) ⊎ ((length high ≡ k) × (r ≡ refusal start reasons.LongNumber))

groups_refused : (k start : ℕ) (from : At) (r : Refusal) → from.place ≤ limit → groups k start from ≡ Err r → BadGroups k start from r
groups_refused zero start from r room e = record { high = []; after = from; is = record { parts = refl; place = omega arith; room = room; same = refl; within = λ h. absurd (omega arith) }; each = tt; why = inr (refl, cc) }
groups_refused (suc k) start from r room e =
    elim (bind_err (byte_at from.end from.place from.bytes) (rest_of k start) r e) [
      | inl h ↦ record { high = []; after = from; is = record { parts = refl; place = omega arith; room = room; same = refl; within = λ h. absurd (omega arith) }; each = tt; why = inl (omega arith, byte_refused from.end from.place from.bytes r h) }
      | inr a ↦
          let t = byte_took from.end from.place from.bytes a.0.0 a.0.1 a.1 in
          let one = byte_front from a.0.0 a.0.1 t in
          elim (chosen (ltb a.0.0 128) (fine a.0) (groups k start a.0.1 >>= λ y. Ok (a.0.0 % 128 + 128 * y.0, y.1)) (Err r) a.2) [
            | inl h ↦ absurd (let e = h.1 in cc)
            | inr h ↦
                let high : 128 ≤ a.0.0 = ltb-false a.0.0 128 h.0 in
                elim (bind_err (groups k start a.0.1) (λ y. Ok (a.0.0 % 128 + 128 * y.0, y.1)) r h.1) [
                  | inl g ↦
                      let more = groups_refused k start a.0.1 r one.room g in
                      record {
                        high = a.0.0 ∷ more.high;
                        after = more.after;
                        is = Front-then from (a.0.0 ∷ []) a.0.1 more.high more.after one more.is;
                        each = (high, more.each);
                        why = elim more.why [ inl w ↦ inl (omega (arith, w.0), w.1) | inr w ↦ inr (ap suc w.0, w.1) ];
                      }
                  | inr c ↦ absurd (let e = c.2 in cc)
                ]
          ]
    ]

groups_refuses : (k start : ℕ) (from : At) (r : Refusal) (high : List ℕ) (after : At) → Front from high after → IsHigh high
    → ((length high < k) × byte.bad after r) ⊎ ((length high ≡ k) × (r ≡ refusal start reasons.LongNumber)) → groups k start from ≡ Err r
groups_refuses zero start from r [] after f each (inl w) = absurd (omega (arith, w.0))
groups_refuses zero start from r [] after f each (inr w) = rw w.1 refl
groups_refuses zero start from r (b ∷ bs) after f each (inl w) = absurd (omega (arith, w.0))
groups_refuses zero start from r (b ∷ bs) after f each (inr w) = absurd (omega (arith, w.0))
groups_refuses (suc k) start from r [] after f each (inl w) =
    let p : from.place ≡ after.place = omega (arith, f.place) in
    let one : byte_at from.end from.place from.bytes ≡ Err r = rw (p, f.parts, ← f.same) (byte_refuses after.end after.place after.bytes r w.1) in
    rw one refl
groups_refuses (suc k) start from r [] after f each (inr w) = absurd (omega (arith, w.0))
groups_refuses (suc k) start from r (b ∷ bs) after f each why =
    let mid : At = further from (from.place + 1) (bs ++ after.bytes) in
    let one : byte_at from.end from.place from.bytes ≡ Ok (b, mid) = byte-exact.again from b mid (record { front = b ∷ []; spelled = refl; is = Front-first from (b ∷ []) bs after f }) in
    let high : ltb b 128 ≡ false = le-ltb b 128 each.0 in
    let more : groups k start mid ≡ Err r = groups_refuses k start mid r bs after (Front-second from (b ∷ []) bs after f) each.1
    (elim why [ inl w ↦ inl (omega (arith, w.0), w.1) | inr w ↦ inr (omega (arith, w.0), w.1) ]) in
    rw (one, high, more) refl

pub number-exact : Exact number
number-exact = record {
  found = λ from x after k e. let s = groups_found 5 from.place from x after e in record { front = s.front; spelled = groups_number x s.front s.groups s.len s.value; is = s.is };
  again = λ from x after b. groups_again 5 from.place from b.front after (number_groups x b.front b.spelled) b.spelled.few b.is ∙ ap (λ (n : ℕ). fine (n, after)) (sym (number_value x b.front b.spelled));
  refused = λ from r k e. let b = groups_refused 5 from.place from r k e in record { high = b.high; after = b.after; is = b.is; each = b.each; why = b.why };
  refuses = λ from r b. groups_refuses 5 from.place from r b.high b.after b.is b.each b.why;
}

pub u30-exact : Exact u30
unfolding u30
u30-exact = checked-exact _ _ number number-exact

pub u32-exact : Exact u32
unfolding u32
u32-exact = image-exact _ number number-exact

pub s32-exact : Exact s32
unfolding s32
s32-exact = image-exact _ number number-exact

pub index_below-exact : (n : ℕ) → Exact (index_below n)
unfolding index_below
index_below-exact n = checked-exact _ _ u30 u30-exact

pub pool_index-exact : (n : ℕ) → Exact (pool_index n)
unfolding pool_index
pool_index-exact n = checked-exact _ _ u30 u30-exact

pub entry_index-exact : (n : ℕ) → Exact (entry_index n)
unfolding entry_index
entry_index-exact n = checked-exact _ _ u30 u30-exact

pub counted-exact : {A : Type 0} (p : Part A) → Exact p → Exact (count_and_items p)
unfolding count_and_items
counted-exact p ep = image-exact _ _ (then-exact u30 (λ n. times n p) u30-exact (λ n. times-exact n p ep))

pub pool_by-exact : {A : Type 0} (p : ℕ → Part A) → ((n : ℕ) → Exact (p n)) → Exact (pool_by p)
unfolding pool_by
pool_by-exact p ep = image-exact _ _ (then-exact u30 (λ n. times (n - 1) (p (n - 1))) u30-exact (λ n. times-exact (n - 1) (p (n - 1)) (ep (n - 1))))

pub pool-exact : {A : Type 0} (p : Part A) → Exact p → Exact (pool p)
unfolding pool pool_by
pool-exact p ep = pool_by-exact (λ n. p) (λ n. ep)

pub when-exact : {A : Type 0} (b : Bool) (x : A) (p : Part A) → Exact p → Exact (when b x p)
unfolding when
when-exact true x p ep = ep
when-exact false x p ep = done-exact x

pub s24-exact : Exact s24
unfolding s24 u8
s24-exact = image-exact _ _ (both-exact byte (both byte byte) byte-exact (both-exact byte byte byte-exact byte-exact))

pub u16-exact : Exact u16
unfolding u16 u8
u16-exact = image-exact _ _ (both-exact byte byte byte-exact byte-exact)

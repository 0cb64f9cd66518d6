-- The sum over a spelling as a recursion, and the fewest bytes that spell a number.
use Rattle.std.proofs.Common.{◌≡◌, ℕ, zero, suc, ◌+◌, ◌*◌, ◌^◌, ◌%◌, ◌/◌, ◌<◌, ◌≤◌, inl, inr, List, [], ◌∷◌, ◌++◌, length, refl, sym, ap, subst, ◌∙◌, add-one, arith}
use Rattle.std.specs.List.{AllByRecursion, enumerate_from, sum_by}
use Rattle.std.proofs.lemmas.List.Sums.{sum_by-cons}
use Rattle.std.proofs.lemmas.Bool.{cases_lt, le-ltb, lt-ltb}
use Rattle.abc_base.specs.Numbers.{raw_value, SpellsNumber, SpellsU30, SpellsU32, groups_of, number_bytes, IsFewest}

-- ---- a spelling, byte by byte

-- seven bits a byte, the low ones first
abbrev pub raw : List ℕ → ℕ
raw [] = 0
raw (b ∷ bs) = b % 128 + 128 * raw bs

-- all but the last byte have the high bit set, and the last has not
abbrev pub IsGroups : List ℕ → Type 0
IsGroups [] = ⊥
IsGroups (b ∷ []) = b < 128
IsGroups (b ∷ c ∷ bs) = (128 ≤ b) × IsGroups (c ∷ bs)

abbrev added : ℕ × ℕ → ℕ
added p = p.1 % 128 * 128 ^ p.0

power_step : (k : ℕ) → 128 ^ (k + 1) ≡ 128 * 128 ^ k
power_step k = rw add-one (omega arith)

sum_at : (k : ℕ) (bs : List ℕ) → sum_by added (enumerate_from k bs) ≡ 128 ^ k * raw bs
sum_at k [] = omega arith
sum_at k (b ∷ bs) =
    let one = sum_by-cons added (k, b) (enumerate_from (k + 1) bs) in
    let rest = sum_at (k + 1) bs in
    let power : 128 ^ (k + 1) * raw bs ≡ 128 * 128 ^ k * raw bs = ap (λ (p : ℕ). p * raw bs) (power_step k) in
    one ∙ omega (arith, rest, power)

pub raw_value_is : (bs : List ℕ) → raw_value bs ≡ raw bs
raw_value_is bs = sum_at 0 bs ∙ omega arith

pub longer : (b : ℕ) (bs : List ℕ) → 128 ≤ b → IsGroups bs → IsGroups (b ∷ bs)
longer b [] h g = absurd g
longer b (c ∷ bs) h g = (h, g)

groups_of_high : (high : List ℕ) (last : ℕ) → AllByRecursion (λ b. 128 ≤ b) high → last < 128 → IsGroups (high ++ last ∷ [])
groups_of_high [] last more stops = stops
groups_of_high (b ∷ bs) last more stops = longer b (bs ++ last ∷ []) more.0 (groups_of_high bs last more.1 stops)

-- the bytes before the last, and the last
record Split (bs : List ℕ) : Type 0 where
  high : List ℕ
  last : ℕ
  parts : bs ≡ high ++ last ∷ []
  more : AllByRecursion (λ b. 128 ≤ b) high
  stops : last < 128

split : (bs : List ℕ) → IsGroups bs → Split bs
split [] g = absurd g
split (b ∷ []) g = record { high = []; last = b; parts = refl; more = tt; stops = g }
split (b ∷ c ∷ bs) g =
    let s = split (c ∷ bs) g.1 in
    record { high = b ∷ s.high; last = s.last; parts = ap (λ (t : List ℕ). b ∷ t) s.parts; more = (g.0, s.more); stops = s.stops }

pub number_groups : (x : ℕ) (bs : List ℕ) → SpellsNumber x bs → IsGroups bs
number_groups x bs s = subst IsGroups (sym s.parts) (groups_of_high s.high s.last s.more s.stops)

pub number_value : (x : ℕ) (bs : List ℕ) → SpellsNumber x bs → x ≡ raw bs
number_value x bs s = s.value ∙ raw_value_is bs

pub groups_number : (x : ℕ) (bs : List ℕ) → IsGroups bs → length bs ≤ 5 → x ≡ raw bs → SpellsNumber x bs
groups_number x bs g le e =
    let s = split bs g in
    record { high = s.high; last = s.last; parts = s.parts; more = s.more; stops = s.stops; few = le; value = e ∙ sym (raw_value_is bs) }

-- ---- the fewest bytes

record Best (k : ℕ) (b : List ℕ) : Type 0 where
  groups : IsGroups (groups_of k (raw b))
  value : raw (groups_of k (raw b)) ≡ raw b
  short : length (groups_of k (raw b)) ≤ length b

one_group : (k x : ℕ) → x < 128 → groups_of (suc k) x ≡ x ∷ []
one_group k x lt = rw (lt-ltb x 128 lt) refl

more_groups : (k x : ℕ) → 128 ≤ x → groups_of (suc k) x ≡ (x % 128 + 128) ∷ groups_of k (x / 128)
more_groups k x le = rw (le-ltb x 128 le) refl

best : (k : ℕ) (b : List ℕ) → IsGroups b → length b ≤ k → Best k b
best k [] g le = absurd g
best zero (b ∷ bs) g le = absurd (omega arith)
best (suc k) (b ∷ []) g le =
    let v : raw (b ∷ []) ≡ b = omega arith in
    let e : groups_of (suc k) (raw (b ∷ [])) ≡ b ∷ [] = ap (groups_of (suc k)) v ∙ one_group k b g in
    record { groups = rw e g; value = rw e refl; short = rw e (omega arith) }
best (suc k) (b ∷ c ∷ bs) g le =
    elim (cases_lt (raw (b ∷ c ∷ bs)) 128) [
      | inl lt ↦
          let e = one_group k (raw (b ∷ c ∷ bs)) lt in
          record { groups = rw e lt; value = rw e (omega arith); short = rw e (omega arith) }
      | inr ge ↦
          let h : raw (b ∷ c ∷ bs) / 128 ≡ raw (c ∷ bs) = omega arith in
          let e : groups_of (suc k) (raw (b ∷ c ∷ bs)) ≡ (raw (b ∷ c ∷ bs) % 128 + 128) ∷ groups_of k (raw (c ∷ bs)) = more_groups k (raw (b ∷ c ∷ bs)) ge ∙ ap (λ (n : ℕ). (raw (b ∷ c ∷ bs) % 128 + 128) ∷ groups_of k n) h in
          let m = best k (c ∷ bs) g.1 (omega arith) in
          record {
            groups = rw e (longer (raw (b ∷ c ∷ bs) % 128 + 128) (groups_of k (raw (c ∷ bs))) (omega arith) m.groups);
            value = rw e (omega (arith, m.value));
            short = rw e (omega (arith, m.short));
          }
    ]

pub number_spelled : (x : ℕ) (b : List ℕ) → SpellsNumber x b → SpellsNumber x (number_bytes x)
unfolding number_bytes
number_spelled x b s =
    let v = number_value x b s in
    let m = best 5 b (number_groups x b s) s.few in
    rw v (groups_number (raw b) (groups_of 5 (raw b)) m.groups (omega (arith, m.short, s.few)) (sym m.value))

pub number_shortest : (x : ℕ) (b : List ℕ) → SpellsNumber x b → length (number_bytes x) ≤ length b
unfolding number_bytes
number_shortest x b s =
    let v = number_value x b s in
    rw v (best 5 b (number_groups x b s) s.few).short

-- ---- every number that fits

record Fits (k x : ℕ) : Type 0 where
  groups : IsGroups (groups_of k x)
  value : raw (groups_of k x) ≡ x
  short : length (groups_of k x) ≤ k

groups_fit : (k x : ℕ) → x < 128 ^ suc k → Fits (suc k) x
groups_fit zero x lt =
    let low : x < 128 = omega arith in
    let e = one_group zero x low in
    record { groups = rw e low; value = rw e (omega arith); short = rw e (omega arith) }
groups_fit (suc k) x lt =
    elim (cases_lt x 128) [
      | inl low ↦
          let e = one_group (suc k) x low in
          record { groups = rw e low; value = rw e (omega arith); short = rw e (omega arith) }
      | inr high ↦
          let e = more_groups (suc k) x high in
          let less : x / 128 < 128 ^ suc k = omega arith in
          let m = groups_fit k (x / 128) less in
          record {
            groups = rw e (longer (x % 128 + 128) (groups_of (suc k) (x / 128)) (omega arith) m.groups);
            value = rw e (omega (arith, m.value));
            short = rw e (omega (arith, m.short));
          }
    ]

pub number_fits : (x : ℕ) → x < 2 ^ 35 → SpellsNumber x (number_bytes x)
unfolding number_bytes
number_fits x lt = let f = groups_fit 4 x (omega arith) in groups_number x (groups_of 5 x) f.groups f.short (sym f.value)

some_group : (k x : ℕ) → 1 ≤ length (groups_of (suc k) x)
some_group k x = elim (cases_lt x 128) [ inl low ↦ rw (one_group k x low) (omega arith) | inr high ↦ rw (more_groups k x high) (omega arith) ]

groups_grow : (k x y : ℕ) → x ≤ y → length (groups_of k x) ≤ length (groups_of k y)
groups_grow zero x y le = omega arith
groups_grow (suc k) x y le =
    elim (cases_lt x 128) [
      | inl low ↦ let one = some_group k y in rw (one_group k x low) (omega arith)
      | inr high ↦ let up : 128 ≤ y = omega arith in let h = groups_grow k (x / 128) (y / 128) (omega arith) in rw (more_groups k x high, more_groups k y up) (omega arith)
    ]

pub number_grows : (x y : ℕ) → x ≤ y → length (number_bytes x) ≤ length (number_bytes y)
unfolding number_bytes
number_grows x y le = groups_grow 5 x y le

-- ---- lengths

one_more : (k x : ℕ) → 128 ≤ x → length (groups_of (suc k) x) ≡ suc (length (groups_of k (x / 128)))
one_more k x le = rw (more_groups k x le) refl

last_one : (k x : ℕ) → x < 128 → length (groups_of (suc k) x) ≡ 1
last_one k x lt = rw (one_group k x lt) refl

pub length_1 : (v : ℕ) → v < 128 → length (number_bytes v) ≡ 1
unfolding number_bytes
length_1 v lt = last_one 4 v lt

pub length_2 : (v : ℕ) → 128 ≤ v → v < 128 ^ 2 → length (number_bytes v) ≡ 2
unfolding number_bytes
length_2 v le lt = one_more 4 v le ∙ ap suc (last_one 3 (v / 128) (omega arith))

pub length_3 : (v : ℕ) → 128 ^ 2 ≤ v → v < 128 ^ 3 → length (number_bytes v) ≡ 3
unfolding number_bytes
length_3 v le lt = one_more 4 v (omega arith) ∙ ap suc (one_more 3 (v / 128) (omega arith) ∙ ap suc (last_one 2 (v / 128 / 128) (omega arith)))

pub length_4 : (v : ℕ) → 128 ^ 3 ≤ v → v < 128 ^ 4 → length (number_bytes v) ≡ 4
unfolding number_bytes
length_4 v le lt = one_more 4 v (omega arith) ∙ ap suc (one_more 3 (v / 128) (omega arith) ∙ ap suc (one_more 2 (v / 128 / 128) (omega arith) ∙ ap suc (last_one 1 (v / 128 / 128 / 128) (omega arith))))

pub length_5 : (v : ℕ) → 128 ^ 4 ≤ v → v < 128 ^ 5 → length (number_bytes v) ≡ 5
unfolding number_bytes
length_5 v le lt = one_more 4 v (omega arith) ∙ ap suc (one_more 3 (v / 128) (omega arith) ∙ ap suc (one_more 2 (v / 128 / 128) (omega arith) ∙ ap suc (one_more 1 (v / 128 / 128 / 128) (omega arith) ∙ ap suc (last_one 0 (v / 128 / 128 / 128 / 128) (omega arith)))))

-- ---- what the length is least for

pub u32_fewest : (v : ℕ) → v < 2 ^ 32 → IsFewest (SpellsU32 v) (length (number_bytes v))
u32_fewest v lt = record {
  shortest = number_bytes v;
  spelled = (v, number_fits v (omega arith), omega arith);
  counted = refl;
  least = λ b s. let h = number_shortest s.0 b s.1 in let g = number_grows v s.0 (omega (arith, s.2)) in omega arith;
}

pub u30_fewest : (v : ℕ) → v < 2 ^ 30 → IsFewest (SpellsU30 v) (length (number_bytes v))
u30_fewest v lt = record {
  shortest = number_bytes v;
  spelled = (number_fits v (omega arith), lt);
  counted = refl;
  least = λ b s. number_shortest v b s.0;
}

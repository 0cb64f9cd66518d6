-- The canonical spelling is one, and the least.
use Rattle.std.proofs.Common.{◌≡◌, ℕ, ℤ, pos, negsuc, zero, suc, ◌+◌, ◌*◌, ◌^◌, ◌-◌, ◌%◌, ◌/◌, ◌<◌, ◌≤◌, Bool, true, false, cond, List, [], ◌∷◌, ◌++◌, length, refl, sym, ap, subst, ◌∙◌, length-append, arith}
use Rattle.std.specs.List.{flat_map}
use Rattle.std.proofs.lemmas.List.Concat.{flat_map-cons}
use Rattle.std.proofs.lemmas.Int.{ints}
use Rattle.std.proofs.lemmas.Bool.{le-ltb, lt-ltb}
use Rattle.abc_file_types.specs.declared.reason.Reason.{Reason}
use Rattle.abc_base.proofs.Spelling.{IsGroups, number_spelled, number_shortest, number_fits, number_groups}
use Rattle.abc_base.specs.Numbers.{number_bytes, signed24}
use Rattle.abc_file_types.specs.Canonical.{FitsS24, IsCanonical, NoGreater, counted_bytes, low24, pool_bytes, pool_count, s24_bytes}
use Rattle.abc_file_types.specs.Lists.{count_and_items, pool, pool_by, times}
use Rattle.abc_file_types.specs.Numbers.{number, s24, u30, u8, index_below, pool_index, entry_index}
use Rattle.abc_file_types.specs.Part.{when, Part, both, with_test, known_value, image, then_by}
use Rattle.abc_file_types.proofs.Lesser.{halves, no_greater_append, number_least, under_same}

-- ---- numbers

pub number-canonical : IsCanonical number number_bytes
number-canonical = record { spelled = number_spelled; shortest = number_shortest; least = λ x b s len. number_least x x b s (omega arith) (under_same 5 x) len }

-- ---- the ways to make a part

pub done-canonical : {A : Type 0} (x : A) (h : A → List ℕ) → h x ≡ [] → IsCanonical (known_value x) h
done-canonical x h e = record { spelled = λ y b s. (s.0, ap h s.0 ∙ e); shortest = λ y b s. rw (ap h s.0, e) (omega arith); least = λ y b s len. rw (ap h s.0, e, s.1) tt }

pub then-canonical : {A B : Type 0} (p : Part A) (f : A → Part B) (cp : A → List ℕ) (cf : A → B → List ℕ) → IsCanonical p cp → ((x : A) → IsCanonical (f x) (cf x))
    → IsCanonical (then_by p f) (λ x. cp x.0 ++ cf x.0 x.1)
then-canonical p f cp cf kp kf = record {
  spelled = λ x b s. (cp x.0, cf x.0 x.1, refl, kp.spelled x.0 s.0 s.3, (kf x.0).spelled x.1 s.1 s.4);
  shortest = λ x b s. let one = kp.shortest x.0 s.0 s.3 in let two = (kf x.0).shortest x.1 s.1 s.4 in rw s.2 (omega (arith, one, two, length-append s.0 s.1, length-append (cp x.0) (cf x.0 x.1)));
  least = λ x b s len.
      let h = halves (cp x.0) (cf x.0 x.1) s.0 s.1 (kp.shortest x.0 s.0 s.3) ((kf x.0).shortest x.1 s.1 s.4) (len ∙ ap length s.2) in
      rw s.2 (no_greater_append (cp x.0) (cf x.0 x.1) s.0 s.1 (kp.least x.0 s.0 s.3 h.0) ((kf x.0).least x.1 s.1 s.4 h.1));
}

pub both-canonical : {A B : Type 0} (p : Part A) (q : Part B) (cp : A → List ℕ) (cq : B → List ℕ) → IsCanonical p cp → IsCanonical q cq → IsCanonical (both p q) (λ x. cp x.0 ++ cq x.1)
both-canonical p q cp cq kp kq = then-canonical p (λ _. q) cp (λ _. cq) kp (λ _. kq)

-- h gives the bytes of the value that was spelled
pub image-canonical : {A B : Type 0} (f : A → B) (p : Part A) (cp : A → List ℕ) (h : B → List ℕ) → IsCanonical p cp → ((x : A) (b : List ℕ) → p.spells x b → cp x ≡ h (f x)) → IsCanonical (image f p) h
image-canonical f p cp h kp same = record {
  spelled = λ y b s. let e : cp s.0 ≡ h y = same s.0 b s.1 ∙ ap h (sym s.2) in (s.0, subst (λ (l : List ℕ). p.spells s.0 l) e (kp.spelled s.0 b s.1), s.2);
  shortest = λ y b s. let e : cp s.0 ≡ h y = same s.0 b s.1 ∙ ap h (sym s.2) in subst (λ (l : List ℕ). length l ≤ length b) e (kp.shortest s.0 b s.1);
  least = λ y b s len. let e : cp s.0 ≡ h y = same s.0 b s.1 ∙ ap h (sym s.2) in subst (λ (l : List ℕ). NoGreater l b) e (kp.least s.0 b s.1 (ap length e ∙ len));
}

pub checked-canonical : {A : Type 0} (test : A → Bool) (reason : Reason) (p : Part A) (cp : A → List ℕ) → IsCanonical p cp → IsCanonical (with_test test reason p) cp
checked-canonical test reason p cp kp = record { spelled = λ x b s. (kp.spelled x b s.0, s.1); shortest = λ x b s. kp.shortest x b s.0; least = λ x b s len. kp.least x b s.0 len }

-- ---- leaves

pub u8-canonical : IsCanonical u8 (λ x. x ∷ [])
unfolding u8
u8-canonical = record { spelled = λ x b s. refl; shortest = λ x b s. omega (arith, ap length s); least = λ x b s len. rw s (omega arith, tt) }

pub u30-canonical : IsCanonical u30 number_bytes
unfolding u30
u30-canonical = checked-canonical _ _ _ _ number-canonical

pub index_below-canonical : (n : ℕ) → IsCanonical (index_below n) number_bytes
unfolding index_below
index_below-canonical n = checked-canonical _ _ _ _ u30-canonical

pub pool_index-canonical : (n : ℕ) → IsCanonical (pool_index n) number_bytes
unfolding pool_index
pool_index-canonical n = checked-canonical _ _ _ _ u30-canonical

pub entry_index-canonical : (n : ℕ) → IsCanonical (entry_index n) number_bytes
unfolding entry_index
entry_index-canonical n = checked-canonical _ _ _ _ u30-canonical

-- ---- many

times_spelled : {A : Type 0} (n : ℕ) (p : Part A) (cp : A → List ℕ) → IsCanonical p cp → (xs : List A) (b : List ℕ) → (times n p).spells xs b → (times n p).spells xs (flat_map cp xs)
times_spelled zero p cp kp xs b s = rw s.0 (refl, refl)
times_spelled (suc n) p cp kp xs b s =
    let x = s.0.0 in
    let rest = s.0.1 in
    let one = kp.spelled x s.1.0 s.1.3 in
    let two = times_spelled n p cp kp rest s.1.1 s.1.4 in
    rw (s.2, flat_map-cons) (s.0, (cp x, flat_map cp rest, refl, one, two), refl)

times_shortest : {A : Type 0} (n : ℕ) (p : Part A) (cp : A → List ℕ) → IsCanonical p cp → (xs : List A) (b : List ℕ) → (times n p).spells xs b → length (flat_map cp xs) ≤ length b
times_shortest zero p cp kp xs b s = rw s.0 (omega arith)
times_shortest (suc n) p cp kp xs b s =
    let x = s.0.0 in
    let rest = s.0.1 in
    let one = kp.shortest x s.1.0 s.1.3 in
    let two = times_shortest n p cp kp rest s.1.1 s.1.4 in
    rw (s.2, flat_map-cons, s.1.2) (omega (arith, one, two, length-append (cp x) (flat_map cp rest), length-append s.1.0 s.1.1))

times_least : {A : Type 0} (n : ℕ) (p : Part A) (cp : A → List ℕ) → IsCanonical p cp → (xs : List A) (b : List ℕ) → (times n p).spells xs b → length (flat_map cp xs) ≡ length b → NoGreater (flat_map cp xs) b
times_least zero p cp kp xs b s len = rw (s.0, s.1) tt
times_least (suc n) p cp kp xs b s len =
    let x = s.0.0 in
    let rest = s.0.1 in
    let long : length (cp x ++ flat_map cp rest) ≡ length (s.1.0 ++ s.1.1) = ap length (sym (flat_map-cons cp x rest) ∙ ap (flat_map cp) (sym s.2)) ∙ len ∙ ap length s.1.2 in
    let h = halves (cp x) (flat_map cp rest) s.1.0 s.1.1 (kp.shortest x s.1.0 s.1.3) (times_shortest n p cp kp rest s.1.1 s.1.4) long in
    let one = kp.least x s.1.0 s.1.3 h.0 in
    let two = times_least n p cp kp rest s.1.1 s.1.4 h.1 in
    rw (s.2, flat_map-cons, s.1.2) (no_greater_append (cp x) (flat_map cp rest) s.1.0 s.1.1 one two)

pub times-canonical : {A : Type 0} (n : ℕ) (p : Part A) (cp : A → List ℕ) → IsCanonical p cp → IsCanonical (times n p) (flat_map cp)
times-canonical n p cp kp = record { spelled = times_spelled n p cp kp; shortest = times_shortest n p cp kp; least = times_least n p cp kp }

pub times_length : {A : Type 0} (n : ℕ) (p : Part A) (xs : List A) (b : List ℕ) → (times n p).spells xs b → length xs ≡ n
times_length zero p xs b s = rw s.0 refl
times_length (suc n) p xs b s = let h = times_length n p s.0.1 s.1.1 s.1.4 in rw s.2 (ap suc h)

pub counted-canonical : {A : Type 0} (p : Part A) (cp : A → List ℕ) → IsCanonical p cp → IsCanonical (count_and_items p) (counted_bytes cp)
unfolding count_and_items counted_bytes
counted-canonical {A = A} p cp kp =
    image-canonical (λ (x : ℕ × List A). x.1) _ (λ x. number_bytes x.0 ++ flat_map cp x.1) (λ xs. number_bytes (length xs) ++ flat_map cp xs)
    (then-canonical u30 (λ n. times n p) number_bytes (λ n. flat_map cp) u30-canonical (λ n. times-canonical n p cp kp))
    (λ x b s. ap (λ (n : ℕ). number_bytes n ++ flat_map cp x.1) (sym (times_length x.0 p x.1 s.1 s.4)))

not_empty : (b : List ℕ) → IsGroups b → 1 ≤ length b
not_empty [] g = absurd g
not_empty (x ∷ b) g = omega arith

zero_spelled : u30.spells 0 (number_bytes 0) × (length (number_bytes 0) ≡ 1)
unfolding u30 number_bytes
zero_spelled = ((number_fits 0 (omega arith), refl), refl)

zero_least : (b : List ℕ) → length (number_bytes 0) ≡ length b → NoGreater (number_bytes 0) b
unfolding number_bytes
zero_least [] len = absurd (omega arith)
zero_least (y ∷ []) len = (omega arith, tt)
zero_least (y ∷ z ∷ b) len = absurd (omega arith)

some_groups : (n : ℕ) (b : List ℕ) → u30.spells n b → IsGroups b
unfolding u30
some_groups n b s = number_groups n b s.0

-- a spelled pool has one entry less than its count, and none at the counts 0 and 1
record BestCount {A : Type 0} (n : ℕ) (xs : List A) (b : List ℕ) : Type 0 where
  spelled : u30.spells (pool_count xs) (number_bytes (pool_count xs))
  short : length (number_bytes (pool_count xs)) ≤ length b
  least : length (number_bytes (pool_count xs)) ≡ length b → NoGreater (number_bytes (pool_count xs)) b
  same : n - 1 ≡ pool_count xs - 1

best_count : {A : Type 0} (n : ℕ) (xs : List A) (b : List ℕ) → length xs ≡ n - 1 → u30.spells n b → BestCount n xs b
best_count n [] b len s = record { spelled = zero_spelled.0; short = omega (arith, zero_spelled.1, not_empty b (some_groups n b s)); least = zero_least b; same = omega (arith, len) }
best_count n (x ∷ xs) b len s =
    let e : n ≡ length xs + 2 = omega (arith, len) in
    record {
      spelled = subst (λ (k : ℕ). u30.spells k (number_bytes k)) e (u30-canonical.spelled n b s);
      short = subst (λ (k : ℕ). length (number_bytes k) ≤ length b) e (u30-canonical.shortest n b s);
      least = subst (λ (k : ℕ). length (number_bytes k) ≡ length b → NoGreater (number_bytes k) b) e (u30-canonical.least n b s);
      same = omega (arith, e);
    }

pub pool_by-canonical : {A : Type 0} (p : ℕ → Part A) (cp : A → List ℕ) → ((n : ℕ) → IsCanonical (p n) cp) → IsCanonical (pool_by p) (pool_bytes cp)
unfolding pool_by pool_bytes
pool_by-canonical {A = A} p cp kp = record {
  spelled = λ xs b s.
      let n = s.0.0 in
      let items = times_spelled (n - 1) (p (n - 1)) cp (kp (n - 1)) s.0.1 s.1.1 s.1.4 in
      let c = best_count n s.0.1 s.1.0 (times_length (n - 1) (p (n - 1)) s.0.1 s.1.1 s.1.4) s.1.3 in
      let moved : (times (pool_count s.0.1 - 1) (p (pool_count s.0.1 - 1))).spells s.0.1 (flat_map cp s.0.1) = subst (λ (k : ℕ). (times k (p k)).spells s.0.1 (flat_map cp s.0.1)) c.same items in
      rw s.2 ((pool_count s.0.1, s.0.1), (number_bytes (pool_count s.0.1), flat_map cp s.0.1, refl, c.spelled, moved), refl);
  shortest = λ xs b s.
      let n = s.0.0 in
      let items = times_shortest (n - 1) (p (n - 1)) cp (kp (n - 1)) s.0.1 s.1.1 s.1.4 in
      let c = best_count n s.0.1 s.1.0 (times_length (n - 1) (p (n - 1)) s.0.1 s.1.1 s.1.4) s.1.3 in
      rw (s.2, s.1.2) (omega (arith, items, c.short, length-append s.1.0 s.1.1, length-append (number_bytes (pool_count s.0.1)) (flat_map cp s.0.1)));
  least = λ xs b s len.
      let n = s.0.0 in
      let items = times_shortest (n - 1) (p (n - 1)) cp (kp (n - 1)) s.0.1 s.1.1 s.1.4 in
      let c = best_count n s.0.1 s.1.0 (times_length (n - 1) (p (n - 1)) s.0.1 s.1.1 s.1.4) s.1.3 in
      let long : length (number_bytes (pool_count s.0.1) ++ flat_map cp s.0.1) ≡ length (s.1.0 ++ s.1.1) = ap (λ (l : List A). length (number_bytes (pool_count l) ++ flat_map cp l)) (sym s.2) ∙ len ∙ ap length s.1.2 in
      let h = halves (number_bytes (pool_count s.0.1)) (flat_map cp s.0.1) s.1.0 s.1.1 c.short items long in
      let rest = times_least (n - 1) (p (n - 1)) cp (kp (n - 1)) s.0.1 s.1.1 s.1.4 h.1 in
      rw (s.2, s.1.2) (no_greater_append (number_bytes (pool_count s.0.1)) (flat_map cp s.0.1) s.1.0 s.1.1 (c.least h.0) rest);
}

pub pool-canonical : {A : Type 0} (p : Part A) (cp : A → List ℕ) → IsCanonical p cp → IsCanonical (pool p) (pool_bytes cp)
unfolding pool pool_by
pool-canonical p cp kp = pool_by-canonical (λ n. p) cp (λ n. kp)

-- the same bytes, written otherwise
pub same-canonical : {A : Type 0} (p : Part A) (f h : A → List ℕ) → ((x : A) → f x ≡ h x) → IsCanonical p f → IsCanonical p h
same-canonical {A = A} p f h e k = record {
  spelled = λ x b s. subst (λ (l : List ℕ). p.spells x l) (e x) (k.spelled x b s);
  shortest = λ x b s. subst (λ (l : List ℕ). length l ≤ length b) (e x) (k.shortest x b s);
  least = λ x b s len. subst (λ (l : List ℕ). NoGreater l b) (e x) (k.least x b s (ap length (e x) ∙ len));
}

-- ---- every number that fits

pub u30_fits : (x : ℕ) → x < 2 ^ 30 → u30.spells x (number_bytes x)
unfolding u30
u30_fits x lt = (number_fits x (omega arith), lt-ltb x (2 ^ 30) lt)

-- ---- 24 bits

low_fits : (z : ℤ) → FitsS24 z → low24 z < 2 ^ 24
low_fits (pos n) f = omega (arith, ints, f.1)
low_fits (negsuc n) f = omega arith

signed_low : (z : ℤ) → FitsS24 z → signed24 (low24 z) ≡ z
signed_low (pos n) f = let lt : n < 2 ^ 23 = omega (arith, ints, f.1) in rw (lt-ltb n (2 ^ 23) lt) refl
signed_low (negsuc n) f =
    let le : n ≤ 8388607 = omega (arith, ints, f.0) in
    let no : 2 ^ 23 ≤ 2 ^ 24 - suc n = omega arith in
    rw (le-ltb (2 ^ 24 - suc n) (2 ^ 23) no) (omega (arith, ints))

pub s24_fits : (z : ℤ) → FitsS24 z → s24.spells z (s24_bytes z)
unfolding s24 s24_bytes u8
s24_fits z f =
    let l = low24 z in
    let lt : l < 2 ^ 24 = low_fits z f in
    let sum : l % 256 % 256 + 256 * (l / 256 % 256 % 256) + 65536 * (l / 65536 % 256) ≡ l = omega arith in
    ((l % 256, (l / 256 % 256, l / 65536)), (l % 256 ∷ [], l / 256 % 256 ∷ l / 65536 ∷ [], refl, refl, (l / 256 % 256 ∷ [], l / 65536 ∷ [], refl, refl, refl)), sym (ap signed24 sum ∙ signed_low z f))

pub s24_length : (z : ℤ) → length (s24_bytes z) ≡ 3
unfolding s24_bytes
s24_length z = refl

pub s24_three : (z : ℤ) (b : List ℕ) → s24.spells z b → length b ≡ 3
unfolding s24 u8
s24_three z b s =
    let t = s.1 in
    let u = t.4 in
    omega (arith, ap length t.2, length-append t.0 t.1, ap length t.3, ap length u.2, length-append u.0 u.1, ap length u.3, ap length u.4)

pub s24s_three : (n : ℕ) (zs : List ℤ) (b : List ℕ) → (times n s24).spells zs b → (length zs ≡ n) × (length b ≡ 3 * n)
s24s_three zero zs b s = rw s.0 (refl, ap length s.1)
s24s_three (suc n) zs b s =
    let one = s24_three s.0.0 s.1.0 s.1.3 in
    let more = s24s_three n s.0.1 s.1.1 s.1.4 in
    rw s.2 (ap suc more.0, omega (arith, ap length s.1.2, length-append s.1.0 s.1.1, one, more.1))

-- the bytes that a flag asks for
pub when-canonical : {A : Type 0} (flag : Bool) (x : A) (p : Part A) (cp : A → List ℕ) → IsCanonical p cp → IsCanonical (when flag x p) (λ y. cond flag (cp y) [])
unfolding when
when-canonical true x p cp kp = kp
when-canonical false x p cp kp = done-canonical x (λ y. []) refl

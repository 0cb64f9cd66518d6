-- Which values some bytes spell, for each way to make a part.
use Rattle.std.proofs.Common.{◌≡◌, ℕ, ℤ, zero, suc, ◌+◌, ◌-◌, ◌%◌, ◌^◌, ◌<◌, ◌≤◌, Bool, true, false, List, [], ◌∷◌, ◌++◌, length, get_or, refl, sym, ap, subst, ◌∙◌, arith}
use Rattle.std.specs.Prelude.{◌↔◌, ◌&&◌, All, FitsSigned, nat_le}
use Rattle.std.specs.Int.{w32, cast_signed, cast_unsigned}
use Rattle.std.proofs.lemmas.Bool.{lt-ltb, ltb-true}
use Rattle.std.proofs.lemmas.Bool.Decides.{nat_tests}
use Rattle.std.proofs.lemmas.Int.{ints, to_z-of_z}
use Rattle.std.proofs.lemmas.List.Elements.{All-cons, All-head, All-nil, All-same, All-tail}
use Rattle.abc_base.specs.Numbers.{number_bytes}
use Rattle.abc_base.proofs.Spelling.{number_fits as spells}
use Rattle.abc_file_types.specs.declared.reason.Reason.{Reason}
use Rattle.abc_file_types.specs.Lists.{count_and_items, pool, pool_by, bytes_with_count, times}
use Rattle.abc_file_types.specs.Numbers.{entry_index, index_below, pool_index, s32, u30, u32, u8}
use Rattle.abc_file_types.specs.Part.{Part, both, with_test, known_value, image, then_by, when}
use Rattle.abc_file_types.proofs.Canon.{times_length}
use Rattle.abc_tables.specs.Fitting.{FitsText, IsEntryIndex, FitsNumber, IsPoolIndex, IsPosition, Spelled}

-- ---- one after the other

pub done_is : {A : Type 0} (x y : A) → Spelled (known_value x) y → y ≡ x
done_is x y s = s.is.0

pub done_spelled : {A : Type 0} (x y : A) → y ≡ x → Spelled (known_value x) y
done_spelled x y e = record { bytes = []; is = (e, refl) }

pub then_parts : {A B : Type 0} (p : Part A) (f : A → Part B) (x : A × B) → Spelled (then_by p f) x → Spelled p x.0 × Spelled (f x.0) x.1
then_parts p f x s = (record { bytes = s.is.0; is = s.is.3 }, record { bytes = s.is.1; is = s.is.4 })

pub then_spelled : {A B : Type 0} (p : Part A) (f : A → Part B) (x : A × B) → Spelled p x.0 → Spelled (f x.0) x.1 → Spelled (then_by p f) x
then_spelled p f x s t = record { bytes = s.bytes ++ t.bytes; is = (s.bytes, t.bytes, refl, s.is, t.is) }

-- a value of the part whose image this is
pub record Comes {A B : Type 0} (f : A → B) (p : Part A) (y : B) : Type 0 where
  pub from : A
  pub spelled : Spelled p from
  pub is : y ≡ f from

pub image_comes : {A B : Type 0} (f : A → B) (p : Part A) (y : B) → Spelled (image f p) y → Comes f p y
image_comes f p y s = record { from = s.is.0; spelled = record { bytes = s.bytes; is = s.is.1 }; is = s.is.2 }

pub image_spelled : {A B : Type 0} (f : A → B) (p : Part A) (x : A) (y : B) → y ≡ f x → Spelled p x → Spelled (image f p) y
image_spelled f p x y e s = record { bytes = s.bytes; is = (x, s.is, e) }

pub checked_parts : {A : Type 0} (test : A → Bool) (reason : Reason) (p : Part A) (x : A) → Spelled (with_test test reason p) x → Spelled p x × (test x ≡ true)
checked_parts test reason p x s = (record { bytes = s.bytes; is = s.is.0 }, s.is.1)

pub checked_spelled : {A : Type 0} (test : A → Bool) (reason : Reason) (p : Part A) (x : A) → Spelled p x → test x ≡ true → Spelled (with_test test reason p) x
checked_spelled test reason p x s e = record { bytes = s.bytes; is = (s.is, e) }

-- ---- where a flag asks for it

pub asked : {A : Type 0} (flag : Bool) (x y : A) (p : Part A) → flag ≡ true → Spelled (when flag x p) y ↔ Spelled p y
unfolding when
asked true x y p e = (λ s. s, λ s. s)
asked false x y p e = absurd cc

pub unasked : {A : Type 0} (flag : Bool) (x y : A) (p : Part A) → flag ≡ false → Spelled (when flag x p) y ↔ (y ≡ x)
unfolding when
unasked true x y p e = absurd cc
unasked false x y p e = (done_is x y, done_spelled x y)

-- ---- numbers

pub byte_spelled : (x : ℕ) → Spelled u8 x
unfolding u8
byte_spelled x = record { bytes = x ∷ []; is = refl }

pub number_fits : (x : ℕ) → FitsNumber x ↔ (x < 2 ^ 30)
unfolding FitsNumber u30
number_fits x = (λ s. ltb-true x (2 ^ 30) s.is.1, λ lt. record { bytes = number_bytes x; is = (spells x (omega arith), lt-ltb x (2 ^ 30) lt) })

pub u32_spelled : (x : ℕ) → x < 2 ^ 32 → Spelled u32 x
unfolding u32
u32_spelled x lt = record { bytes = number_bytes x; is = (x, spells x (omega arith), omega arith) }

pub s32_spelled : (z : ℤ) → FitsSigned w32 z → Spelled s32 z
unfolding s32
s32_spelled z fits =
    let n = cast_unsigned w32 z in
    let lt : n < 2 ^ 32 = omega (arith, ints) in
    let small : n % 2 ^ 32 ≡ n = omega arith in
    record { bytes = number_bytes n; is = (n, spells n (omega arith), sym (ap (cast_signed w32) small ∙ to_z-of_z w32 z fits)) }

pub position_fits : (n x : ℕ) → IsPosition n x ↔ ((x < n) × (x < 2 ^ 30))
unfolding IsPosition FitsNumber index_below
position_fits n x = (
  λ s. (ltb-true x n s.is.1, (number_fits x).0 (record { bytes = s.bytes; is = s.is.0 })),
  λ h. checked_spelled _ _ u30 x ((number_fits x).1 h.1) (lt-ltb x n h.0),
)

in_pool : (n x : ℕ) → (nat_le x n ≡ true) ↔ (x ≤ n)
in_pool n x = (λ e. grind (arith, nat_tests), λ le. grind (arith, nat_tests))

of_entry : (n x : ℕ) → (nat_le 1 x && nat_le x n ≡ true) ↔ ((1 ≤ x) × (x ≤ n))
of_entry n x = (λ e. grind (arith, nat_tests), λ le. grind (arith, nat_tests))

pub pool_index_fits : (n x : ℕ) → IsPoolIndex n x ↔ ((x ≤ n) × (x < 2 ^ 30))
unfolding IsPoolIndex FitsNumber pool_index
pool_index_fits n x = (
  λ s. ((in_pool n x).0 s.is.1, (number_fits x).0 (record { bytes = s.bytes; is = s.is.0 })),
  λ h. checked_spelled _ _ u30 x ((number_fits x).1 h.1) ((in_pool n x).1 h.0),
)

pub entry_index_fits : (n x : ℕ) → IsEntryIndex n x ↔ ((1 ≤ x) × (x ≤ n) × (x < 2 ^ 30))
unfolding IsEntryIndex FitsNumber entry_index
entry_index_fits n x = (
  λ s. let b = (of_entry n x).0 s.is.1 in (b.0, b.1, (number_fits x).0 (record { bytes = s.bytes; is = s.is.0 })),
  λ h. checked_spelled _ _ u30 x ((number_fits x).1 h.2) ((of_entry n x).1 (h.0, h.1)),
)

-- ---- lists

times_each : {A : Type 0} (n : ℕ) (p : Part A) (xs : List A) (b : List ℕ) → (times n p).spells xs b → All (Spelled p) xs
times_each zero p xs b s = All-same (Spelled p) xs [] s.0 (All-nil (Spelled p))
times_each (suc n) p xs b s =
    All-same (Spelled p) xs (s.0.0 ∷ s.0.1) s.2 (All-cons (Spelled p) s.0.0 s.0.1 (record { bytes = s.1.0; is = s.1.3 }) (times_each n p s.0.1 s.1.1 s.1.4))

each_times : {A : Type 0} (p : Part A) (xs : List A) → All (Spelled p) xs → Spelled (times (length xs) p) xs
each_times p [] all = done_spelled [] [] refl
each_times p (x ∷ xs) all =
    image_spelled (λ y. y.0 ∷ y.1) (both p (times (length xs) p)) (x, xs) (x ∷ xs) refl
    (then_spelled p (λ _. times (length xs) p) (x, xs) (All-head (Spelled p) x xs all) (each_times p xs (All-tail (Spelled p) x xs all)))

pub times_spelled : {A : Type 0} (n : ℕ) (p : Part A) (xs : List A) → Spelled (times n p) xs ↔ ((length xs ≡ n) × All (Spelled p) xs)
times_spelled n p xs = (
  λ s. (times_length n p xs s.bytes s.is, times_each n p xs s.bytes s.is),
  λ h. subst (λ (k : ℕ). Spelled (times k p) xs) h.0 (each_times p xs h.1),
)

-- a count of some form, and that many of the part
pub listed_spelled : {A : Type 0} (q : Part ℕ) (p : Part A) (xs : List A) → Spelled (image (λ x. x.1) (then_by q (λ n. times n p))) xs ↔ (Spelled q (length xs) × All (Spelled p) xs)
listed_spelled {A = A} q p xs = (
  λ s.
      let c = image_comes (λ (x : ℕ × List A). x.1) (then_by q (λ n. times n p)) xs s in
      let t = then_parts q (λ n. times n p) c.from c.spelled in
      let each = (times_spelled c.from.0 p c.from.1).0 t.1 in
      let count = subst (Spelled q) (sym each.0) t.0 in
      subst (λ (ys : List A). Spelled q (length ys) × All (Spelled p) ys) (sym c.is) (count, each.1),
  λ h.
      image_spelled (λ (x : ℕ × List A). x.1) (then_by q (λ n. times n p)) (length xs, xs) xs refl
      (then_spelled q (λ n. times n p) (length xs, xs) h.0 (each_times p xs h.1)),
)

pub counted_spelled : {A : Type 0} (p : Part A) (xs : List A) → Spelled (count_and_items p) xs ↔ ((length xs < 2 ^ 30) × All (Spelled p) xs)
unfolding FitsNumber count_and_items
counted_spelled p xs =
    let listed = listed_spelled u30 p xs in
    let count = number_fits (length xs) in
    (λ s. let h = listed.0 s in (count.0 h.0, h.1), λ h. listed.1 (count.1 h.0, h.1))

pub pool_by_spelled : {A : Type 0} (p : ℕ → Part A) (xs : List A) → Spelled (pool_by p) xs ↔ ((length xs + 1 < 2 ^ 30) × All (Spelled (p (length xs))) xs)
unfolding FitsNumber pool_by
pool_by_spelled {A = A} p xs = (
  λ s.
      let c = image_comes (λ (x : ℕ × List A). x.1) (then_by u30 (λ n. times (n - 1) (p (n - 1)))) xs s in
      let t = then_parts u30 (λ n. times (n - 1) (p (n - 1))) c.from c.spelled in
      let each = (times_spelled (c.from.0 - 1) (p (c.from.0 - 1)) c.from.1).0 t.1 in
      let count : length c.from.1 + 1 < 2 ^ 30 = omega (arith, each.0, (number_fits c.from.0).0 t.0) in
      let all : All (Spelled (p (length c.from.1))) c.from.1 = subst (λ (k : ℕ). All (Spelled (p k)) c.from.1) (sym each.0) each.1 in
      subst (λ (ys : List A). (length ys + 1 < 2 ^ 30) × All (Spelled (p (length ys))) ys) (sym c.is) (count, all),
  λ h.
      image_spelled (λ (x : ℕ × List A). x.1) (then_by u30 (λ n. times (n - 1) (p (n - 1)))) (length xs + 1, xs) xs refl
      (then_spelled u30 (λ n. times (n - 1) (p (n - 1))) (length xs + 1, xs) ((number_fits (length xs + 1)).1 h.0)
      (subst (λ (k : ℕ). Spelled (times k (p k)) xs) (omega arith) (each_times (p (length xs)) xs h.1))),
)

pub pool_spelled : {A : Type 0} (p : Part A) (xs : List A) → Spelled (pool p) xs ↔ ((length xs + 1 < 2 ^ 30) × All (Spelled p) xs)
unfolding pool pool_by
pool_spelled p xs = pool_by_spelled (λ n. p) xs

-- any bytes
pub every_byte : (b : List ℕ) → All (Spelled u8) b
every_byte b = λ k d lt. byte_spelled (get_or b k d)

pub text_fits : (b : List ℕ) → FitsText b ↔ (length b < 2 ^ 30)
unfolding FitsText bytes_with_count
text_fits b = let c = counted_spelled u8 b in (λ s. (c.0 s).0, λ lt. c.1 (lt, every_byte b))

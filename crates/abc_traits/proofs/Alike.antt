-- Parts that read alike: wherever they begin, they answer the same.
use Rattle.std.proofs.Common.{◌≡◌, ℕ, zero, suc, ◌^◌, ◌<◌, Bool, true, false, cond, Ok, Err, refl, sym, ap, subst, ◌∙◌}
use Rattle.std.specs.Prelude.{nat_lt}
use Rattle.std.specs.declared.result.Result.{Result}
use Rattle.std.proofs.lemmas.Bool.{ltb-true}
use Rattle.abc_file_types.specs.declared.reason.Reason.{Reason}
use Rattle.abc_file_types.specs.Part.{At, Part, Refusal, refusal, with_test, known_value, image, then_by, when, ◌>>=◌}
use Rattle.abc_file_types.specs.Numbers.{number, u30}
use Rattle.abc_file_types.specs.Lists.{times, count_and_items}
use Rattle.abc_file_types.proofs.Exact.{bind_ok, ok_is}

pub record Alike {A : Type 0} (p q : Part A) : Type 0 where
  pub same : (from : At) → p.reads from ≡ q.reads from

pub alike_refl : {A : Type 0} (p : Part A) → Alike p p
alike_refl p = record { same = λ from. refl }

pub alike_sym : {A : Type 0} (p q : Part A) → Alike p q → Alike q p
alike_sym p q h = record { same = λ from. sym (h.same from) }

pub alike_trans : {A : Type 0} (p q r : Part A) → Alike p q → Alike q r → Alike p r
alike_trans p q r h k = record { same = λ from. h.same from ∙ k.same from }

pub image-alike : {A B : Type 0} (f : A → B) (p q : Part A) → Alike p q → Alike (image f p) (image f q)
image-alike f p q h = record { same = λ from. rw (h.same from) refl }

abbrev followed : {A B : Type 0} → (A → Part B) → A × At → Result ((A × B) × At) Refusal
followed f x = (f x.0).reads x.1 >>= λ y. Ok ((x.0, y.0), y.1)

follows_alike : {A B : Type 0} (f g : A → Part B) → ((x : A) → Alike (f x) (g x)) → (r : Result (A × At) Refusal) → (r >>= followed f) ≡ (r >>= followed g)
follows_alike f g h (Ok x) = rw ((h x.0).same x.1) refl
follows_alike f g h (Err e) = refl

pub then-alike : {A B : Type 0} (p q : Part A) (f g : A → Part B) → Alike p q → ((x : A) → Alike (f x) (g x)) → Alike (then_by p f) (then_by q g)
then-alike p q f g h k = record { same = λ from. rw (h.same from) (follows_alike f g k (q.reads from)) }

pub times-alike : {A : Type 0} (n : ℕ) (p q : Part A) → Alike p q → Alike (times n p) (times n q)
times-alike zero p q h = alike_refl (times zero p)
times-alike (suc n) p q h = image-alike _ _ _ (then-alike p q _ _ h (λ x. times-alike n p q h))

pub counted-alike : {A : Type 0} (p q : Part A) → Alike p q → Alike (count_and_items p) (count_and_items q)
unfolding count_and_items
counted-alike p q h = image-alike _ _ _ (then-alike u30 u30 _ _ (alike_refl u30) (λ n. times-alike n p q h))

pub when-alike : {A : Type 0} (flag : Bool) (x : A) (p q : Part A) → Alike p q → Alike (when flag x p) (when flag x q)
unfolding when
when-alike true x p q h = h
when-alike false x p q h = alike_refl (known_value x)

-- ---- tests

abbrev tested : {A : Type 0} → (A → Bool) → Reason → At → A × At → Result (A × At) Refusal
tested test reason from x = cond (test x.0) (Ok x) (Err (refusal from.place reason))

tested_alike : {A : Type 0} (test other : A → Bool) (reason : Reason) (from : At) (r : Result (A × At) Refusal) → ((x : A) (after : At) → r ≡ Ok (x, after) → test x ≡ other x) → (r >>= tested test reason from) ≡ (r >>= tested other reason from)
tested_alike test other reason from (Ok x) h = rw (h x.0 x.1 refl) refl
tested_alike test other reason from (Err e) h = refl

-- the tests need to agree only on what is read
pub checked-alike : {A : Type 0} (test other : A → Bool) (reason : Reason) (p : Part A) → ((from : At) (x : A) (after : At) → p.reads from ≡ Ok (x, after) → test x ≡ other x) → Alike (with_test test reason p) (with_test other reason p)
checked-alike test other reason p h = record { same = λ from. tested_alike test other reason from (p.reads from) (h from) }

passed : {A : Type 0} (b : Bool) (x y : A × At) (e : Refusal) → cond b (Ok x) (Err e) ≡ Ok y → (b ≡ true) × (x ≡ y)
passed true x y e h = (refl, ok_is x y h)
passed false x y e h = absurd cc

-- what is read as a number is below 2^30
pub u30_below : (from : At) (x : ℕ) (after : At) → u30.reads from ≡ Ok (x, after) → x < 2 ^ 30
unfolding u30
u30_below from x after h =
    let a = bind_ok (number.reads from) _ (x, after) h in
    let b = passed (nat_lt a.0.0 (2 ^ 30)) a.0 (x, after) _ a.2 in
    let same : a.0.0 ≡ x = ap (λ (z : ℕ × At). z.0) b.1 in
    rw (← same) (ltb-true a.0.0 (2 ^ 30) b.0)

-- the first of two
pub first_read : {A B : Type 0} (p : Part A) (f : A → Part B) (from : At) (x : A × B) (after : At) → (then_by p f).reads from ≡ Ok (x, after) → (mid : At) × (p.reads from ≡ Ok (x.0, mid))
first_read {A = A} {B = B} p f from x after h =
    let a = bind_ok (p.reads from) (followed f) (x, after) h in
    let b = bind_ok ((f a.0.0).reads a.0.1) (λ y. Ok ((a.0.0, y.0), y.1)) (x, after) a.2 in
    let made : (A × B) × At = ((a.0.0, b.0.0), b.0.1) in
    let same : a.0.0 ≡ x.0 = ap (λ (z : (A × B) × At). z.0.0) (ok_is made (x, after) b.2) in
    (a.0.1, subst (λ (y : A). p.reads from ≡ Ok (y, a.0.1)) same a.1)

abbrev imaged : {A B : Type 0} → (A → B) → A × At → Result (B × At) Refusal
imaged f x = Ok (f x.0, x.1)

twice : {A B C : Type 0} (f : B → C) (g : A → B) (r : Result (A × At) Refusal) → ((r >>= imaged g) >>= imaged f) ≡ (r >>= imaged (λ x. f (g x)))
twice f g (Ok x) = refl
twice f g (Err e) = refl

pub image_image : {A B C : Type 0} (f : B → C) (g : A → B) (p : Part A) → Alike (image f (image g p)) (image (λ x. f (g x)) p)
image_image f g p = record { same = λ from. twice f g (p.reads from) }

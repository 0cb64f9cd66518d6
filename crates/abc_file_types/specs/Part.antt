-- Parts of a format: which bytes spell a value, which first fault refuses them, and how they are read
-- (a tool of other definitions; profile: docs/FORMAT.md, "What is refused", for first faults).
use Rattle.std.specs.Prelude.{◌≡◌, ℕ, ◌+◌, ◌^◌, ◌<◌, ◌≤◌, ◌⊎◌, Bool, true, false, List, [], ◌++◌, length, Ok, Err, if◌then◌else◌}
use Rattle.std.specs.declared.result.Result.{Result}
use Rattle.abc_file_types.specs.declared.reason.Reason.{Reason}

-- the bytes from a place on; places count from 0
pub record At : Type 0 where
  pub place : ℕ
  pub bytes : List ℕ
  -- no byte from this place on is looked at
  pub end : ℕ

pub record Refusal : Type 0 where
  pub place : ℕ
  pub reason : Reason

-- the end where none is set: no byte has such a place
abbrev pub no_end : ℕ
no_end = 2 ^ 25

abbrev pub at_of : ℕ → List ℕ → At
at_of n b = record { place = n; bytes = b; end = no_end }

-- further on, with the same end
abbrev pub further : At → ℕ → List ℕ → At
further from n b = record { place = n; bytes = b; end = from.end }

abbrev pub refusal : ℕ → Reason → Refusal
refusal n r = record { place = n; reason = r }

-- the greatest file: a byte at this place is too far
abbrev pub limit : ℕ
limit = 2 ^ 24

infixl 10 ◌>>=◌
abbrev pub ◌>>=◌ : {A B : Type 0} → Result A Refusal → (A → Result B Refusal) → Result B Refusal
(Ok x) >>= f = f x
(Err e) >>= f = Err e

-- A part of the format, with values in A.
pub record Part (A : Type 0) : Type 1 where
  -- the bytes spell the value
  pub spells : A → List ℕ → Type 0
  -- what is read from here is refused so
  pub bad : At → Refusal → Type 0
  -- the value and what comes after it, or the refusal
  pub reads : At → Result (A × At) Refusal

-- A front of the bytes, within the greatest file and before the end, and what comes after it.
pub record Front (from : At) (front : List ℕ) (after : At) : Type 0 where
  pub parts : from.bytes ≡ front ++ after.bytes
  pub place : after.place ≡ from.place + length front
  pub room : after.place ≤ limit
  pub same : after.end ≡ from.end
  pub within : 0 < length front → after.place ≤ from.end

-- A front of the bytes spells x.
pub record Begins {A : Type 0} (p : Part A) (from : At) (x : A) (after : At) : Type 0 where
  pub front : List ℕ
  pub spelled : p.spells x front
  pub is : Front from front after

-- nothing, for a value that is known
abbrev pub known_value : {A : Type 0} → A → Part A
known_value x = record {
  spells = λ y b. (y ≡ x) × (b ≡ []);
  bad = λ from r. ⊥;
  reads = λ from. Ok (x, from);
}

-- one part, and then one that depends on its value
abbrev pub then_by : {A B : Type 0} → Part A → (A → Part B) → Part (A × B)
then_by {A = A} p f = record {
  spells = λ x b. (b1 : List ℕ) × (b2 : List ℕ) × (b ≡ b1 ++ b2) × p.spells x.0 b1 × (f x.0).spells x.1 b2;
  bad = λ from r. p.bad from r ⊎ ((x : A) × (after : At) × Begins p from x after × (f x).bad after r);
  reads = λ from. p.reads from >>= λ x. (f x.0).reads x.1 >>= λ y. Ok ((x.0, y.0), y.1);
}

-- one part, and then another
abbrev pub both : {A B : Type 0} → Part A → Part B → Part (A × B)
both p q = then_by p (λ _. q)

-- the values of a part, as others
abbrev pub image : {A B : Type 0} → (A → B) → Part A → Part B
image {A = A} f p = record {
  spells = λ y b. (x : A) × p.spells x b × (y ≡ f x);
  bad = λ from r. p.bad from r;
  reads = λ from. p.reads from >>= λ x. Ok (f x.0, x.1);
}

-- a part whose value is tested once it is read; the refusal has the place of its first byte
abbrev pub with_test : {A : Type 0} → (A → Bool) → Reason → Part A → Part A
with_test {A = A} test reason p = record {
  spells = λ x b. p.spells x b × (test x ≡ true);
  bad = λ from r. p.bad from r ⊎ ((x : A) × (after : At) × Begins p from x after × (test x ≡ false) × (r ≡ refusal from.place reason));
  reads = λ from. p.reads from >>= λ x. if test x.0 then Ok x else Err (refusal from.place reason);
}

abbrev pub at_offset : {B : Type 0} → ℕ → At → Result B Refusal → Result (B × At) Refusal
at_offset place after (Ok y) = Ok (y, after)
at_offset place after (Err e) = Err (refusal (place + e.place) e.reason)

-- a part whose value is looked into once it is read; it may be refused, at an offset from its first byte
abbrev pub map_or_refuse : {A B : Type 0} → (A → Result B Refusal) → Part A → Part B
map_or_refuse {A = A} f p = record {
  spells = λ y b. (x : A) × p.spells x b × (f x ≡ Ok y);
  bad = λ from r. p.bad from r ⊎ ((x : A) × (after : At) × Begins p from x after × (offset : Refusal) × (f x ≡ Err offset) × (r ≡ refusal (from.place + offset.place) offset.reason));
  reads = λ from. p.reads from >>= λ x. at_offset from.place x.1 (f x.0);
}

abbrev pub when_by : {A : Type 0} → Bool → A → Part A → Part A
when_by true x p = p
when_by false x p = known_value x

-- the part where a flag asks for it, and nothing, for a value that is known, where it does not
unfoldable pub when : {A : Type 0} → Bool → A → Part A → Part A
when = when_by

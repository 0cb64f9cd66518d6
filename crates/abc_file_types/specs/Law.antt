-- What a part promises.
use Rattle.std.specs.Prelude.{◌≡◌, ◌≤◌, ◌⊎◌, Ok, Err}
use Rattle.abc_file_types.specs.Part.{Part, At, Refusal, Begins, limit}

-- Reading answers Ok exactly where a front spells the value, and Err exactly where the bytes are bad.
pub record Exact {A : Type 0} (p : Part A) : Type 0 where
  pub found : (from : At) (x : A) (after : At) → from.place ≤ limit → p.reads from ≡ Ok (x, after) → Begins p from x after
  pub again : (from : At) (x : A) (after : At) → Begins p from x after → p.reads from ≡ Ok (x, after)
  pub refused : (from : At) (r : Refusal) → from.place ≤ limit → p.reads from ≡ Err r → p.bad from r
  pub refuses : (from : At) (r : Refusal) → p.bad from r → p.reads from ≡ Err r

-- Some front of the bytes spells exactly one value, or they are bad at exactly one place for one reason, and never both.
pub record IsDetermined {A : Type 0} (p : Part A) : Type 0 where
  pub some : (from : At) → from.place ≤ limit → ((x : A) × (after : At) × Begins p from x after) ⊎ ((r : Refusal) × p.bad from r)
  pub one_value : (from : At) (x y : A) (a b : At) → Begins p from x a → Begins p from y b → (x ≡ y) × (a ≡ b)
  pub one_refusal : (from : At) (r s : Refusal) → p.bad from r → p.bad from s → r ≡ s
  pub never_both : (from : At) (x : A) (a : At) (r : Refusal) → Begins p from x a → p.bad from r → ⊥

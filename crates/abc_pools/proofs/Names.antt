-- A pool whose entries may name one another, read as one whose entries are read by how many there are.
use Rattle.std.proofs.Common.{◌≡◌, ℕ, ◌-◌, List, Ok, Err, length, subst, ◌∙◌}
use Rattle.std.specs.declared.result.Result.{Result}
use Rattle.abc_file_types.specs.Lists.{pool, pool_by, times}
use Rattle.abc_file_types.specs.Numbers.{u30}
use Rattle.abc_file_types.specs.Part.{Part, At, Refusal, ◌>>=◌}
use Rattle.abc_varint.proofs.Passing.{times_count}

module _ {A : Type 0} (p : ℕ → Part A) (m : ℕ) (xs : List A) (to : At) where
  abbrev beside : ℕ → List A × At → Result ((ℕ × List A) × At) Refusal
  beside n y = Ok ((n, y.0), y.1)

  abbrev listed : (ℕ × List A) × At → Result (List A × At) Refusal
  listed x = Ok (x.0.1, x.1)

  -- the entries after a count, each read as where there are k of them
  abbrev after : ℕ → ℕ × At → Result ((ℕ × List A) × At) Refusal
  after k n = (times (n.0 - 1) (p k)).reads n.1 >>= beside n.0

  entries : (n : ℕ) (r : Result (List A × At) Refusal) → ((r >>= beside n) >>= listed) ≡ Ok (xs, to) → r ≡ Ok (xs, to)
  entries n (Ok y) e = e
  entries n (Err f) e = absurd cc

  counted_so : (n : ℕ × At) → (after m n >>= listed) ≡ Ok (xs, to) → m ≡ length xs → (after (n.0 - 1) n >>= listed) ≡ Ok (xs, to)
  counted_so n e count =
      let same : m ≡ n.0 - 1 = count ∙ times_count (n.0 - 1) (p m) n.1 to xs (entries n.0 ((times (n.0 - 1) (p m)).reads n.1) e) in
      subst (λ (k : ℕ). (after k n >>= listed) ≡ Ok (xs, to)) same e

  by_count : (r : Result (ℕ × At) Refusal) → ((r >>= after m) >>= listed) ≡ Ok (xs, to) → m ≡ length xs → ((r >>= λ n. after (n.0 - 1) n) >>= listed) ≡ Ok (xs, to)
  by_count (Ok n) e count = counted_so n e count
  by_count (Err f) e count = absurd cc

  pub in_pool : (from : At) → (pool (p m)).reads from ≡ Ok (xs, to) → m ≡ length xs → (pool_by p).reads from ≡ Ok (xs, to)
  unfolding pool pool_by
  in_pool from e count = by_count (u30.reads from) e count

-- Numbers that are listed one after the other.
use Rattle.std.proofs.Common.{◌≡◌, ℕ, ◌+◌, ◌<◌, ◌≤◌, ◌⊎◌, inl, inr, List, [], ◌∷◌, ◌++◌, Contains, sym, subst, arith}
use Rattle.std.proofs.lemmas.Bool.{cases_lt}
use Rattle.std.proofs.lemmas.List.Elements.{Contains-append_left, Contains-push}
use Rattle.abc_link_interfaces.specs.Sets.{ListsBelow}

pub none_listed : (nodes : List ℕ) → ListsBelow nodes 0
none_listed nodes = record { lists = λ k lt. absurd (omega arith) }

pub next_listed : (old new : List ℕ) (n : ℕ) → ListsBelow old n → new ≡ old ++ n ∷ [] → ListsBelow new (n + 1)
next_listed old new n h e = subst (λ (ns : List ℕ). ListsBelow ns (n + 1)) (sym e) (record { lists = λ k lt. go k lt (cases_lt k n) })
  where
    go : (k : ℕ) → k < n + 1 → (k < n) ⊎ (n ≤ k) → Contains (old ++ n ∷ []) k
    go k lt (inl low) = Contains-append_left old (n ∷ []) k (h.lists k low)
    go k lt (inr high) = let q : n ≡ k = omega arith in subst (λ m. Contains (old ++ n ∷ []) m) q (Contains-push old n)

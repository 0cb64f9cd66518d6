-- A walk over values: whether some bytes spell each, and how many bytes they have.
use Rattle.std.proofs.Common.{◌≡◌, ℕ, ◌+◌, ◌-◌, ◌^◌, ◌<◌, ◌≤◌, List, [], ◌∷◌, ◌++◌, get_or, length, min, take, sym, ap, subst, ◌∙◌, arith}
use Rattle.std.specs.Prelude.{All}
use Rattle.std.specs.List.{sum_by}
use Rattle.std.proofs.lemmas.List.{take_all, take_more}
use Rattle.std.proofs.lemmas.List.Elements.{All-nil, All-push}
use Rattle.std.proofs.lemmas.List.Sums.{sum_by_more}

-- The first values are spelled, and so many bytes are theirs.
pub record SoFar {A : Type 0} (P : A → Type 0) (f : A → ℕ) (xs : List A) (sum : ℕ) : Type 0 where
  pub each : All P xs
  pub len : sum ≡ min (sum_by f xs) (2 ^ 64 - 1)

pub none_so_far : {A : Type 0} (P : A → Type 0) (f : A → ℕ) (xs : List A) → SoFar P f (take 0 xs) 0
none_so_far P f xs = record { each = All-nil P; len = omega arith }

pub one_more : {A : Type 0} (P : A → Type 0) (f : A → ℕ) (xs : List A) (i len more : ℕ) (x : A) → i < length xs → x ≡ get_or xs i x → SoFar P f (take i xs) len → P x → more ≡ min (f x) (2 ^ 64 - 1) → SoFar P f (take (i + 1) xs) (min (len + more) (2 ^ 64 - 1))
one_more P f xs i len more x lt at so fits is =
    let t : take (i + 1) xs ≡ take i xs ++ x ∷ [] = take_more xs i x lt ∙ ap (λ y. take i xs ++ y ∷ []) (sym at) in
    let sum : sum_by f (take (i + 1) xs) ≡ sum_by f (take i xs) + f x = sum_by_more f xs i x lt ∙ ap (λ y. sum_by f (take i xs) + f y) (sym at) in
    record {
      each = subst (All P) (sym t) (All-push P (take i xs) x so.each fits);
      len = omega (arith, so.len, is, sum);
    }

pub all_so_far : {A : Type 0} (P : A → Type 0) (f : A → ℕ) (xs : List A) (i len : ℕ) → length xs ≤ i → SoFar P f (take i xs) len → All P xs × (len ≡ min (sum_by f xs) (2 ^ 64 - 1))
all_so_far P f xs i len le so = let h = subst (λ l. SoFar P f l len) (take_all i xs le) so in (h.each, h.len)

-- a value that isn't spelled
pub one_unfit : {A : Type 0} (P : A → Type 0) (xs : List A) (i : ℕ) (x : A) → i < length xs → x ≡ get_or xs i x → (P x → ⊥) → All P xs → ⊥
one_unfit P xs i x lt at not all = not (subst P (sym at) (all i x lt))

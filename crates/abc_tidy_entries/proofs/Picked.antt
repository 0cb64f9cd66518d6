-- The entry that a node is.
use Rattle.std.proofs.Common.{◌≡◌, ℕ, ◌-◌, ◌<◌, ◌≤◌, List, [], slice_get, Bool, true, false, nat_lt, if◌then◌else◌, refl, sym, ap, arith}
use Rattle.std.specs.Option.{option_to_list}
use Rattle.std.proofs.lemmas.Bool.{lt-ltb, ltb-true}
use Rattle.abc_tidy_entries.specs.NewPools.{picked_at}

pub no_pick : {A : Type 0} (before x : ℕ) (xs : List A) → x ≤ before → [] ≡ picked_at before xs x
no_pick before x xs le = by (nat_lt before x) refl
  where
    by : (b : Bool) → nat_lt before x ≡ b → [] ≡ picked_at before xs x
    by true e = absurd (no (ltb-true before x e))
      where
        no : before < x → ⊥
        no lt = omega arith
    by false e = sym (ap (λ b. if b then option_to_list (slice_get xs (x - before - 1)) else []) e)

pub a_pick : {A : Type 0} (before x : ℕ) (xs : List A) → before < x → option_to_list (slice_get xs (x - before - 1)) ≡ picked_at before xs x
a_pick before x xs lt = sym (ap (λ b. if b then option_to_list (slice_get xs (x - before - 1)) else []) (lt-ltb before x lt))

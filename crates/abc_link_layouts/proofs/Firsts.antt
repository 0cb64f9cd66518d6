-- The table of the first places of numbers.
use Rattle.std.proofs.Common.{◌≡◌, ℕ, zero, suc, ◌+◌, ◌<◌, ◌⊎◌, Bool, List, [], ◌∷◌, ◌++◌, Some, None, get_or, get_or-set_other, get_or-set_same, length, nat_eq, refl, sym, ap, subst, ◌∙◌, arith, inl, inr, eq-eqb}
use Rattle.std.specs.Prelude.{drop, set, if◌then◌else◌}
use Rattle.std.specs.declared.option.Option.{Option}
use Rattle.std.proofs.Math.Seq.{drop-cons}
use Rattle.std.proofs.lemmas.Bool.{cases_eq, ne_eqb}
use Rattle.abc_base_graphs.specs.Index.{first_from}
use Rattle.abc_link_layouts.specs.Owning.{HasFirstOwners, HasFirstsFrom, PutsOwner, ReachesKey}

pub firsts_in : (t : List (Option ℕ)) (given keys : List ℕ) → given ≡ keys → HasFirstOwners t given → HasFirstOwners t keys
firsts_in t given keys e f = subst (λ (ks : List ℕ). HasFirstOwners t ks) e f

-- one more number without a place
pub pushed_none : (t : List (Option ℕ)) (k : ℕ) → get_or (t ++ None ∷ []) k None ≡ get_or t k None
pushed_none [] zero = refl
pushed_none [] (suc k) = refl
pushed_none (x ∷ t) zero = refl
pushed_none (x ∷ t) (suc k) = pushed_none t k

pub put_at : (old mid new : List (Option ℕ)) (key place : ℕ) → ReachesKey old mid key → new ≡ set mid key (Some place) → PutsOwner old new key place
put_at old mid new key place r is = record { puts = λ k. go k (cases_eq k key) }
  where
    go : (k : ℕ) → (k ≡ key) ⊎ (k ≡ key → ⊥) → get_or new k None ≡ (if nat_eq k key then Some place else get_or old k None)
    go k (inl e) =
        ap (λ (t : List (Option ℕ)). get_or t k None) is
        ∙ ap (λ (n : ℕ). get_or (set mid key (Some place)) n None) e
        ∙ get_or-set_same mid key (Some place) None r.within
        ∙ sym (ap (λ (b : Bool). if b then Some place else get_or old k None) (eq-eqb k key e))
    go k (inr ne) =
        ap (λ (t : List (Option ℕ)). get_or t k None) is
        ∙ get_or-set_other mid key k (Some place) None ne
        ∙ r.same k
        ∙ sym (ap (λ (b : Bool). if b then Some place else get_or old k None) (ne_eqb k key ne))

-- the number one place before
pub firsts_next : (old new : List (Option ℕ)) (keys : List ℕ) (i : ℕ) → i < length keys → HasFirstsFrom old keys (i + 1) → PutsOwner old new (get_or keys i 0) i → HasFirstsFrom new keys i
firsts_next old new keys i lt h p = record { finds = go }
  where
    next : suc i ≡ i + 1
    next = omega arith

    at : drop i keys ≡ get_or keys i 0 ∷ drop (i + 1) keys
    at = drop-cons keys i 0 lt ∙ ap (λ (n : ℕ). get_or keys i 0 ∷ drop n keys) next

    go : (k : ℕ) → get_or new k None ≡ first_from (nat_eq k) i (drop i keys)
    go k =
        p.puts k
        ∙ ap (λ (x : Option ℕ). if nat_eq k (get_or keys i 0) then Some i else x) (h.finds k)
        ∙ ap (first_from (nat_eq k) i) (sym at)

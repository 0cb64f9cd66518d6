-- Sets by their namespaces.
use Rattle.std.proofs.Common.{◌≡◌, ℕ, zero, suc, ◌+◌, ◌-◌, ◌<◌, ◌≤◌, ◌⊎◌, inl, inr, Bool, true, false, ◌&&◌, ◌||◌, List, [], ◌∷◌, ◌++◌, Some, None, cond, eq-eqb, ne_eqb, get_or, length, map, nat_eq, take, refl, sym, ap, ◌∙◌, arith, append_assoc}
use Rattle.std.specs.Prelude.{slice_get, is_some}
use Rattle.std.specs.List.{list_any}
use Rattle.std.proofs.lemmas.Bool.{cases_eq}
use Rattle.std.proofs.lemmas.List.{append-nil, length-take, take_more}
use Rattle.abc_base_graphs.specs.Index.{first}
use Rattle.abc_link_interfaces.proofs.Finding.{found_any}
use Rattle.abc_link_names.specs.Keys.{keys_eq, name_key, same_name}
use Rattle.abc_link_names.specs.Pool.{is_public, same_space, set}
use Rattle.abc_link_names.specs.declared.named.DefiniteName.{DefiniteName}
use Rattle.abc_link.specs.SetKeys.{are_public, keys_from, set_key, set_keys, set_keys_eq}
use Rattle.abc_link.specs.declared.sets.SetKey.{SetKey}
use Rattle.abc_file_types.specs.declared.tables.Abc.{Abc}

-- ---- one set more

keys_append : (v : Abc) (numbers : List ℕ) (n : ℕ) (ss : List (List ℕ)) (s : List ℕ) → keys_from v numbers n (ss ++ s ∷ []) ≡ keys_from v numbers n ss ++ map (set_key v numbers (n + length ss)) s
keys_append v numbers n [] s = let z : n ≡ n + 0 = omega arith in append-nil (map (set_key v numbers n) s) ∙ ap (λ k. map (set_key v numbers k) s) z
keys_append v numbers n (r ∷ ss) s =
    let e : n + 1 + length ss ≡ n + length (r ∷ ss) = omega arith in
    ap (λ ks. map (set_key v numbers n) r ++ ks) (keys_append v numbers (n + 1) ss s)
    ∙ sym (append_assoc (map (set_key v numbers n) r) (keys_from v numbers (n + 1) ss) (map (set_key v numbers (n + 1 + length ss)) s))
    ∙ ap (λ k. (map (set_key v numbers n) r ++ keys_from v numbers (n + 1) ss) ++ map (set_key v numbers k) s) e

pub keys_next : (v : Abc) (numbers : List ℕ) (old new : List SetKey) (ss : List (List ℕ)) (i : ℕ) (s : List ℕ) → i < length ss → s ≡ get_or ss i s → old ≡ keys_from v numbers 1 (take i ss) → new ≡ old ++ map (set_key v numbers (i + 1)) s
    → new ≡ keys_from v numbers 1 (take (i + 1) ss)
keys_next v numbers old new ss i s lt is e en =
    let n : i + 1 ≡ 1 + length (take i ss) = omega (arith, length-take i ss) in
    en ∙ ap (λ (ks : List SetKey). ks ++ map (set_key v numbers (i + 1)) s) e
    ∙ ap (λ k. keys_from v numbers 1 (take i ss) ++ map (set_key v numbers k) s) n
    ∙ sym (keys_append v numbers 1 (take i ss) s)
    ∙ ap (λ (r : List ℕ). keys_from v numbers 1 (take i ss ++ r ∷ [])) is
    ∙ ap (keys_from v numbers 1) (sym (take_more ss i s lt))

-- ---- what a key finds

any_append : {K : Type 0} (test : K → Bool) (xs ys : List K) → list_any test (xs ++ ys) ≡ (list_any test xs || list_any test ys)
any_append test [] ys = refl
any_append test (x ∷ xs) ys = ap (λ b. test x || b) (any_append test xs ys) ∙ go (test x)
  where
    go : (b : Bool) → (b || (list_any test xs || list_any test ys)) ≡ ((b || list_any test xs) || list_any test ys)
    go true = refl
    go false = refl

-- the law of keys
abbrev KeysTell : Abc → List ℕ → Type 0
KeysTell v numbers = (a b : DefiniteName) → keys_eq (name_key v numbers a) (name_key v numbers b) ≡ same_name v a b

in_set : (v : Abc) (numbers : List ℕ) → KeysTell v numbers → (i space n : ℕ) (s : List ℕ) → list_any (set_keys_eq (set_key v numbers i space)) (map (set_key v numbers n) s) ≡ (nat_eq i n && list_any (same_space v space) s)
in_set v numbers tell i space n [] = go (nat_eq i n)
  where
    go : (b : Bool) → false ≡ (b && false)
    go true = refl
    go false = refl
in_set v numbers tell i space n (x ∷ s) =
    ap (λ b. (nat_eq i n && b) || list_any (set_keys_eq (set_key v numbers i space)) (map (set_key v numbers n) s)) (tell (record { ns = space; string = 0 }) (record { ns = x; string = 0 }))
    ∙ ap (λ b. (nat_eq i n && same_space v space x) || b) (in_set v numbers tell i space n s)
    ∙ go (nat_eq i n)
  where
    go : (b : Bool) → ((b && same_space v space x) || (b && list_any (same_space v space) s)) ≡ (b && (same_space v space x || list_any (same_space v space) s))
    go true = refl
    go false = refl

-- no set past the end, and none before the first
none_below : (v : Abc) (numbers : List ℕ) → KeysTell v numbers → (i space n : ℕ) (ss : List (List ℕ)) → i < n → list_any (set_keys_eq (set_key v numbers i space)) (keys_from v numbers n ss) ≡ false
none_below v numbers tell i space n [] lt = refl
none_below v numbers tell i space n (s ∷ ss) lt =
    any_append (set_keys_eq (set_key v numbers i space)) (map (set_key v numbers n) s) (keys_from v numbers (n + 1) ss)
    ∙ ap (λ b. b || list_any (set_keys_eq (set_key v numbers i space)) (keys_from v numbers (n + 1) ss)) (in_set v numbers tell i space n s ∙ ap (λ b. b && list_any (same_space v space) s) (ne_eqb i n (λ e. omega (arith, e))))
    ∙ none_below v numbers tell i space (n + 1) ss (omega arith)

at_set : (v : Abc) (numbers : List ℕ) → KeysTell v numbers → (i space n : ℕ) (ss : List (List ℕ)) → n ≤ i → list_any (set_keys_eq (set_key v numbers i space)) (keys_from v numbers n ss) ≡ list_any (same_space v space) (get_or ss (i - n) [])
at_set v numbers tell i space n [] le = refl
at_set v numbers tell i space n (s ∷ ss) le =
    any_append (set_keys_eq (set_key v numbers i space)) (map (set_key v numbers n) s) (keys_from v numbers (n + 1) ss)
    ∙ ap (λ b. b || list_any (set_keys_eq (set_key v numbers i space)) (keys_from v numbers (n + 1) ss)) (in_set v numbers tell i space n s)
    ∙ go (cases_eq i n) (λ lt. at_set v numbers tell i space (n + 1) ss lt)
  where
    or_none : (b : Bool) → (b || false) ≡ b
    or_none true = refl
    or_none false = refl

    go : (i ≡ n) ⊎ (i ≡ n → ⊥) → (n + 1 ≤ i → list_any (set_keys_eq (set_key v numbers i space)) (keys_from v numbers (n + 1) ss) ≡ list_any (same_space v space) (get_or ss (i - (n + 1)) []))
        → ((nat_eq i n && list_any (same_space v space) s) || list_any (set_keys_eq (set_key v numbers i space)) (keys_from v numbers (n + 1) ss)) ≡ list_any (same_space v space) (get_or (s ∷ ss) (i - n) [])
    go (inl e) rest =
        let z : 0 ≡ i - n = omega (arith, e) in
        ap (λ b. (b && list_any (same_space v space) s) || list_any (set_keys_eq (set_key v numbers i space)) (keys_from v numbers (n + 1) ss)) (eq-eqb i n e)
        ∙ ap (λ b. list_any (same_space v space) s || b) (none_below v numbers tell i space (n + 1) ss (omega (arith, e)))
        ∙ or_none (list_any (same_space v space) s)
        ∙ ap (λ k. list_any (same_space v space) (get_or (s ∷ ss) k [])) z
    go (inr ne) rest =
        let m : suc (i - (n + 1)) ≡ i - n = omega (arith, ne) in
        ap (λ b. (b && list_any (same_space v space) s) || list_any (set_keys_eq (set_key v numbers i space)) (keys_from v numbers (n + 1) ss)) (ne_eqb i n ne)
        ∙ rest (omega (arith, ne))
        ∙ ap (λ k. list_any (same_space v space) (get_or (s ∷ ss) k [])) m

-- a set of the pool has a namespace exactly where its key is found
pub set_has : (v : Abc) (numbers : List ℕ) → KeysTell v numbers → (i space : ℕ) → is_some (first (set_keys_eq (set_key v numbers i space)) (set_keys v numbers)) ≡ list_any (same_space v space) (set v i)
set_has v numbers tell i space = found_any (set_keys_eq (set_key v numbers i space)) 0 (set_keys v numbers) ∙ go (cases_eq i 0)
  where
    go : (i ≡ 0) ⊎ (i ≡ 0 → ⊥) → list_any (set_keys_eq (set_key v numbers i space)) (set_keys v numbers) ≡ list_any (same_space v space) (set v i)
    go (inl e) = none_below v numbers tell i space 1 v.sets (omega (arith, e)) ∙ sym (ap (λ b. list_any (same_space v space) (cond b [] (get_or v.sets (i - 1) []))) (eq-eqb i 0 e))
    go (inr ne) = at_set v numbers tell i space 1 v.sets (omega (arith, ne)) ∙ sym (ap (λ b. list_any (same_space v space) (cond b [] (get_or v.sets (i - 1) []))) (ne_eqb i 0 ne))

-- ---- public ones

pub public_at : (v : Abc) (i : ℕ) (b : Bool) → (i ≡ 0 → ⊥) → slice_get (are_public v) (i - 1) ≡ Some b → b ≡ list_any (is_public v) (set v i)
public_at v i b ne e = at v.sets (i - 1) e ∙ sym (ap (λ c. list_any (is_public v) (cond c [] (get_or v.sets (i - 1) []))) (ne_eqb i 0 ne))
  where
    at : (ss : List (List ℕ)) (k : ℕ) → slice_get (map (list_any (is_public v)) ss) k ≡ Some b → b ≡ list_any (is_public v) (get_or ss k [])
    at [] k e = cc
    at (s ∷ ss) zero e = cc
    at (s ∷ ss) (suc k) e = at ss k e

pub no_public : (v : Abc) (i : ℕ) → (i ≡ 0 → ⊥) → slice_get (are_public v) (i - 1) ≡ None → false ≡ list_any (is_public v) (set v i)
no_public v i ne e = at v.sets (i - 1) e ∙ sym (ap (λ c. list_any (is_public v) (cond c [] (get_or v.sets (i - 1) []))) (ne_eqb i 0 ne))
  where
    at : (ss : List (List ℕ)) (k : ℕ) → slice_get (map (list_any (is_public v)) ss) k ≡ None → false ≡ list_any (is_public v) (get_or ss k [])
    at [] k e = refl
    at (s ∷ ss) zero e = cc
    at (s ∷ ss) (suc k) e = at ss k e

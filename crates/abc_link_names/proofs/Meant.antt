-- The table of what names stand for.
use Rattle.std.proofs.Common.{◌≡◌, ℕ, zero, suc, ◌+◌, ◌-◌, ◌<◌, ◌≤◌, ◌⊎◌, inl, inr, Bool, true, false, List, [], ◌∷◌, ◌++◌, Some, None, cond, nat_eq, length, get_or, slice_get, refl, sym, ap, ◌∙◌, arith, length-append}
use Rattle.std.specs.declared.option.Option.{Option}
use Rattle.std.proofs.lemmas.Bool.{cases_lt}
use Rattle.std.proofs.lemmas.List.{get_or_append_left, get_or_push, get_or_past}
use Rattle.abc_file_types.specs.declared.names.Multiname.{Multiname}
use Rattle.abc_file_types.specs.declared.tables.Abc.{Abc}
use Rattle.abc_link_names.specs.declared.meanings.Known.{Known}
use Rattle.abc_link_names.specs.declared.named.Named.{Named}
use Rattle.abc_link_names.specs.Pool.{name, no_name, plain_name}
use Rattle.abc_link_names.specs.Meaning.{meaning_of_name, resolve}
use Rattle.abc_link_names.specs.Meanings.{AreKnown, AreMeanings, MeansBelow}
use Rattle.abc_base.proofs.Past.{past_end}

pub means_none : (v : Abc) → MeansBelow v [] 0
means_none v = record { len = refl; means = λ n lt. absurd (omega arith) }

pub means_next : (v : Abc) (t : List (Option Named)) (i : ℕ) (m : Option Named) → MeansBelow v t i → m ≡ resolve v i → MeansBelow v (t ++ m ∷ []) (i + 1)
means_next v t i m h e = record {
  len = let q = h.len in omega (arith, length-append t (m ∷ []));
  means = λ n lt. go n lt (cases_lt n i);
}
  where
    go : (n : ℕ) → n < i + 1 → (n < i) ⊎ (i ≤ n) → get_or (t ++ m ∷ []) n None ≡ resolve v n
    go n lt (inl low) = get_or_append_left t (m ∷ []) None n (let q = h.len in omega arith) ∙ h.means n low
    go n lt (inr le) = let q : i ≡ n = omega arith in get_or_push t m None n (h.len ∙ q) ∙ e ∙ ap (resolve v) q

-- a name past the end stands for nothing
name_past : (v : Abc) (n : ℕ) → length v.names + 1 ≤ n → name v n ≡ no_name
name_past v zero le = refl
name_past v (suc n) le = go (nat_eq (suc n) 0) refl
  where
    go : (b : Bool) → nat_eq (suc n) 0 ≡ b → cond b no_name (get_or v.names (suc n - 1) no_name) ≡ no_name
    go true e = refl
    go false e = get_or_past v.names (suc n - 1) no_name (omega arith)

pub means_all : (v : Abc) (t : List (Option Named)) (n : ℕ) → MeansBelow v t n → length v.names + 1 ≡ n → AreMeanings v t
means_all v t n h e = record { means = λ m. go m (cases_lt m n) }
  where
    go : (m : ℕ) → (m < n) ⊎ (n ≤ m) → get_or t m None ≡ resolve v m
    go m (inl lt) = h.means m lt
    go m (inr le) =
        let past : name v m ≡ no_name = name_past v m (omega arith) in
        let q = h.len in
        let e2 : get_or t m None ≡ None = get_or_past t m None (omega arith) in
        e2 ∙ sym (ap (λ (x : Multiname). meaning_of_name v (plain_name x)) past)

pub known_means : (v : Abc) (t : List (Option Known)) (n : ℕ) (k : Known) → AreKnown v t → get_or t n None ≡ Some k → k.named ≡ resolve v n
known_means v t n k h e = h.known n k e

-- a name past the table stands for nothing
pub nothing_meant : (v : Abc) (t : List (Option Named)) (n : ℕ) → AreMeanings v t → slice_get t n ≡ None → None ≡ resolve v n
nothing_meant v t n a e = past_end t n None e ∙ a.means n

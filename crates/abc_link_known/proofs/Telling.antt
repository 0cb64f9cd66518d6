-- What is known of names.
use Rattle.std.proofs.Common.{◌≡◌, ℕ, ◌<◌, ◌≤◌, ◌⊎◌, inl, inr, Bool, true, false, ◌&&◌, cond, List, [], Some, None, nat_eq, length, get_or, set, replicate, refl, sym, ap, ◌∙◌, arith}
use Rattle.std.specs.declared.option.Option.{Option}
use Rattle.std.proofs.lemmas.Bool.{cases_eq, cases_lt}
use Rattle.std.proofs.lemmas.List.{get_or-set_same, get_or-set_other, get_or-replicate, get_or_past, length-replicate}
use Rattle.std.specs.Str.{bytes_eq}
use Rattle.abc_base_graphs.specs.Index.{first}
use Rattle.abc_base_graphs.proofs.Numbering.{same_bytes}
use Rattle.abc_file_types.specs.declared.tables.Abc.{Abc}
use Rattle.abc_link_names.specs.declared.meanings.Known.{Known}
use Rattle.abc_link_names.specs.declared.named.Named.{Named}
use Rattle.abc_link_names.specs.declared.named.Named.TheVariants as named
use Rattle.abc_link_names.specs.declared.named.DefiniteName.{DefiniteName}
use Rattle.abc_link_names.specs.declared.named.Spaces.{Spaces}
use Rattle.abc_link_names.specs.declared.named.PlainName.{PlainName}
use Rattle.abc_link_names.specs.declared.tables.NameTables.{NameTables}
use Rattle.abc_link_names.specs.Meaning.{class_name_of, class_or_host, is_definite_name, holds_space, holds_public, host_named, is_class_named, meaning_of_name, resolve}
use Rattle.abc_link_names.specs.Meanings.{AreKnown}
use Rattle.abc_link_names.specs.Numbers.{AreNames, number_of_text}
use Rattle.abc_link_names.specs.Pool.{name, plain_name, text}
use Rattle.abc_link_known.proofs.FirstPlaces.{same_first}

pub noted : (v : Abc) (t : List (Option Known)) (n : ℕ) (m : Option Named) → AreKnown v t → n < length t → m ≡ resolve v n → AreKnown v (set t n (Some (record { named = m })))
noted v t n m h lt e = record { known = λ i k is. go i k is (cases_eq i n) }
  where
    new : List (Option Known)
    new = set t n (Some (record { named = m }))

    go : (i : ℕ) (k : Known) → get_or new i None ≡ Some k → (i ≡ n) ⊎ (i ≡ n → ⊥) → k.named ≡ resolve v i
    go i k is (inl q) =
        let same : Some (record { named = m }) ≡ Some k = sym (get_or-set_same t n (Some (record { named = m })) None lt) ∙ ap (λ j. get_or new j None) (sym q) ∙ is in
        let f : m ≡ k.named = cc in
        sym f ∙ e ∙ ap (resolve v) (sym q)
    go i k is (inr ne) = h.known i k (sym (get_or-set_other t n i (Some (record { named = m })) None ne) ∙ is)

pub nothing_known : (v : Abc) (t : List (Option Known)) (n : ℕ) → t ≡ replicate n None → AreKnown v t
nothing_known v t n e = record { known = λ i k is. go i k (ap (λ (l : List (Option Known)). get_or l i None) (sym e) ∙ is) (cases_lt i n) }
  where
    go : (i : ℕ) (k : Known) → get_or (replicate n None) i None ≡ Some k → (i < n) ⊎ (n ≤ i) → k.named ≡ resolve v i
    go i k is (inl lt) = let q : None ≡ Some k = sym (get_or-replicate n i None None lt) ∙ is in cc
    go i k is (inr le) = let q : None ≡ Some k = sym (get_or_past (replicate n None) i None (omega (arith, length-replicate {A = Option Known} n None))) ∙ is in cc

pub none_told : (v : Abc) (t : List (Option Known)) → t ≡ [] → AreKnown v t
none_told v t e = nothing_known v t 0 e

-- what is meant, by the text
abbrev named_by : Abc → List ℕ → Spaces → Option DefiniteName → Bool
named_by v t s None = false
named_by v t s (Some d) = bytes_eq t (text v d.string) && holds_space v s d.ns

abbrev result_by : Abc → List ℕ → Spaces → Option ℕ → Option Named
result_by v t s (Some k) = Some (named.Class k)
result_by v t s None = cond (holds_public v s) (host_named t) None

abbrev meant_by : Abc → List ℕ → Spaces → Option Named
meant_by v t s = result_by v t s (first (λ i. named_by v t s (class_name_of v i)) v.instances)

by_text : (v : Abc) (n : PlainName) → meaning_of_name v (Some n) ≡ meant_by v (text v n.string) n.spaces
by_text v n = ap (class_or_host v n) (same_first (is_class_named v n) (λ i. named_by v (text v n.string) n.spaces (class_name_of v i)) (λ i. one (class_name_of v i)) 0 v.instances) ∙ other (first (λ i. named_by v (text v n.string) n.spaces (class_name_of v i)) v.instances)
  where
    one : (d : Option DefiniteName) → is_definite_name v n d ≡ named_by v (text v n.string) n.spaces d
    one None = refl
    one (Some d) = refl

    other : (o : Option ℕ) → class_or_host v n o ≡ result_by v (text v n.string) n.spaces o
    other None = refl
    other (Some k) = refl

-- names of equal texts and the same namespaces mean the same
pub alike : (v : Abc) (t : NameTables) (a b : PlainName) → AreNames v t → nat_eq (number_of_text t.numbers a.string) (number_of_text t.numbers b.string) ≡ true → a.spaces ≡ b.spaces → meaning_of_name v (Some a) ≡ meaning_of_name v (Some b)
alike v t a b h e s =
    let same : text v a.string ≡ text v b.string = same_bytes (text v a.string) (text v b.string) (sym (h.same a.string b.string) ∙ e) in
    by_text v a ∙ ap (λ (x : List ℕ). meant_by v x a.spaces) same ∙ ap (meant_by v (text v b.string)) s ∙ sym (by_text v b)

-- a name stands for what is meant by its text and its namespaces
pub resolved : (v : Abc) (n : ℕ) (p : PlainName) (m : Option Named) → plain_name (name v n) ≡ Some p → m ≡ meaning_of_name v (Some p) → m ≡ resolve v n
resolved v n p m e is = is ∙ ap (meaning_of_name v) (sym e)

-- and so for what is known of one that is alike
pub told_like : (v : Abc) (t : List (Option Known)) (n other : ℕ) (a b : PlainName) (k : Known) → AreKnown v t → get_or t other None ≡ Some k → plain_name (name v n) ≡ Some a → plain_name (name v other) ≡ Some b → meaning_of_name v (Some a) ≡ meaning_of_name v (Some b) → k.named ≡ resolve v n
told_like v t n other a b k h f ea eb same = h.known other k f ∙ ap (meaning_of_name v) eb ∙ sym same ∙ ap (meaning_of_name v) (sym ea)

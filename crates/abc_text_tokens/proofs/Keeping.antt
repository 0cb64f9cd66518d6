-- A name that is given a value, for the first time or once more.
use Rattle.std.proofs.Common.{◌≡◌, ℕ, inl, inr, Bool, true, false, cond, List, [], ◌∷◌, Some, None, refl, sym, ap, ◌∙◌}
use Rattle.std.specs.Borrow.{Bor}
use Rattle.std.specs.Map.{lookup}
use Rattle.std.specs.Str.{bytes_eq}
use Rattle.std.specs.declared.option.Option.{Option}
use Rattle.std.proofs.lemmas.Slice.Eq.{bytes_eq-Decides}
use Rattle.indexmap.specs.IndexMap.{insert_entry}
use Rattle.abc_text_lines.proofs.Bools.{split_bool}
use Rattle.abc_text_tokens.specs.Names.{AddsName, GivesName, NameMap, either_of, found_name, is_name_equal}

abbrev pub same_key : Bor (List ℕ) → Bor (List ℕ) → Bool
same_key a b = bytes_eq a.now b.now

bytes_sym : (a b : List ℕ) → bytes_eq a b ≡ bytes_eq b a
bytes_sym a b =
    elim (split_bool (bytes_eq a b)) [
      | inl e ↦ e ∙ sym ((bytes_eq-Decides b a).1 (sym ((bytes_eq-Decides a b).0 e)))
      | inr e ↦ elim (split_bool (bytes_eq b a)) [
        | inl f ↦ (let yes : bytes_eq a b ≡ true = (bytes_eq-Decides a b).1 (sym ((bytes_eq-Decides b a).0 f)) in absurd cc)
        | inr f ↦ e ∙ sym f
      ]
    ]

-- ---- the values after one is given

given_first : {V : Type 0} (b : Bool) (v w : V) (o : Option V) → cond b (Some v) o ≡ cond b (Some v) (cond b (Some w) o)
given_first true v w o = refl
given_first false v w o = refl

given_later : {V : Type 0} (b t : Bool) (v w : V) (o : Option V) → (b ≡ true → t ≡ true → ⊥) → cond t (Some w) (cond b (Some v) o) ≡ cond b (Some v) (cond t (Some w) o)
given_later true true v w o apart = absurd (apart refl refl)
given_later true false v w o apart = refl
given_later false t v w o apart = refl

pub after_insert : {V : Type 0} (es : List (Bor (List ℕ) × V)) (k : Bor (List ℕ)) (v : V) (other : List ℕ) → lookup (is_name_equal other) (insert_entry same_key es k v) ≡ cond (bytes_eq k.now other) (Some v) (lookup (is_name_equal other) es)
after_insert [] k v other = refl
after_insert {V} (e ∷ es) k v other =
    elim (split_bool (same_key k e.0)) [
      | inl hit ↦
          let same : e.0.now ≡ k.now = sym ((bytes_eq-Decides k.now e.0.now).0 hit) in
          rw hit (ap (λ (n : List ℕ). cond (bytes_eq n other) (Some v) (lookup (is_name_equal other) es)) same
          ∙ given_first (bytes_eq k.now other) v e.1 (lookup (is_name_equal other) es)
          ∙ ap (λ (n : List ℕ). cond (bytes_eq k.now other) (Some v) (cond (bytes_eq n other) (Some e.1) (lookup (is_name_equal other) es))) (sym same))
      | inr miss ↦
          let apart : bytes_eq k.now other ≡ true → bytes_eq e.0.now other ≡ true → ⊥ =
          λ p q. (let both : same_key k e.0 ≡ true = (bytes_eq-Decides k.now e.0.now).1 ((bytes_eq-Decides k.now other).0 p ∙ sym ((bytes_eq-Decides e.0.now other).0 q)) in absurd cc) in
          rw miss (ap (λ (o : Option V). cond (bytes_eq e.0.now other) (Some e.1) o) (after_insert es k v other)
          ∙ given_later (bytes_eq k.now other) (bytes_eq e.0.now other) v e.1 (lookup (is_name_equal other) es) apart)
    ]

pub same_lookup : {V : Type 0} (es : List (Bor (List ℕ) × V)) (k : Bor (List ℕ)) (other : List ℕ) → k.now ≡ other → lookup (is_name_equal other) es ≡ lookup (same_key k) es
same_lookup [] k other e = refl
same_lookup (p ∷ es) k other e =
    let head : is_name_equal other p.0 ≡ same_key k p.0 = bytes_sym p.0.now other ∙ ap (λ (n : List ℕ). bytes_eq n p.0.now) (sym e) in
    let tail = same_lookup es k other e in
    rw (head, tail) refl

either_none : {V : Type 0} (o : Option V) → o ≡ either_of o None
either_none (Some n) = refl
either_none None = refl

-- ---- a name that has no value, and one that has

pub given_new : {V : Type 0} (old new : NameMap V) (name : List ℕ) (v : V) → None ≡ found_name old name → GivesName old new name v → AddsName old new name v
given_new {V} old new name v none gives other =
    elim (split_bool (bytes_eq name other)) [
      | inl is ↦
          let same : found_name old other ≡ None = ap (λ (n : List ℕ). found_name old n) (sym ((bytes_eq-Decides name other).0 is)) ∙ sym none in
          gives other ∙ rw is (ap (λ (o : Option V). either_of o (Some v)) (sym same))
      | inr differs ↦ gives other ∙ rw differs (either_none (found_name old other))
    ]

pub given_again : {V : Type 0} (old mid new : NameMap V) (name : List ℕ) (v first : V) → Some first ≡ found_name old name → GivesName old mid name v → GivesName mid new name first → AddsName old new name v
given_again {V} old mid new name v first some gives again other =
    elim (split_bool (bytes_eq name other)) [
      | inl is ↦
          let same : found_name old other ≡ Some first = ap (λ (n : List ℕ). found_name old n) (sym ((bytes_eq-Decides name other).0 is)) ∙ sym some in
          again other ∙ rw is (ap (λ (o : Option V). either_of o (Some v)) (sym same))
      | inr differs ↦ again other ∙ rw differs (let step = gives other in (rw differs at step) ∙ either_none (found_name old other))
    ]

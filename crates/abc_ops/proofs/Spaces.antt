-- Equality of namespaces is an equivalence.
use Rattle.std.proofs.Common.{◌≡◌, ℕ, List, Bool, true, false, ◌&&◌, if◌then◌else◌, nat_eq, refl, sym, ap, ◌∙◌}
use Rattle.std.proofs.lemmas.Bool.{and_from, and_parts, eq-eqb, eqb-false, eqb-true}
use Rattle.std.proofs.lemmas.Slice.Eq.{bytes_eq-Decides}
use Rattle.std.specs.Cmp.{IsEquivalence, both_ways, equiv}
use Rattle.std.specs.Str.{bytes_eq}
use Rattle.abc_link_names.specs.Pool.{same_space, shared_code, space, text}
use Rattle.abc_file_types.specs.declared.tables.Abc.{Abc}

-- by codes and texts, where those of code 05 are equal to themselves alone
abbrev same_by : (ℕ → ℕ) → (ℕ → List ℕ) → ℕ → ℕ → Bool
same_by code name a b = if nat_eq (code a) 5 then nat_eq a b else nat_eq (code a) (code b) && bytes_eq (name a) (name b)

record IsSame (code : ℕ → ℕ) (name : ℕ → List ℕ) (a b : ℕ) : Type 0 where
  codes : code a ≡ code b
  alone : code a ≡ 5 → a ≡ b
  named : (code a ≡ 5 → ⊥) → name a ≡ name b

same_if : (code : ℕ → ℕ) (name : ℕ → List ℕ) (a b : ℕ) (t : Bool) → nat_eq (code a) 5 ≡ t → (if t then nat_eq a b else nat_eq (code a) (code b) && bytes_eq (name a) (name b)) ≡ true → IsSame code name a b
same_if code name a b true p e =
    let same : a ≡ b = eqb-true a b e in
    record { codes = ap code same; alone = λ q. same; named = λ q. ap name same }
same_if code name a b false p e =
    let both = and_parts (nat_eq (code a) (code b)) (bytes_eq (name a) (name b)) e in
    record {
      codes = eqb-true (code a) (code b) both.0;
      alone = λ q. absurd (eqb-false (code a) 5 p q);
      named = λ q. (bytes_eq-Decides (name a) (name b)).0 both.1;
    }

same_is : (code : ℕ → ℕ) (name : ℕ → List ℕ) (a b : ℕ) → same_by code name a b ≡ true → IsSame code name a b
same_is code name a b e = same_if code name a b (nat_eq (code a) 5) refl e

if_same : (code : ℕ → ℕ) (name : ℕ → List ℕ) (a b : ℕ) (t : Bool) → nat_eq (code a) 5 ≡ t → IsSame code name a b → (if t then nat_eq a b else nat_eq (code a) (code b) && bytes_eq (name a) (name b)) ≡ true
if_same code name a b true p s = eq-eqb a b (s.alone (eqb-true (code a) 5 p))
if_same code name a b false p s =
    and_from (nat_eq (code a) (code b)) (bytes_eq (name a) (name b)) (eq-eqb (code a) (code b) s.codes) ((bytes_eq-Decides (name a) (name b)).1 (s.named (λ q. eqb-false (code a) 5 p q)))

is_same : (code : ℕ → ℕ) (name : ℕ → List ℕ) (a b : ℕ) → IsSame code name a b → same_by code name a b ≡ true
is_same code name a b s = if_same code name a b (nat_eq (code a) 5) refl s

turned : (code : ℕ → ℕ) (name : ℕ → List ℕ) (a b : ℕ) → IsSame code name a b → IsSame code name b a
turned code name a b s = record {
  codes = sym s.codes;
  alone = λ q. sym (s.alone (s.codes ∙ q));
  named = λ q. sym (s.named (λ p. q (sym s.codes ∙ p)));
}

joined : (code : ℕ → ℕ) (name : ℕ → List ℕ) (a b c : ℕ) → IsSame code name a b → IsSame code name b c → IsSame code name a c
joined code name a b c s t = record {
  codes = s.codes ∙ t.codes;
  alone = λ q. s.alone q ∙ t.alone (sym s.codes ∙ q);
  named = λ q. s.named q ∙ t.named (λ p. q (s.codes ∙ p));
}

same_by_equivalence : (code : ℕ → ℕ) (name : ℕ → List ℕ) → IsEquivalence (same_by code name)
same_by_equivalence code name =
    let same = same_by code name in
    equiv (record {
      symm = λ a b. both_ways (same a b) (same b a) (λ e. is_same code name b a (turned code name a b (same_is code name a b e))) (λ e. is_same code name a b (turned code name b a (same_is code name b a e)));
      trans = λ a b c p q. is_same code name a c (joined code name a b c (same_is code name a b p) (same_is code name b c q));
    }) (λ a. is_same code name a a (record { codes = refl; alone = λ q. refl; named = λ q. refl }))

pub same_space_equivalence : (v : Abc) → IsEquivalence (same_space v)
same_space_equivalence v = same_by_equivalence (λ a. shared_code (space v a).kind) (λ a. text v (space v a).name)

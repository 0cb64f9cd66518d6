-- What a slate says of a set of namespaces.
use Rattle.std.proofs.Common.{◌≡◌, ℕ, ◌+◌, ◌<◌, ◌≤◌, Bool, true, false, ◌||◌, List, [], ◌∷◌, ◌++◌, Some, None, nat_eq, eq-eqb, eqb-true, length, get_or, set, take, replicate, refl, sym, ap, ◌∙◌, arith, length-set}
use Rattle.std.specs.Prelude.{is_some}
use Rattle.std.specs.declared.option.Option.{Option}
use Rattle.std.specs.List.{find, list_any}
use Rattle.std.proofs.lemmas.Bool.{false≢true}
use Rattle.std.proofs.lemmas.List.{get_or-replicate, get_or-set_other, get_or-set_same, length-replicate, take_all, take_more}
use Rattle.abc_base_graphs.specs.Index.{first}
use Rattle.abc_file_types.specs.declared.tables.Abc.{Abc}
use Rattle.abc_link_names.specs.declared.named.PlainName.{PlainName}
use Rattle.abc_link_names.specs.declared.named.Spaces.TheVariants as forms
use Rattle.abc_link_names.specs.declared.tables.NameTables.{NameTables}
use Rattle.abc_link_names.specs.Meaning.{holds_space, is_class_named}
use Rattle.abc_link_names.specs.Numbers.{AreNames, number_of_text, classes_of}
use Rattle.abc_link_names.specs.Pool.{set as set_of}
use Rattle.abc_link_known.specs.Spots.{spot_of_class, spot_of_space}
use Rattle.abc_link_known.specs.Slates.{AreSpotsMarked, is_at, mark_spot}
use Rattle.abc_link_known.proofs.Spotted.{first_by_spots, spot_below}

-- the list that a slate is after it was wiped
pub none_marked : (v : Abc) (numbers : List ℕ) (slate : List (Option ℕ)) (n : ℕ) → slate ≡ replicate n None → AreSpotsMarked v numbers slate []
none_marked v numbers slate n e = record {
  marked = λ p lt.
      ap (λ (l : List (Option ℕ)). is_some (get_or l p None)) e
      ∙ ap (λ (o : Option ℕ). is_some o) (get_or-replicate n p None None (omega (arith, ap length e, length-replicate {A = Option ℕ} n None)));
}

spot_marked : (old : List (Option ℕ)) (o : Option ℕ) (p : ℕ) → p < length old → is_some (get_or (mark_spot old o) p None) ≡ (is_at o p || is_some (get_or old p None))
spot_marked old None p lt = refl
spot_marked old (Some q) p lt = go (nat_eq q p) refl
  where
    go : (b : Bool) → nat_eq q p ≡ b → is_some (get_or (set old q (Some 0)) p None) ≡ (b || is_some (get_or old p None))
    go true e =
        let same : q ≡ p = eqb-true q p e in
        ap (λ j. is_some (get_or (set old q (Some 0)) j None)) (sym same)
        ∙ ap (λ (o : Option ℕ). is_some o) (get_or-set_same old q (Some 0) None (omega arith))
    go false e = ap (λ (o : Option ℕ). is_some o) (get_or-set_other old q p (Some 0) None (λ same. false≢true (sym e ∙ eq-eqb q p (sym same))))

pub as_long : (old new : List (Option ℕ)) (o : Option ℕ) → new ≡ mark_spot old o → length new ≡ length old
as_long old new None e = ap length e
as_long old new (Some q) e = ap length e ∙ length-set old q (Some 0)

pub any_push : (f : ℕ → Bool) (xs : List ℕ) (x : ℕ) → list_any f (xs ++ x ∷ []) ≡ (f x || list_any f xs)
any_push f [] x = refl
any_push f (y ∷ xs) x = ap (λ b. f y || b) (any_push f xs x) ∙ go (f y) (f x) (list_any f xs)
  where
    go : (a b c : Bool) → (a || (b || c)) ≡ (b || (a || c))
    go true true c = refl
    go true false c = refl
    go false true c = refl
    go false false c = refl

pub next_marked : (v : Abc) (numbers : List ℕ) (old new : List (Option ℕ)) (spaces : List ℕ) (i : ℕ) → AreSpotsMarked v numbers old (take i spaces) → new ≡ mark_spot old (spot_of_space v numbers (get_or spaces i 0)) → i < length spaces → AreSpotsMarked v numbers new (take (i + 1) spaces)
next_marked v numbers old new spaces i m is lt = record {
  marked = λ p l.
      let a = get_or spaces i 0 in
      let len : length new ≡ length old = as_long old new (spot_of_space v numbers a) is in
      ap (λ (s : List (Option ℕ)). is_some (get_or s p None)) is
      ∙ spot_marked old (spot_of_space v numbers a) p (omega arith)
      ∙ ap (λ b. is_at (spot_of_space v numbers a) p || b) (m.marked p (omega arith))
      ∙ sym (any_push (λ b. is_at (spot_of_space v numbers b) p) (take i spaces) a)
      ∙ ap (list_any (λ b. is_at (spot_of_space v numbers b) p)) (sym (take_more spaces i 0 lt));
}

pub all_marked : (v : Abc) (numbers : List ℕ) (slate : List (Option ℕ)) (spaces : List ℕ) (n : ℕ) → AreSpotsMarked v numbers slate (take n spaces) → length spaces ≤ n → AreSpotsMarked v numbers slate spaces
all_marked v numbers slate spaces n m le = record { marked = λ p lt. m.marked p lt ∙ ap (list_any (λ b. is_at (spot_of_space v numbers b) p)) (take_all n spaces le) }

-- the first class of a text at whose spot something stands
pub first_in_set : (v : Abc) (t : NameTables) (slate : List (Option ℕ)) (n : PlainName) (k : ℕ) → AreNames v t → AreSpotsMarked v t.numbers slate (set_of v k) → length slate ≡ length v.instances → n.spaces ≡ forms.Set k
    → find (λ c. is_some (get_or slate (spot_of_class v t.numbers c) None)) (classes_of v t.numbers (number_of_text t.numbers n.string)) ≡ first (is_class_named v n) v.instances
first_in_set v t slate n k h m len e =
    first_by_spots v t n (set_of v k) (λ c. is_some (get_or slate (spot_of_class v t.numbers c) None)) h
    (record { listed = λ a. ap (λ s. holds_space v s a) e })
    (λ c lt. let b = spot_below v t.numbers c lt in m.marked (spot_of_class v t.numbers c) (omega arith))

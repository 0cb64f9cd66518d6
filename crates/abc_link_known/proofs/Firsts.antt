-- What a slate says of the classes of a text.
use Rattle.std.proofs.Common.{◌≡◌, ℕ, ◌+◌, ◌<◌, ◌≤◌, Bool, true, false, ◌||◌, List, [], ◌∷◌, ◌++◌, Some, None, cond, nat_eq, eq-eqb, eqb-true, length, get_or, set, take, drop, replicate, refl, sym, ap, ◌∙◌, arith, length-set}
use Rattle.std.specs.declared.option.Option.{Option}
use Rattle.std.specs.List.{find, list_any}
use Rattle.std.proofs.lemmas.Bool.{false≢true}
use Rattle.std.proofs.lemmas.List.{drop_all, drop_more, get_or-replicate, get_or-set_other, get_or-set_same, length-map, length-replicate, take_more}
use Rattle.abc_base_graphs.specs.Index.{first, first_from}
use Rattle.abc_file_types.specs.declared.classes.Instance.{Instance}
use Rattle.abc_file_types.specs.declared.tables.Abc.{Abc}
use Rattle.abc_link_names.specs.Keys.{keys_eq}
use Rattle.abc_link_names.specs.declared.named.PlainName.{PlainName}
use Rattle.abc_link_names.specs.declared.named.Spaces.{Spaces}
use Rattle.abc_link_names.specs.declared.named.Spaces.TheVariants as forms
use Rattle.abc_link_names.specs.declared.tables.NameTables.{NameTables}
use Rattle.abc_link_names.specs.Meaning.{class_name_of, holds_space, is_class_named}
use Rattle.abc_link_names.specs.Numbers.{AreNames, number_of_text, classes_of}
use Rattle.abc_link_names.specs.Pool.{same_space, set as set_of}
use Rattle.abc_link_known.specs.Spots.{key_of_class, key_of_space, keys_of_classes, no_spot_key, spot_of_class, spot_of_space}
use Rattle.abc_link_known.specs.Slates.{HasFirstClasses, IsSpaceList, earlier_place, has_spot, has_spot_among, is_at, item_at}
use Rattle.abc_link_known.proofs.FirstPlaces.{first_of_two, found_first, hit, nothing_first, same_first}
use Rattle.abc_link_known.proofs.Marked.{any_push}
use Rattle.abc_link_known.proofs.Spotted.{first_by_spots}

-- the same of the classes from a place on
pub record HasFirstsFrom (v : Abc) (numbers : List ℕ) (slate : List (Option ℕ)) (classes : List ℕ) (i : ℕ) : Type 0 where
  pub firsts : (p : ℕ) → p < length slate → get_or slate p None ≡ first_from (λ c. nat_eq p (spot_of_class v numbers c)) i (drop i classes)

pub no_firsts : (v : Abc) (numbers : List ℕ) (slate : List (Option ℕ)) (n : ℕ) (classes : List ℕ) (i : ℕ) → slate ≡ replicate n None → length classes ≤ i → HasFirstsFrom v numbers slate classes i
no_firsts v numbers slate n classes i e le = record {
  firsts = λ p lt.
      ap (λ (l : List (Option ℕ)). get_or l p None) e
      ∙ get_or-replicate n p None None (omega (arith, ap length e, length-replicate {A = Option ℕ} n None))
      ∙ sym (ap (first_from (λ c. nat_eq p (spot_of_class v numbers c)) i) (drop_all i classes le));
}

written_there : (old : List (Option ℕ)) (q i p : ℕ) → p < length old → get_or (set old q (Some i)) p None ≡ cond (nat_eq p q) (Some i) (get_or old p None)
written_there old q i p lt = go (nat_eq p q) refl
  where
    go : (b : Bool) → nat_eq p q ≡ b → get_or (set old q (Some i)) p None ≡ cond b (Some i) (get_or old p None)
    go true e =
        let same : p ≡ q = eqb-true p q e in
        ap (λ j. get_or (set old q (Some i)) j None) same ∙ get_or-set_same old q (Some i) None (omega arith)
    go false e = get_or-set_other old q p (Some i) None (λ same. false≢true (sym e ∙ eq-eqb p q same))

pub next_firsts : (v : Abc) (numbers : List ℕ) (old new : List (Option ℕ)) (classes : List ℕ) (n i : ℕ) → HasFirstsFrom v numbers old classes n → n ≡ i + 1 → i < length classes → new ≡ set old (spot_of_class v numbers (get_or classes i 0)) (Some i) → HasFirstsFrom v numbers new classes i
next_firsts v numbers old new classes n i h at lt is = record {
  firsts = λ p l.
      let q = spot_of_class v numbers (get_or classes i 0) in
      let len : length new ≡ length old = ap length is ∙ length-set old q (Some i) in
      ap (λ (s : List (Option ℕ)). get_or s p None) is
      ∙ written_there old q i p (omega arith)
      ∙ ap (λ (o : Option ℕ). cond (nat_eq p q) (Some i) o) (h.firsts p (omega arith))
      ∙ ap (λ m. cond (nat_eq p q) (Some i) (first_from (λ c. nat_eq p (spot_of_class v numbers c)) m (drop m classes))) at
      ∙ sym (ap (first_from (λ c. nat_eq p (spot_of_class v numbers c)) i) (drop_more classes i 0 lt));
}

pub all_firsts : (v : Abc) (numbers : List ℕ) (slate : List (Option ℕ)) (classes : List ℕ) (i : ℕ) → HasFirstsFrom v numbers slate classes i → i ≡ 0 → HasFirstClasses v numbers slate classes
all_firsts v numbers slate classes i h e = record { firsts = λ p lt. h.firsts p lt ∙ ap (λ n. first_from (λ c. nat_eq p (spot_of_class v numbers c)) n (drop n classes)) e }

-- ---- what stands at the spot of a namespace

pub place_there : (v : Abc) (numbers : List ℕ) (slate : List (Option ℕ)) (classes : List ℕ) (a q : ℕ) → HasFirstClasses v numbers slate classes → length slate ≡ length v.instances → Some q ≡ spot_of_space v numbers a → get_or slate q None ≡ first (has_spot v numbers a) classes
place_there v numbers slate classes a q h len e =
    let m = length-map v.instances (λ (i : Instance). key_of_class v numbers (class_name_of v i)) in
    let at = hit (keys_eq (key_of_space v numbers a)) 0 (keys_of_classes v numbers) no_spot_key q (sym e) in
    let z : q ≡ 0 + at.0 = at.1 in
    let l : at.0 < length (keys_of_classes v numbers) = at.2 in
    h.firsts q (omega arith)
    ∙ same_first (λ c. nat_eq q (spot_of_class v numbers c)) (has_spot v numbers a) (λ c. ap (λ o. is_at o (spot_of_class v numbers c)) e) 0 classes

pub place_nowhere : (v : Abc) (numbers : List ℕ) (classes : List ℕ) (a : ℕ) → None ≡ spot_of_space v numbers a → None ≡ first (has_spot v numbers a) classes
place_nowhere v numbers classes a e = sym (nothing_first (has_spot v numbers a) (λ c. sym (ap (λ o. is_at o (spot_of_class v numbers c)) e)) 0 classes)

-- ---- the first place at the spots of several

pub none_first : (v : Abc) (numbers : List ℕ) (classes : List ℕ) → None ≡ first (has_spot_among v numbers []) classes
none_first v numbers classes = sym (nothing_first (has_spot_among v numbers []) (λ c. refl) 0 classes)

pub next_earlier : (v : Abc) (numbers : List ℕ) (classes spaces : List ℕ) (i : ℕ) (old new here : Option ℕ) → old ≡ first (has_spot_among v numbers (take i spaces)) classes → here ≡ first (has_spot v numbers (get_or spaces i 0)) classes → new ≡ earlier_place old here → i < length spaces
    → new ≡ first (has_spot_among v numbers (take (i + 1) spaces)) classes
next_earlier v numbers classes spaces i old new here was is e lt =
    let a = get_or spaces i 0 in
    e ∙ ap (λ o. earlier_place o here) was ∙ ap (earlier_place (first (has_spot_among v numbers (take i spaces)) classes)) is
    ∙ first_of_two (has_spot_among v numbers (take i spaces)) (has_spot v numbers a) 0 classes
    ∙ same_first (λ c. has_spot_among v numbers (take i spaces) c || has_spot v numbers a c) (has_spot_among v numbers (take i spaces ++ a ∷ [])) (λ c. turn (has_spot_among v numbers (take i spaces) c) (has_spot v numbers a c) ∙ sym (any_push (λ b. has_spot v numbers b c) (take i spaces) a)) 0 classes
    ∙ ap (λ (l : List ℕ). first (has_spot_among v numbers l) classes) (sym (take_more spaces i 0 lt))
  where
    turn : (a b : Bool) → (a || b) ≡ (b || a)
    turn true true = refl
    turn true false = refl
    turn false true = refl
    turn false false = refl

-- ---- the first class

pub first_in_text : (v : Abc) (t : NameTables) (n : PlainName) (classes list : List ℕ) → AreNames v t → IsSpaceList v n.spaces list → classes ≡ classes_of v t.numbers (number_of_text t.numbers n.string) → item_at classes (first (has_spot_among v t.numbers list) classes) ≡ first (is_class_named v n) v.instances
first_in_text v t n classes list h s e =
    found_first (has_spot_among v t.numbers list) classes
    ∙ ap (find (has_spot_among v t.numbers list)) e
    ∙ first_by_spots v t n list (has_spot_among v t.numbers list) h s (λ c lt. refl)

pub one_listed : (v : Abc) (s : Spaces) (a : ℕ) (list : List ℕ) → s ≡ forms.One a → list ≡ a ∷ [] → IsSpaceList v s list
one_listed v s a list e f = record { listed = λ b. ap (λ x. holds_space v x b) e ∙ go (same_space v b a) ∙ ap (list_any (same_space v b)) (sym f) }
  where
    go : (x : Bool) → x ≡ (x || false)
    go true = refl
    go false = refl

pub set_listed : (v : Abc) (s : Spaces) (k : ℕ) (list : List ℕ) → s ≡ forms.Set k → list ≡ set_of v k → IsSpaceList v s list
set_listed v s k list e f = record { listed = λ b. ap (λ x. holds_space v x b) e ∙ ap (list_any (same_space v b)) (sym f) }

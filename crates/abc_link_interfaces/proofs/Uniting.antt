-- The interfaces of a class are those of all that it leads to.
use Rattle.std.proofs.Common.{◌≡◌, ℕ, ◌⊎◌, inl, inr, Bool, true, false, not, cond, List, [], ◌∷◌, ◌++◌, Contains, IsTrue, Some, None, get_or, length, slice_get, refl, sym, ap, subst, ◌∙◌, arith}
use Rattle.std.specs.declared.option.Option.{Option}
use Rattle.std.specs.List.{list_any}
use Rattle.std.proofs.lemmas.List.{get_or_default}
use Rattle.std.proofs.lemmas.List.Elements.{Contains-append_cases, Contains-append_right}
use Rattle.abc_base_graphs.specs.Graph.{Edge, Leads, Then, leads_to}
use Rattle.abc_link_names.specs.Interfaces.{class_graph}
use Rattle.abc_link_names.proofs.ItemsPairs.{any_makes}
use Rattle.abc_link_names.specs.Bases.{is_interface}
use Rattle.abc_file_types.specs.declared.tables.Abc.{Abc}
use Rattle.abc_link_interfaces.specs.Sets.{AreSets, GathersInterfaces, IsAbove, IsSetOf, Set, interfaces_given_by, is_settled, is_set_there, keys_at, keys_in}

contains_none : {A : Type 0} (y : A) → Contains [] y → ⊥
contains_none y c = let h = c.1 in omega arith

-- one of the lists that are there
pub known_set : (v : Abc) (sets : List (Option Set)) (t : ℕ) → AreSets v sets → is_settled sets t ≡ true → IsSetOf v t (keys_at sets t)
known_set v sets t a e = go (slice_get sets t) refl e
  where
    go : (o : Option (Option Set)) → slice_get sets t ≡ o → is_set_there o ≡ true → IsSetOf v t (keys_at sets t)
    go None is h = cc
    go (Some None) is h = cc
    go (Some (Some s)) is h = subst (IsSetOf v t) (sym (ap keys_in is)) (a.exact t s is)

given_sound : (v : Abc) (sets : List (Option Set)) (k t y : ℕ) → AreSets v sets → is_settled sets t ≡ true → Contains (leads_to (class_graph v) k) t → Contains (interfaces_given_by v sets t) y → IsAbove v k y
given_sound v sets k t y a there edge c = go (is_interface v t) refl (Contains-append_cases (cond (is_interface v t) (t ∷ []) []) (keys_at sets t) y c)
  where
    itself : Contains (t ∷ []) y → is_interface v t ≡ true → IsAbove v k y
    itself h is =
        let z : h.0 ≡ 0 = let l = h.1 in omega arith in
        let q : t ≡ y = sym (ap (λ n. get_or (t ∷ []) n y) z) ∙ h.2 in
        subst (IsAbove v k) q (is, Edge edge)

    go : (b : Bool) → is_interface v t ≡ b → Contains (cond b (t ∷ []) []) y ⊎ Contains (keys_at sets t) y → IsAbove v k y
    go true is (inl h) = itself h is
    go false is (inl h) = absurd (contains_none y h)
    go b is (inr h) = let p = (known_set v sets t a there).sound y h in (p.0, Then edge p.1)

given_itself : (v : Abc) (sets : List (Option Set)) (t : ℕ) → IsTrue (is_interface v t) → Contains (interfaces_given_by v sets t) t
given_itself v sets t is = go (is_interface v t) is
  where
    go : (b : Bool) → b ≡ true → Contains (cond b (t ∷ []) [] ++ keys_at sets t) t
    go true e = (0, omega arith, refl)
    go false e = cc

given_theirs : (v : Abc) (sets : List (Option Set)) (t y : ℕ) → Contains (keys_at sets t) y → Contains (interfaces_given_by v sets t) y
given_theirs v sets t y c = Contains-append_right (cond (is_interface v t) (t ∷ []) []) (keys_at sets t) y c

-- none is missing
settled_each : (sets : List (Option Set)) (xs : List ℕ) (t : ℕ) → list_any (λ (x : ℕ). not (is_settled sets x)) xs ≡ false → Contains xs t → is_settled sets t ≡ true
settled_each sets xs t none c = go (is_settled sets t) refl
  where
    missing : is_settled sets t ≡ false → ⊥
    missing e =
        let at : get_or xs c.0 0 ≡ t = get_or_default xs c.0 0 t c.1 ∙ c.2 in
        let h = any_makes (λ (x : ℕ). not (is_settled sets x)) xs 0 c.0 c.1 (ap (λ x. not (is_settled sets x)) at ∙ ap not e) in cc

    go : (b : Bool) → is_settled sets t ≡ b → is_settled sets t ≡ true
    go true e = e
    go false e = absurd (missing e)

-- what a class leads to is of one of the classes that it names
given_complete : (v : Abc) (sets : List (Option Set)) (k : ℕ) (list : List ℕ) → AreSets v sets → list_any (λ (x : ℕ). not (is_settled sets x)) (leads_to (class_graph v) k) ≡ false
    → ((t y : ℕ) → Contains (leads_to (class_graph v) k) t → Contains (interfaces_given_by v sets t) y → Contains list y)
    → (y : ℕ) → IsTrue (is_interface v y) → Leads (class_graph v) k y → Contains list y
given_complete v sets k list a none gives y is (Edge {y = z} c) = gives z z c (given_itself v sets z is)
given_complete v sets k list a none gives y is (Then {y = t} {z = z} c rest) =
    gives t z c (given_theirs v sets t z ((known_set v sets t a (settled_each sets (leads_to (class_graph v) k) t none c)).complete z (is, rest)))

-- all that the classes give
gathered : (v : Abc) (sets : List (Option Set)) (classes list : List ℕ) → GathersInterfaces v sets classes list (length classes) → (t y : ℕ) → Contains classes t → Contains (interfaces_given_by v sets t) y → Contains list y
gathered v sets classes list g t y c h = g.complete c.0 y c.1 (subst (λ n. Contains (interfaces_given_by v sets n) y) (sym (get_or_default classes c.0 0 t c.1 ∙ c.2)) h)

pub united : (v : Abc) (g : List (List ℕ)) (sets : List (Option Set)) (k : ℕ) (classes list keys : List ℕ) → g ≡ class_graph v → AreSets v sets → list_any (λ (x : ℕ). not (is_settled sets x)) (leads_to g k) ≡ false
    → classes ≡ leads_to g k → GathersInterfaces v sets classes list (length classes) → keys ≡ list → IsSetOf v k keys
united v g sets k classes list keys is_g a none is_classes gathers is_list = subst (IsSetOf v k) (sym is_list) (record { sound = sound; complete = λ y h. given_complete v sets k list a none2 gives y h.0 h.1 })
  where
    all : classes ≡ leads_to (class_graph v) k
    all = is_classes ∙ ap (λ (h : List (List ℕ)). leads_to h k) is_g

    none2 : list_any (λ (x : ℕ). not (is_settled sets x)) (leads_to (class_graph v) k) ≡ false
    none2 = subst (λ (h : List (List ℕ)). list_any (λ (x : ℕ). not (is_settled sets x)) (leads_to h k) ≡ false) is_g none

    theirs : GathersInterfaces v sets (leads_to (class_graph v) k) list (length (leads_to (class_graph v) k))
    theirs = subst (λ (ns : List ℕ). GathersInterfaces v sets ns list (length ns)) all gathers

    gives : (t y : ℕ) → Contains (leads_to (class_graph v) k) t → Contains (interfaces_given_by v sets t) y → Contains list y
    gives = gathered v sets (leads_to (class_graph v) k) list theirs

    sound : (y : ℕ) → Contains list y → IsAbove v k y
    sound y c = let h = theirs.sound y c in given_sound v sets k h.0 y a (settled_each sets (leads_to (class_graph v) k) h.0 none2 h.1) h.1 h.2

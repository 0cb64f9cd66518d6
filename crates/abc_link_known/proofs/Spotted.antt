-- Spots of classes and of namespaces.
use Rattle.std.proofs.Common.{◌≡◌, ℕ, ◌+◌, ◌<◌, ◌≤◌, ◌⊎◌, inl, inr, Bool, true, false, ◌&&◌, ◌||◌, List, [], ◌∷◌, ◌++◌, Some, None, cond, nat_eq, map, length, get_or, unwrap_or, refl, sym, ap, ◌∙◌, arith, length-append}
use Rattle.std.specs.Prelude.{slice_get}
use Rattle.std.specs.declared.option.Option.{Option}
use Rattle.std.specs.List.{find, list_any}
use Rattle.std.proofs.lemmas.Bool.{cases_lt}
use Rattle.std.proofs.lemmas.List.{get_or-map, length-map, get_or_append_left, get_or_push}
use Rattle.std.proofs.lemmas.Option.{get_or_from_slice_get, slice_get_within}
use Rattle.indexmap.specs.IndexMap.{get}
use Rattle.abc_base_graphs.specs.Index.{Map, first}
use Rattle.abc_base.proofs.Past.{past_end}
use Rattle.abc_file_types.specs.declared.classes.Instance.{Instance}
use Rattle.abc_file_types.specs.declared.names.NsKind.{NsKind}
use Rattle.abc_file_types.specs.declared.names.NsKind.TheVariants as spaces
use Rattle.abc_file_types.specs.declared.tables.Abc.{Abc}
use Rattle.abc_link_names.specs.declared.keys.NameKey.{NameKey}
use Rattle.abc_link_names.specs.declared.named.DefiniteName.{DefiniteName}
use Rattle.abc_link_names.specs.declared.named.PlainName.{PlainName}
use Rattle.abc_link_names.specs.declared.tables.NameTables.{NameTables}
use Rattle.abc_link_names.specs.Instances.{instance_at, no_instance}
use Rattle.abc_link_names.specs.Keys.{keys_eq}
use Rattle.abc_link_names.specs.Meaning.{class_name_of, is_definite_name, holds_space, is_class_named}
use Rattle.abc_link_names.specs.Numbers.{AreNames, number_of_text, key_of_name, class_keys, classes_of}
use Rattle.abc_link_names.specs.Pool.{is_private, same_space, shared_code, space}
use Rattle.abc_link_names.proofs.InGroups.{first_class}
use Rattle.abc_link_names.proofs.SameKeys.{same_keys}
use Rattle.abc_link_known.specs.Spots.{AreSpots, HasSpots, key_of_class, key_of_space, keys_of_classes, no_spot_key, spot_of_class, spot_of_space}
use Rattle.abc_link_known.specs.declared.spots.Spots.{Spots}
use Rattle.abc_link_known.specs.Slates.{IsSpaceList, has_spot, has_spot_among}
use Rattle.abc_link_known.proofs.FirstPlaces.{found_alike, own_first, same_among}

pub no_spots : (v : Abc) (numbers : List ℕ) (m : Map NameKey) → HasSpots v numbers m [] 0
no_spots v numbers m = record { len = refl; spots = λ a lt. absurd (omega arith) }

pub next_spot : (v : Abc) (numbers : List ℕ) (m : Map NameKey) (t : List (Option ℕ)) (i : ℕ) (o : Option ℕ) → HasSpots v numbers m t i → o ≡ get keys_eq m (key_of_space v numbers i) → HasSpots v numbers m (t ++ o ∷ []) (i + 1)
next_spot v numbers m t i o h e = record {
  len = let q = h.len in omega (arith, length-append t (o ∷ []));
  spots = λ a lt. go a lt (cases_lt a i);
}
  where
    go : (a : ℕ) → a < i + 1 → (a < i) ⊎ (i ≤ a) → get_or (t ++ o ∷ []) a None ≡ get keys_eq m (key_of_space v numbers a)
    go a lt (inl low) = get_or_append_left t (o ∷ []) None a (let q = h.len in omega arith) ∙ h.spots a low
    go a lt (inr le) = let q : i ≡ a = omega arith in get_or_push t o None a (h.len ∙ q) ∙ e ∙ ap (λ n. get keys_eq m (key_of_space v numbers n)) q

same_map : {A B : Type 0} (f g : A → B) → ((x : A) → f x ≡ g x) → (xs : List A) → map f xs ≡ map g xs
same_map f g agree [] = refl
same_map {A} {B} f g agree (x ∷ xs) = ap (λ (y : B). y ∷ map f xs) (agree x) ∙ ap (λ (ys : List B). g x ∷ ys) (same_map f g agree xs)

-- what is found under the keys of all classes, under each of them, and under those of the first namespaces
pub are_spots : (v : Abc) (numbers : List ℕ) (ks js : List NameKey) (m : Map NameKey) (classes : List ℕ) (spaces : List (Option ℕ)) (n : ℕ) → ks ≡ keys_of_classes v numbers → js ≡ keys_of_classes v numbers
    → ((k : NameKey) → get keys_eq m k ≡ first (keys_eq k) ks) → classes ≡ map (λ k. unwrap_or (get keys_eq m k) 0) js → HasSpots v numbers m spaces n → AreSpots v numbers (record { found = m; classes = classes; spaces = spaces })
are_spots v numbers ks js m classes spaces n e f finds is h = record {
  found = found;
  classes = is ∙ ap (map at) f ∙ same_map at (λ k. unwrap_or (first (keys_eq k) (keys_of_classes v numbers)) 0) (λ k. ap (λ (o : Option ℕ). unwrap_or o 0) (found k)) (keys_of_classes v numbers);
  spaces = record { len = refl; spots = λ a lt. let q = h.len in h.spots a (omega arith) };
}
  where
    at : NameKey → ℕ
    at k = unwrap_or (get keys_eq m k) 0

    found : (k : NameKey) → get keys_eq m k ≡ first (keys_eq k) (keys_of_classes v numbers)
    found k = finds k ∙ ap (first (keys_eq k)) e

pub spot_there : (v : Abc) (numbers : List ℕ) (s : Spots) (a : ℕ) (o : Option ℕ) → AreSpots v numbers s → slice_get s.spaces a ≡ Some o → o ≡ spot_of_space v numbers a
spot_there v numbers s a o h e = sym (get_or_from_slice_get s.spaces a o None e) ∙ h.spaces.spots a (slice_get_within s.spaces a o e) ∙ h.found (key_of_space v numbers a)

pub class_there : (v : Abc) (numbers : List ℕ) (s : Spots) (c q : ℕ) → AreSpots v numbers s → slice_get s.classes c ≡ Some q → q ≡ spot_of_class v numbers c
class_there v numbers s c q h e = sym (get_or_from_slice_get s.classes c q 0 e) ∙ ap (λ (l : List ℕ). get_or l c 0) h.classes

pub class_missing : (v : Abc) (numbers : List ℕ) (s : Spots) (c : ℕ) → AreSpots v numbers s → slice_get s.classes c ≡ None → 0 ≡ spot_of_class v numbers c
class_missing v numbers s c h e = past_end s.classes c 0 e ∙ ap (λ (l : List ℕ). get_or l c 0) h.classes

-- ---- the spot of a class, and those of namespaces

code_not_zero : (k : NsKind) → nat_eq 0 (shared_code k) ≡ false
code_not_zero spaces.Private = refl
code_not_zero spaces.Namespace = refl
code_not_zero spaces.Package = refl
code_not_zero spaces.PackageInternal = refl
code_not_zero spaces.Protected = refl
code_not_zero spaces.Explicit = refl
code_not_zero spaces.StaticProtected = refl

not_both : (a b c : Bool) → b ≡ false → (a && (b && c)) ≡ false
not_both true b c e = ap (λ x. x && c) e
not_both false b c e = refl

-- a namespace of a definite name is equal to another
abbrev same_in : Abc → Option DefiniteName → ℕ → Bool
same_in v None a = false
same_in v (Some d) a = same_space v d.ns a

abbrev same_among_in : Abc → Option DefiniteName → List ℕ → Bool
same_among_in v None list = false
same_among_in v (Some d) list = list_any (same_space v d.ns) list

no_key_apart : (v : Abc) (numbers : List ℕ) (a : ℕ) → keys_eq no_spot_key (key_of_space v numbers a) ≡ false
no_key_apart v numbers a = go (is_private (space v a).kind)
  where
    t : ℕ
    t = number_of_text numbers 0

    go : (b : Bool) → keys_eq no_spot_key (cond b (record { text = t; code = 0x05; name = 0; place = a }) (record { text = t; code = shared_code (space v a).kind; name = number_of_text numbers (space v a).name; place = 0 })) ≡ false
    go true = not_both (nat_eq 0 t) (nat_eq 0 0x05) (nat_eq 0 0 && nat_eq 0 a) refl
    go false = not_both (nat_eq 0 t) (nat_eq 0 (shared_code (space v a).kind)) (nat_eq 0 (number_of_text numbers (space v a).name) && nat_eq 0 0) (code_not_zero (space v a).kind)

key_tells : (v : Abc) (t : NameTables) (d : Option DefiniteName) (a : ℕ) → AreNames v t → keys_eq (key_of_class v t.numbers d) (key_of_space v t.numbers a) ≡ same_in v d a
key_tells v t None a h = no_key_apart v t.numbers a
key_tells v t (Some d) a h = same_keys v t (record { ns = d.ns; string = 0 }) (record { ns = a; string = 0 }) h

as_many : (v : Abc) (numbers : List ℕ) → length (keys_of_classes v numbers) ≡ length v.instances
as_many v numbers = length-map v.instances (λ (i : Instance). key_of_class v numbers (class_name_of v i))

class_tells : (v : Abc) (t : NameTables) (a c : ℕ) → AreNames v t → c < length v.instances → has_spot v t.numbers a c ≡ same_in v (class_name_of v (instance_at v c)) a
class_tells v t a c h lt =
    found_alike (keys_of_classes v t.numbers) (key_of_space v t.numbers a) no_spot_key c (omega (arith, as_many v t.numbers))
    ∙ ap (λ k. keys_eq k (key_of_space v t.numbers a)) (get_or-map (λ (i : Instance). key_of_class v t.numbers (class_name_of v i)) v.instances c no_instance no_spot_key lt)
    ∙ key_tells v t (class_name_of v (instance_at v c)) a h

-- the spot of a class is the number of a class
pub spot_below : (v : Abc) (numbers : List ℕ) (c : ℕ) → c < length v.instances → spot_of_class v numbers c < length v.instances
spot_below v numbers c lt =
    let m = as_many v numbers in
    let own = own_first (keys_of_classes v numbers) no_spot_key c (omega arith) in
    let l : spot_of_class v numbers c < length (keys_of_classes v numbers) = own.1 in
    omega arith

any_same : (f g : ℕ → Bool) → ((a : ℕ) → f a ≡ g a) → (xs : List ℕ) → list_any f xs ≡ list_any g xs
any_same f g agree [] = refl
any_same f g agree (x ∷ xs) = ap (λ b. b || list_any f xs) (agree x) ∙ ap (λ b. g x || b) (any_same f g agree xs)

none_of : (xs : List ℕ) → list_any (λ a. false) xs ≡ false
none_of [] = refl
none_of (x ∷ xs) = none_of xs

class_tells_all : (v : Abc) (t : NameTables) (list : List ℕ) (c : ℕ) → AreNames v t → c < length v.instances → has_spot_among v t.numbers list c ≡ same_among_in v (class_name_of v (instance_at v c)) list
class_tells_all v t list c h lt = any_same (λ a. has_spot v t.numbers a c) (same_in v (class_name_of v (instance_at v c))) (λ a. class_tells v t a c h lt) list ∙ go (class_name_of v (instance_at v c))
  where
    go : (d : Option DefiniteName) → list_any (same_in v d) list ≡ same_among_in v d list
    go None = none_of list
    go (Some d) = refl

-- ---- a class of a name's text is named where it has one of the name's spots

named_by_spots : (v : Abc) (t : NameTables) (n : PlainName) (list : List ℕ) (c : ℕ) → AreNames v t → IsSpaceList v n.spaces list → c < length v.instances
    → nat_eq (number_of_text t.numbers n.string) (key_of_name t.numbers (class_name_of v (instance_at v c))) ≡ true → has_spot_among v t.numbers list c ≡ is_class_named v n (instance_at v c)
named_by_spots v t n list c h s lt is = class_tells_all v t list c h lt ∙ go (class_name_of v (instance_at v c)) is
  where
    go : (d : Option DefiniteName) → nat_eq (number_of_text t.numbers n.string) (key_of_name t.numbers d) ≡ true → same_among_in v d list ≡ is_definite_name v n d
    go None e = refl
    go (Some d) e =
        sym (s.listed d.ns)
        ∙ ap (λ b. b && holds_space v n.spaces d.ns) (sym e ∙ h.same n.string d.string)

-- a test of the classes of a text that tells which of them have a name's spots finds the first class of the name
pub first_by_spots : (v : Abc) (t : NameTables) (n : PlainName) (list : List ℕ) (f : ℕ → Bool) → AreNames v t → IsSpaceList v n.spaces list
    → ((c : ℕ) → c < length v.instances → f c ≡ has_spot_among v t.numbers list c)
    → find f (classes_of v t.numbers (number_of_text t.numbers n.string)) ≡ first (is_class_named v n) v.instances
first_by_spots v t n list f h s tells =
    same_among f (λ c. is_class_named v n (instance_at v c)) (nat_eq (number_of_text t.numbers n.string)) 0 0 (class_keys v t.numbers) agree
    ∙ first_class v t n h
  where
    many : length (class_keys v t.numbers) ≡ length v.instances
    many = length-map v.instances (λ (i : Instance). key_of_name t.numbers (class_name_of v i))

    agree : (j : ℕ) → j < length (class_keys v t.numbers) → nat_eq (number_of_text t.numbers n.string) (get_or (class_keys v t.numbers) j 0) ≡ true → f (0 + j) ≡ is_class_named v n (instance_at v (0 + j))
    agree j lt is =
        let z : 0 + j ≡ j = omega arith in
        let l : j < length v.instances = omega (arith, many) in
        let e : get_or (class_keys v t.numbers) j 0 ≡ key_of_name t.numbers (class_name_of v (instance_at v j)) = get_or-map (λ (i : Instance). key_of_name t.numbers (class_name_of v i)) v.instances j no_instance 0 l in
        ap f z ∙ tells j l
        ∙ named_by_spots v t n list j h s l (ap (nat_eq (number_of_text t.numbers n.string)) (sym e) ∙ is)
        ∙ ap (λ m. is_class_named v n (instance_at v m)) (sym z)

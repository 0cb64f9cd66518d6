-- What a name stands for, by numbers and groups.
use Rattle.std.proofs.Common.{◌≡◌, ℕ, suc, ◌+◌, ◌<◌, Bool, true, false, ◌&&◌, List, [], ◌∷◌, Some, None, cond, nat_eq, length, get_or, refl, sym, ap, ◌∙◌, arith}
use Rattle.std.specs.declared.option.Option.{Option}
use Rattle.std.specs.List.{find}
use Rattle.std.specs.Str.{bytes_eq}
use Rattle.std.proofs.lemmas.List.{get_or-map, length-map}
use Rattle.std.proofs.lemmas.Bool.{false≢true}
use Rattle.indexmap.specs.IndexMap.{get}
use Rattle.abc_base_graphs.specs.Index.{first_from, first}
use Rattle.abc_base_graphs.specs.Groups.{places_from, places_of, some_places}
use Rattle.abc_file_types.specs.declared.classes.Instance.{Instance}
use Rattle.abc_file_types.specs.declared.tables.Abc.{Abc}
use Rattle.abc_link_names.specs.declared.named.DefiniteName.{DefiniteName}
use Rattle.abc_link_names.specs.declared.named.PlainName.{PlainName}
use Rattle.abc_link_names.specs.declared.tables.NameTables.{NameTables}
use Rattle.abc_link_names.specs.Pool.{text}
use Rattle.abc_link_names.specs.Instances.{instance_at, no_instance}
use Rattle.abc_link_names.specs.Meaning.{holds_space, is_definite_name, class_name_of, is_class_named}
use Rattle.abc_link_names.specs.Numbers.{AreNames, number_of_text, key_of_name, class_keys, classes_of}

-- the first that passes a test stands in each group that all that pass are in
find_in_group : {A : Type 0} (test : A → Bool) (all : List A) (d : A) (k n : ℕ) (xs : List A) (keys : List ℕ)
    → ((j : ℕ) → j < length xs → get_or all (n + j) d ≡ get_or xs j d)
    → ((j : ℕ) → j < length xs → test (get_or xs j d) ≡ true → nat_eq k (get_or keys j 0) ≡ true)
    → length keys ≡ length xs
    → first_from test n xs ≡ find (λ i. test (get_or all i d)) (places_from (nat_eq k) n keys)
find_in_group test all d k n [] [] same within len = refl
find_in_group test all d k n [] (key ∷ keys) same within len = absurd (omega arith)
find_in_group test all d k n (x ∷ xs) [] same within len = absurd (omega arith)
find_in_group test all d k n (x ∷ xs) (key ∷ keys) same within len =
    go
    (find_in_group test all d k (n + 1) xs keys
    (λ j lt. let e : n + 1 + j ≡ n + suc j = omega arith in ap (λ m. get_or all m d) e ∙ same (suc j) (omega arith))
    (λ j lt is. within (suc j) (omega arith) is)
    (omega arith))
    (test x) refl (nat_eq k key) refl
  where
    At : ℕ → Bool
    At i = test (get_or all i d)

    rest : List ℕ
    rest = places_from (nat_eq k) (n + 1) keys

    here : get_or all n d ≡ x
    here = let e : n + 0 ≡ n = omega arith in sym (ap (λ m. get_or all m d) e) ∙ same 0 (omega arith)

    go : first_from test (n + 1) xs ≡ find At rest → (b : Bool) → test x ≡ b → (c : Bool) → nat_eq k key ≡ c → cond b (Some n) (first_from test (n + 1) xs) ≡ find At (cond c (n ∷ rest) rest)
    go m true is true in' = let e : At n ≡ true = ap test here ∙ is in sym (ap (λ b. cond b (Some n) (find At rest)) e)
    go m true is false in' = let e : false ≡ true = sym in' ∙ within 0 (omega arith) is in absurd (false≢true e)
    go m false is true in' = let e : At n ≡ false = ap test here ∙ is in m ∙ sym (ap (λ b. cond b (Some n) (find At rest)) e)
    go m false is false in' = m

-- the first of a whole list, in the group of a key
pub first_in_group : {A : Type 0} (test : A → Bool) (xs : List A) (d : A) (k : ℕ) (keys : List ℕ)
    → ((j : ℕ) → j < length xs → test (get_or xs j d) ≡ true → nat_eq k (get_or keys j 0) ≡ true)
    → length keys ≡ length xs
    → first test xs ≡ find (λ i. test (get_or xs i d)) (places_of (nat_eq k) keys)
first_in_group test xs d k keys within len = find_in_group test xs d k 0 xs keys (λ j lt. let e : 0 + j ≡ j = omega arith in ap (λ m. get_or xs m d) e) within len

-- ---- classes

first_holds : (a b : Bool) → (a && b) ≡ true → a ≡ true
first_holds true b e = refl
first_holds false b e = e

-- a class that a name names has the key of the name
key_of_named : (v : Abc) (t : NameTables) (n : PlainName) (d : Option DefiniteName) → AreNames v t → is_definite_name v n d ≡ true → nat_eq (number_of_text t.numbers n.string) (key_of_name t.numbers d) ≡ true
key_of_named v t n None a is = absurd (false≢true is)
key_of_named v t n (Some d) a is = a.same n.string d.string ∙ first_holds (bytes_eq (text v n.string) (text v d.string)) (holds_space v n.spaces d.ns) is

pub first_class : (v : Abc) (t : NameTables) (n : PlainName) → AreNames v t
    → find (λ i. is_class_named v n (instance_at v i)) (classes_of v t.numbers (number_of_text t.numbers n.string)) ≡ first (is_class_named v n) v.instances
first_class v t n a =
    sym
    (first_in_group (is_class_named v n) v.instances no_instance (number_of_text t.numbers n.string) (class_keys v t.numbers)
    (λ j lt is.
    let e : get_or (class_keys v t.numbers) j 0 ≡ key_of_name t.numbers (class_name_of v (instance_at v j)) = get_or-map (λ (i : Instance). key_of_name t.numbers (class_name_of v i)) v.instances j no_instance 0 lt in
    ap (nat_eq (number_of_text t.numbers n.string)) e ∙ key_of_named v t n (class_name_of v (instance_at v j)) a is)
    (length-map v.instances (λ (i : Instance). key_of_name t.numbers (class_name_of v i))))

some_group : (ps g : List ℕ) → some_places ps ≡ Some g → g ≡ ps
some_group [] g e = cc
some_group (p ∷ ps) g e = cc

no_group : (ps : List ℕ) → some_places ps ≡ None → [] ≡ ps
no_group [] e = refl
no_group (p ∷ ps) e = cc

-- the classes of a text, where a group was found, and where none was found
pub group_found : (v : Abc) (t : NameTables) (text : ℕ) (g : List ℕ) → AreNames v t → Some g ≡ get nat_eq t.classes text → g ≡ classes_of v t.numbers text
group_found v t text g a e = some_group (classes_of v t.numbers text) g (sym (a.groups.groups text) ∙ sym e)

pub group_missing : (v : Abc) (t : NameTables) (text : ℕ) → AreNames v t → None ≡ get nat_eq t.classes text → [] ≡ classes_of v t.numbers text
group_missing v t text a e = no_group (classes_of v t.numbers text) (sym (a.groups.groups text) ∙ sym e)

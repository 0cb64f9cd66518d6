-- Names in lists of values that have names.
use Rattle.std.proofs.Common.{◌≡◌, ℕ, pos, zero, suc, ◌<◌, List, [], ◌∷◌, length, get_or, map, Any, Contains, Bool, true, false, IsTrue, ◌↔◌, inl, inr, refl, sym, ◌∙◌, ap, subst, arith}
use Rattle.std.proofs.lemmas.List.{get_or-map, get_or_default, length-map}
use Rattle.abc_base.specs.Hosts.{taken_names, formula_at}
use Rattle.abc_base.specs.declared.formula.Formula.{Formula}
use Rattle.abc_host.specs.Tables.{IsNameTaken}

-- a value's name is among the names behind another one
pub contains_from_any : {X : Type 0} (name_of : X → List ℕ) (xs : List X) (first name : List ℕ) → Any (λ x. name_of x ≡ name) xs → Contains (first ∷ map name_of xs) name
contains_from_any name_of xs first name (k, x, lt, at, is) =
    (suc k, omega (arith, length-map xs name_of), get_or-map name_of xs k x name lt ∙ ap name_of at ∙ is)

-- a name among those, which is not the first one, is that of a value
pub any_from_contains : {X : Type 0} (name_of : X → List ℕ) (xs : List X) (some : X) (first name : List ℕ) → ¬ (first ≡ name) → Contains (first ∷ map name_of xs) name → Any (λ x. name_of x ≡ name) xs
any_from_contains name_of xs some first name other (zero, lt, at) = absurd (other at)
any_from_contains name_of xs some first name other (suc k, lt, at) =
    let below : k < length xs = omega (arith, length-map xs name_of) in
    (k, get_or xs k some, below, get_or_default xs k (get_or xs k some) some below, sym (get_or-map name_of xs k some name below) ∙ at)

-- one of a list's values, and one of what is made of them
pub any_of_map : {X Y : Type 0} (f : X → Y) (P : Y → Type 0) (xs : List X) → Any (λ x. P (f x)) xs → Any P (map f xs)
any_of_map f P xs (k, x, lt, at, is) = (k, f x, omega (arith, length-map xs f), get_or-map f xs k x (f x) lt ∙ ap f at, is)

pub any_in_map : {X Y : Type 0} (f : X → Y) (P : Y → Type 0) (xs : List X) → Any P (map f xs) → Any (λ x. P (f x)) xs
any_in_map f P [] (k, y, lt, at, is) = absurd (omega arith)
any_in_map f P (x ∷ xs) (k, y, lt, at, is) =
    let below : k < length (x ∷ xs) = omega (arith, length-map (x ∷ xs) f) in
    (k, get_or (x ∷ xs) k x, below, get_or_default (x ∷ xs) k (get_or (x ∷ xs) k x) x below, subst P (sym at ∙ get_or-map f (x ∷ xs) k x y below) is)

-- a name that stands in the host object, and one that doesn't
pub taken_by_host : (formulas : List Formula) (given name : List ℕ) (r : Bool) → given ≡ name → r ≡ true → (IsTrue r ↔ Contains taken_names given) → IsTrue r ↔ IsNameTaken formulas name
taken_by_host formulas given name r same taken is = (λ t. inl (subst (λ (n : List ℕ). Contains taken_names n) same (is.0 taken)), λ _. taken)

one_of : {X : Type 0} (f : X → Formula) (xs : List X) (name : List ℕ) (r : Bool) → ¬ Contains taken_names name → (IsTrue r ↔ Any (λ x. (f x).name ≡ name) xs) → IsTrue r ↔ IsNameTaken (map f xs) name
one_of f xs name r free is = (
  λ t. inr (any_of_map f (λ g. g.name ≡ name) xs (is.0 t)),
  elim [ inl host ↦ absurd (free host) | inr one ↦ is.1 (any_in_map f (λ g. g.name ≡ name) xs one) ],
)

pub taken_by_one : {X : Type 0} (f : X → Formula) (xs ys : List X) (given name : List ℕ) (a b : Bool) → xs ≡ ys → given ≡ name → a ≡ false → (IsTrue a ↔ Contains taken_names given) → (IsTrue b ↔ Any (λ x. (f x).name ≡ given) xs) → IsTrue b ↔ IsNameTaken (map f ys) name
taken_by_one f xs ys given name a b same_list same_name not_taken host one =
    let free : ¬ Contains taken_names given = λ is. let holds : IsTrue a = host.1 is in cc in
    subst (λ (zs : List _). IsTrue b ↔ IsNameTaken (map f zs) name) same_list (subst (λ (n : List ℕ). IsTrue b ↔ IsNameTaken (map f xs) n) same_name (one_of f xs given b free one))

-- the formula of an entry that stands at a place
pub formula_there : {X : Type 0} (f : X → Formula) (xs : List X) (x : X) (i : ℕ) → i < length xs → x ≡ get_or xs i x → f x ≡ formula_at (map f xs) i
formula_there f xs x i lt is = ap f is ∙ sym (get_or-map f xs i x (record { name = []; constant = pos 0; factors = [] }) lt)

-- a value of a list that has the name
pub found : {X : Type 0} (name_of : X → List ℕ) (xs : List X) (i : ℕ) (x : X) (name : List ℕ) (r : Bool) → i < length xs → x ≡ get_or xs i x → (IsTrue r ↔ (name_of x ≡ name)) → r ≡ true → IsTrue true ↔ Any (λ y. name_of y ≡ name) xs
found name_of xs i x name r lt at named is = (λ _. (i, x, lt, sym at, named.0 is), λ _. refl)

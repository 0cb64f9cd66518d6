-- Numbers that are gathered without repeats.
use Rattle.std.proofs.Common.{◌≡◌, ℕ, ◌+◌, ◌<◌, ◌≤◌, ◌⊎◌, inl, inr, Bool, true, false, cond, List, [], ◌∷◌, ◌++◌, Contains, IsTrue, eqb-true, get_or, length, nat_eq, sym, ap, subst, ◌∙◌, arith}
use Rattle.std.specs.declared.option.Option.{Option}
use Rattle.std.proofs.lemmas.Bool.{cases_lt}
use Rattle.std.proofs.lemmas.List.{get_or_default}
use Rattle.std.proofs.lemmas.List.Elements.{Contains-append_cases, Contains-append_left, Contains-append_right}
use Rattle.abc_link_names.specs.Bases.{is_interface}
use Rattle.abc_file_types.specs.declared.tables.Abc.{Abc}
use Rattle.abc_link_interfaces.proofs.Adding.{one_more}
use Rattle.abc_link_interfaces.specs.Sets.{AddsNumbers, AddsEach, GathersInterfaces, Set, interfaces_given_by, keys_at}

pub stands : (list : List ℕ) (place x y : ℕ) → place < length list → y ≡ get_or list place y → IsTrue (nat_eq y x) → Contains list x
stands list place x y lt e is = subst (Contains list) (eqb-true y x is) (place, lt, sym e)

-- ---- one list

-- a number that is listed is added by adding nothing
pub listed : (list : List ℕ) (x : ℕ) (b : Bool) → (IsTrue b → Contains list x) → b ≡ true → AddsEach list list (x ∷ []) 1
listed list x b h is = record {
  keeps = λ y d. d;
  each = λ j lt. let z : 0 ≡ j = omega arith in subst (λ (n : ℕ). Contains list (get_or (x ∷ []) n 0)) z (h is);
  only = λ y d. inl d;
}

pub pushed : (old new : List ℕ) (x : ℕ) → new ≡ old ++ x ∷ [] → AddsEach old new (x ∷ []) 1
pushed old new x e = subst (λ (ks : List ℕ). AddsEach old ks (x ∷ []) 1) (sym e) (one_more old x)

pub nothing : (list numbers : List ℕ) → AddsEach list list numbers 0
nothing list numbers = record { keeps = λ y c. c; each = λ j lt. absurd (omega arith); only = λ y c. inl c }

all_added : (old new numbers : List ℕ) → AddsEach old new numbers (length numbers) → AddsNumbers old new numbers
all_added old new numbers a = record {
  keeps = a.keeps;
  adds = λ y c. subst (Contains new) (get_or_default numbers c.0 0 y c.1 ∙ c.2) (a.each c.0 c.1);
  only = a.only;
}

none_added : (list : List ℕ) → AddsNumbers list list []
none_added list = record { keeps = λ y c. c; adds = λ y c. let h = c.1 in absurd (omega arith); only = λ y c. inl c }

both_added : (old mid new xs ys : List ℕ) → AddsNumbers old mid xs → AddsNumbers mid new ys → AddsNumbers old new (xs ++ ys)
both_added old mid new xs ys a b = record {
  keeps = λ y c. b.keeps y (a.keeps y c);
  adds = λ y c. adds y (Contains-append_cases xs ys y c);
  only = λ y c. only y (b.only y c);
}
  where
    adds : (y : ℕ) → Contains xs y ⊎ Contains ys y → Contains new y
    adds y (inl c) = b.keeps y (a.adds y c)
    adds y (inr c) = b.adds y c

    first : (y : ℕ) → Contains old y ⊎ Contains xs y → Contains old y ⊎ Contains (xs ++ ys) y
    first y (inl c) = inl c
    first y (inr c) = inr (Contains-append_left xs ys y c)

    only : (y : ℕ) → Contains mid y ⊎ Contains ys y → Contains old y ⊎ Contains (xs ++ ys) y
    only y (inl c) = first y (a.only y c)
    only y (inr c) = inr (Contains-append_right xs ys y c)

-- ---- what a class gives

pub interface_added : (v : Abc) (k : ℕ) (old new : List ℕ) → IsTrue (is_interface v k) → AddsEach old new (k ∷ []) 1 → AddsNumbers old new (cond (is_interface v k) (k ∷ []) [])
interface_added v k old new is a = subst (λ b. AddsNumbers old new (cond b (k ∷ []) [])) (sym is) (all_added old new (k ∷ []) a)

pub class_passed : (v : Abc) (k : ℕ) (list : List ℕ) → is_interface v k ≡ false → AddsNumbers list list (cond (is_interface v k) (k ∷ []) [])
class_passed v k list is = subst (λ b. AddsNumbers list list (cond b (k ∷ []) [])) (sym is) (none_added list)

pub given_added : (v : Abc) (sets : List (Option Set)) (k : ℕ) (old mid new keys : List ℕ) → AddsNumbers old mid (cond (is_interface v k) (k ∷ []) []) → keys ≡ keys_at sets k → AddsEach mid new keys (length keys) → AddsNumbers old new (interfaces_given_by v sets k)
given_added v sets k old mid new keys a e b = both_added old mid new (cond (is_interface v k) (k ∷ []) []) (keys_at sets k) a (subst (λ ks. AddsNumbers mid new ks) e (all_added mid new keys b))

-- ---- what several classes give

pub none_gathered : (v : Abc) (sets : List (Option Set)) (classes : List ℕ) → GathersInterfaces v sets classes [] 0
none_gathered v sets classes = record { sound = λ y c. let h = c.1 in absurd (omega arith); complete = λ j y lt. absurd (omega arith) }

pub next_gathered : (v : Abc) (sets : List (Option Set)) (classes old new : List ℕ) (k i : ℕ) → GathersInterfaces v sets classes old i → AddsNumbers old new (interfaces_given_by v sets k) → i < length classes → get_or classes i 0 ≡ k → GathersInterfaces v sets classes new (i + 1)
next_gathered v sets classes old new k i g a lt e = record {
  sound = λ y c. sound y (a.only y c);
  complete = λ j y le c. complete j y le c (cases_lt j i);
}
  where
    sound : (y : ℕ) → Contains old y ⊎ Contains (interfaces_given_by v sets k) y → (t : ℕ) × Contains classes t × Contains (interfaces_given_by v sets t) y
    sound y (inl c) = g.sound y c
    sound y (inr c) = (k, (i, lt, get_or_default classes i k 0 lt ∙ e), c)

    complete : (j y : ℕ) → j < i + 1 → Contains (interfaces_given_by v sets (get_or classes j 0)) y → (j < i) ⊎ (i ≤ j) → Contains new y
    complete j y le c (inl low) = a.keeps y (g.complete j y low c)
    complete j y le c (inr high) = let q : j ≡ i = omega arith in a.adds y (subst (λ t. Contains (interfaces_given_by v sets t) y) (ap (λ n. get_or classes n 0) q ∙ e) c)

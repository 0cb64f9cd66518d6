-- Needs with the parts of a name opened, one after the other.
use Rattle.std.proofs.Common.{◌≡◌, ℕ, zero, suc, ◌+◌, ◌*◌, ◌^◌, ◌<◌, ◌≤◌, Bool, true, false, cond, ◌&&◌, List, [], ◌∷◌, ◌++◌, length, drop, get_or, set, refl, sym, ap, ◌∙◌, arith, length-append}
use Rattle.std.specs.Prelude.{filter, flat_map}
use Rattle.abc_link_names.specs.declared.types.Kind.{Kind}
use Rattle.abc_link_names.specs.declared.types.Kind.TheVariants.{Any}
use Rattle.abc_verify_typing.specs.declared.row.Need.{Need}
use Rattle.abc_verify_typing.specs.declared.row.Need.TheVariants.{Value, Namespace, Index, Slotted, Instance, Runtime}
use Rattle.abc_verify_states.specs.declared.names.Parts.{Parts}
use Rattle.abc_verify_states.specs.Needs.{parts_of}
use Rattle.abc_verify_typing.specs.declared.catch.Catch.{Catch}
use Rattle.abc_verify_typing.specs.Effects.{Here, kind_at, receiver_kind, parts_of_need}
use Rattle.abc_verify.specs.Visits.{kind_at_need}
use Rattle.abc_verify_typing.specs.Rules.{all_suit, suits}
use Rattle.abc_verify_typing.specs.declared.rule.VerifyRule.{VerifyRule}

-- ---- lists

append_nothing : {X : Type 0} (xs : List X) → xs ++ [] ≡ xs
append_nothing [] = refl
append_nothing {X} (x ∷ xs) = ap (λ (ys : List X). x ∷ ys) (append_nothing xs)

drop_more : {X : Type 0} (n k : ℕ) (xs : List X) → drop k (drop n xs) ≡ drop (n + k) xs
drop_more {X} zero k xs = let z : k ≡ 0 + k = omega arith in ap (λ (n : ℕ). drop n xs) z
drop_more {X} (suc n) k [] = nothing k ∙ let z : suc (n + k) ≡ suc n + k = omega arith in ap (λ (m : ℕ). drop m []) z
  where
    nothing : (k : ℕ) → drop {A = X} k [] ≡ []
    nothing zero = refl
    nothing (suc k) = refl
drop_more (suc n) k (x ∷ xs) = drop_more n k xs ∙ let z : suc (n + k) ≡ suc n + k = omega arith in ap (λ (m : ℕ). drop m (x ∷ xs)) z

-- ---- counts

product : (k a b : ℕ) → a ≤ k → a * b ≤ k * b
product k zero b h = omega arith
product zero (suc a) b h = absurd (omega arith)
product (suc k) (suc a) b h = let z = product k a b (omega arith) in omega (arith, z)

pub product_fits : (a b : ℕ) → a < 256 → b < 2 ^ 32 → a * b < 2 ^ 40
product_fits a b x y = let z = product 255 a b (omega arith) in omega (arith, z)

pub one_count : (f : Need → List Need) (a : Need) (x : ℕ) → x ≡ length (f a) → x ≡ length (flat_map f (a ∷ []))
one_count f a x e = e ∙ sym (ap (λ (ns : List Need). length ns) (append_nothing (f a)))

pub two_count : (f : Need → List Need) (a b : Need) (x y : ℕ) → x ≡ length (f a) → y ≡ length (f b) → x + y ≡ length (flat_map f (a ∷ b ∷ []))
two_count f a b x y e g = ap (λ n. n + y) e ∙ ap (λ n. length (f a) + n) (g ∙ sym (ap (λ (ns : List Need). length ns) (append_nothing (f b)))) ∙ sym (length-append (f a) (f b ++ []))

pub three_count : (f : Need → List Need) (a b c : Need) (x y z : ℕ) → x ≡ length (f a) → y ≡ length (f b) → z ≡ length (f c) → x + y + z ≡ length (flat_map f (a ∷ b ∷ c ∷ []))
three_count f a b c x y z e g h =
    let two : length (flat_map f (b ∷ c ∷ [])) ≡ y + z = sym (two_count f b c y z g h) in
    let all = length-append (f a) (flat_map f (b ∷ c ∷ [])) in
    omega (arith, e, two, all)

-- ---- what rules ask

pub one_there : (h : Here) (r : VerifyRule) (n : Need) (ks : List Kind) (k : ℕ) → k < length ks → suits h r n (get_or ks k Any) ≡ all_suit h r (n ∷ []) (drop k ks)
one_there h r n [] k lt = absurd (omega arith)
one_there h r n (x ∷ ks) zero lt = with_true (suits h r n x)
  where
    with_true : (b : Bool) → b ≡ (b && true)
    with_true true = refl
    with_true false = refl
one_there h r n (x ∷ ks) (suc k) lt = one_there h r n ks k (omega arith)

pub one_gone : (h : Here) (r : VerifyRule) (n : Need) (ks : List Kind) (k : ℕ) → length ks ≤ k → true ≡ all_suit h r (n ∷ []) (drop k ks)
one_gone h r n [] zero le = refl
one_gone h r n [] (suc k) le = refl
one_gone h r n (x ∷ ks) zero le = absurd (omega arith)
one_gone h r n (x ∷ ks) (suc k) le = one_gone h r n ks k (omega arith)

suit_nothing : (h : Here) (r : VerifyRule) (ns : List Need) → all_suit h r ns [] ≡ true
suit_nothing h r [] = refl
suit_nothing h r (n ∷ ns) = refl

-- two lists of needs, the second below the first
suit_append : (h : Here) (r : VerifyRule) (ms ns : List Need) (ks : List Kind) → all_suit h r (ms ++ ns) ks ≡ (all_suit h r ms ks && all_suit h r ns (drop (length ms) ks))
suit_append h r [] ns [] = refl
suit_append h r [] ns (k ∷ ks) = refl
suit_append h r (m ∷ ms) ns [] = sym (suit_nothing h r ns)
suit_append h r (m ∷ ms) ns (k ∷ ks) = ap (λ (b : Bool). suits h r m k && b) (suit_append h r ms ns ks) ∙ assoc (suits h r m k) (all_suit h r ms ks) (all_suit h r ns (drop (length ms) ks))
  where
    assoc : (a b c : Bool) → (a && (b && c)) ≡ ((a && b) && c)
    assoc true b c = refl
    assoc false b c = refl

-- the same, from so deep on
suit_at : (h : Here) (r : VerifyRule) (ms ns : List Need) (ks : List Kind) (at n : ℕ) → n ≡ length ms → all_suit h r (ms ++ ns) (drop at ks) ≡ (all_suit h r ms (drop at ks) && all_suit h r ns (drop (at + n) ks))
suit_at h r ms ns ks at n e =
    suit_append h r ms ns (drop at ks)
    ∙ ap (λ (us : List Kind). all_suit h r ms (drop at ks) && all_suit h r ns us) (drop_more at (length ms) ks ∙ ap (λ k. drop (at + k) ks) (sym e))

both_suit : (h : Here) (r : VerifyRule) (a b : Need) (ks : List Kind) (at : ℕ) → (all_suit h r (a ∷ []) (drop at ks) && all_suit h r (b ∷ []) (drop (at + 1) ks)) ≡ all_suit h r (a ∷ b ∷ []) (drop at ks)
both_suit h r a b ks at = sym (suit_at h r (a ∷ []) (b ∷ []) ks at 1 refl)

two_parts : (x : Parts) → x.name ≡ true → x.space ≡ true → parts_of x ≡ Value ∷ Namespace ∷ []
two_parts x name space =
    ap (λ (b : Bool). cond b (Value ∷ []) [] ++ cond x.space (Namespace ∷ []) []) name
    ∙ ap (λ (b : Bool). (Value ∷ []) ++ cond b (Namespace ∷ []) []) space

-- the second of two tests, where the first says yes
second : (p a b : Bool) → p ≡ a → p ≡ true → b ≡ (a && b)
second p a b is holds = sym (ap (λ (x : Bool). x && b) (sym is ∙ holds))

-- the first says no
first : (p a b : Bool) → p ≡ a → p ≡ false → p ≡ (a && b)
first p a b is fails = fails ∙ sym (ap (λ (x : Bool). x && b) (sym is ∙ fails))

-- both parts of a name, where the value above is what the rule asks
pub parts_suit : (h : Here) (r : VerifyRule) (x : Parts) (ks : List Kind) (at : ℕ) (p q : Bool) → x.name ≡ true → x.space ≡ true → p ≡ all_suit h r (Value ∷ []) (drop at ks) → p ≡ true
    → q ≡ all_suit h r (Namespace ∷ []) (drop (at + 1) ks) → q ≡ all_suit h r (parts_of x) (drop at ks)
parts_suit h r x ks at p q name space one holds two =
    two
    ∙ second p (all_suit h r (Value ∷ []) (drop at ks)) (all_suit h r (Namespace ∷ []) (drop (at + 1) ks)) one holds
    ∙ both_suit h r Value Namespace ks at
    ∙ sym (ap (λ (ns : List Need). all_suit h r ns (drop at ks)) (two_parts x name space))

pub one_suits : (h : Here) (r : VerifyRule) (f : Need → List Need) (a : Need) (ks : List Kind) → all_suit h r (f a) ks ≡ all_suit h r (flat_map f (a ∷ [])) ks
one_suits h r f a ks = ap (λ (ns : List Need). all_suit h r ns ks) (sym (append_nothing (f a)))

-- a need, and those below it, where the values of the first are what the rule asks
pub more_suit : (h : Here) (r : VerifyRule) (f : Need → List Need) (a : Need) (ns : List Need) (ks : List Kind) (at m : ℕ) (p q : Bool) → m ≡ length (f a) → p ≡ all_suit h r (f a) (drop at ks) → p ≡ true
    → q ≡ all_suit h r (flat_map f ns) (drop (at + m) ks) → q ≡ all_suit h r (flat_map f (a ∷ ns)) (drop at ks)
more_suit h r f a ns ks at m p q long one holds two =
    two
    ∙ second p (all_suit h r (f a) (drop at ks)) (all_suit h r (flat_map f ns) (drop (at + m) ks)) one holds
    ∙ sym (suit_at h r (f a) (flat_map f ns) ks at m long)

-- and where they are not
pub first_fails : (h : Here) (r : VerifyRule) (f : Need → List Need) (a : Need) (ns : List Need) (ks : List Kind) (at m : ℕ) (p : Bool) → m ≡ length (f a) → p ≡ all_suit h r (f a) (drop at ks) → p ≡ false
    → p ≡ all_suit h r (flat_map f (a ∷ ns)) (drop at ks)
first_fails h r f a ns ks at m p long one fails =
    first p (all_suit h r (f a) (drop at ks)) (all_suit h r (flat_map f ns) (drop (at + m) ks)) one fails
    ∙ sym (suit_at h r (f a) (flat_map f ns) ks at m long)

-- ---- receivers

or_any_at : (ks : List Kind) (k : ℕ) → get_or ks k Any ≡ kind_at ks k
or_any_at [] k = refl
or_any_at (x ∷ ks) zero = refl
or_any_at (x ∷ ks) (suc k) = or_any_at ks k

get_dropped : (ks : List Kind) (at k : ℕ) → get_or ks (at + k) Any ≡ get_or (drop at ks) k Any
get_dropped ks zero k = let z : 0 + k ≡ k = omega arith in ap (λ (n : ℕ). get_or ks n Any) z
get_dropped [] (suc at) k = refl
get_dropped (x ∷ ks) (suc at) k = let z : suc at + k ≡ suc (at + k) = omega arith in ap (λ (n : ℕ). get_or (x ∷ ks) n Any) z ∙ get_dropped ks at k

pub taken_at : (ks : List Kind) (at k : ℕ) → get_or ks (at + k) Any ≡ kind_at (drop at ks) k
taken_at ks at k = get_dropped ks at k ∙ or_any_at (drop at ks) k

-- a need that is not Slotted is passed
abbrev IsPassed : Need → Type 0
IsPassed Slotted = ⊥
IsPassed need = Unit {0}

receiver_nothing : (ns : List Need) → receiver_kind ns [] ≡ Any
receiver_nothing [] = refl
receiver_nothing (Value ∷ ns) = refl
receiver_nothing (Namespace ∷ ns) = refl
receiver_nothing (Index ∷ ns) = refl
receiver_nothing (Slotted ∷ ns) = refl
receiver_nothing (Instance ∷ ns) = refl
receiver_nothing (Runtime ∷ ns) = refl

pass : (n : Need) (ns : List Need) (ks : List Kind) → IsPassed n → receiver_kind (n ∷ ns) ks ≡ receiver_kind ns (drop 1 ks)
pass n ns [] h = receiver_nothing (n ∷ ns) ∙ sym (receiver_nothing ns)
pass Value ns (k ∷ ks) h = refl
pass Namespace ns (k ∷ ks) h = refl
pass Index ns (k ∷ ks) h = refl
pass Slotted ns (k ∷ ks) h = absurd h
pass Instance ns (k ∷ ks) h = refl
pass Runtime ns (k ∷ ks) h = refl

pass_at : (n : Need) (ns : List Need) (ks : List Kind) (at : ℕ) → IsPassed n → receiver_kind (n ∷ ns) (drop at ks) ≡ receiver_kind ns (drop (at + 1) ks)
pass_at n ns ks at h = pass n ns (drop at ks) h ∙ ap (λ (us : List Kind). receiver_kind ns us) (drop_more at 1 ks)

slotted_at : (ns : List Need) (ks : List Kind) (at : ℕ) → get_or ks at Any ≡ receiver_kind (Slotted ∷ ns) (drop at ks)
slotted_at ns [] zero = refl
slotted_at ns [] (suc at) = refl
slotted_at ns (k ∷ ks) zero = refl
slotted_at ns (k ∷ ks) (suc at) = slotted_at ns ks at

-- the parts of a name are no values that have slots
pass_parts : (x : Parts) (ns : List Need) (ks : List Kind) (at : ℕ) → receiver_kind (parts_of x ++ ns) (drop at ks) ≡ receiver_kind ns (drop (at + length (parts_of x)) ks)
pass_parts x ns ks at = go x.name x.space
  where
    go : (a b : Bool) → receiver_kind ((cond a (Value ∷ []) [] ++ cond b (Namespace ∷ []) []) ++ ns) (drop at ks) ≡ receiver_kind ns (drop (at + length (cond a (Value ∷ []) [] ++ cond b (Namespace ∷ []) [])) ks)
    go true true = let z : at + 1 + 1 ≡ at + 2 = omega arith in pass_at Value (Namespace ∷ ns) ks at tt ∙ pass_at Namespace ns ks (at + 1) tt ∙ ap (λ (n : ℕ). receiver_kind ns (drop n ks)) z
    go true false = pass_at Value ns ks at tt
    go false true = pass_at Namespace ns ks at tt
    go false false = let z : at ≡ at + 0 = omega arith in ap (λ (n : ℕ). receiver_kind ns (drop n ks)) z

-- one need, and those below it
pub picks : (x : Parts) (n : Need) (ns : List Need) (ks : List Kind) (at : ℕ) → kind_at_need n (get_or ks at Any) (receiver_kind ns (drop (at + length (parts_of_need (parts_of x) n)) ks)) ≡ receiver_kind (parts_of_need (parts_of x) n ++ ns) (drop at ks)
picks x Value ns ks at = sym (pass_at Value ns ks at tt)
picks x Namespace ns ks at = sym (pass_at Namespace ns ks at tt)
picks x Index ns ks at = sym (pass_at Index ns ks at tt)
picks x Slotted ns ks at = slotted_at ns ks at
picks x Instance ns ks at = sym (pass_at Instance ns ks at tt)
picks x Runtime ns ks at = sym (pass_parts x ns ks at)

pub one_receiver : (x : Parts) (a : Need) (ks : List Kind) (at : ℕ) → kind_at_need a (get_or ks at Any) Any ≡ receiver_kind (flat_map (parts_of_need (parts_of x)) (a ∷ [])) (drop at ks)
one_receiver x a ks at = picks x a [] ks at

pub two_receiver : (x : Parts) (a b : Need) (ks : List Kind) (at m : ℕ) → m ≡ length (parts_of_need (parts_of x) a)
    → kind_at_need a (get_or ks at Any) (kind_at_need b (get_or ks (at + m) Any) Any) ≡ receiver_kind (flat_map (parts_of_need (parts_of x)) (a ∷ b ∷ [])) (drop at ks)
two_receiver x a b ks at m long =
    ap (kind_at_need a (get_or ks at Any)) (one_receiver x b ks (at + m) ∙ ap (λ (n : ℕ). receiver_kind (parts_of_need (parts_of x) b ++ []) (drop (at + n) ks)) long)
    ∙ picks x a (parts_of_need (parts_of x) b ++ []) ks at

pub three_receiver : (x : Parts) (a b c : Need) (ks : List Kind) (at m n : ℕ) → m ≡ length (parts_of_need (parts_of x) a) → n ≡ length (parts_of_need (parts_of x) b)
    → kind_at_need a (get_or ks at Any) (kind_at_need b (get_or ks (at + m) Any) (kind_at_need c (get_or ks (at + m + n) Any) Any)) ≡ receiver_kind (flat_map (parts_of_need (parts_of x)) (a ∷ b ∷ c ∷ [])) (drop at ks)
three_receiver x a b c ks at m n long more =
    ap (kind_at_need a (get_or ks at Any)) (two_receiver x b c ks (at + m) n more ∙ ap (λ (k : ℕ). receiver_kind (parts_of_need (parts_of x) b ++ (parts_of_need (parts_of x) c ++ [])) (drop (at + k) ks)) long)
    ∙ picks x a (parts_of_need (parts_of x) b ++ (parts_of_need (parts_of x) c ++ [])) ks at

-- ---- locals

pub set_past : {X : Type 0} (xs : List X) (k : ℕ) (x : X) → length xs ≤ k → xs ≡ set xs k x
set_past [] k x h = refl
set_past (y ∷ xs) zero x h = absurd (omega arith)
set_past {X} (y ∷ xs) (suc k) x h = ap (λ (ys : List X). y ∷ ys) (set_past xs k x (omega arith))

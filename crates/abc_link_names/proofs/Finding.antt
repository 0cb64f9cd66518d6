-- Layouts are found by their parts, and a base has a lower number.
use Rattle.std.proofs.Common.{◌≡◌, ℕ, ◌<◌, ◌≤◌, ◌⊎◌, inl, inr, Bool, true, false, ◌&&◌, List, Contains, Some, None, map, length, take, get_or, nat_eq, eq-eqb, eqb-true, unwrap_or, refl, sym, ap, ◌∙◌, arith}
use Rattle.std.specs.declared.option.Option.{Option}
use Rattle.std.specs.Prelude.{if◌then◌else◌}
use Rattle.std.proofs.lemmas.Bool.{cases_lt, false≢true}
use Rattle.std.proofs.lemmas.List.{get_or-map, get_or-take, get_or_default, get_or_past, length-map, length-take}
use Rattle.abc_base.specs.declared.names.HostClass.{HostClass}
use Rattle.abc_base.specs.declared.names.HostClass.TheVariants as hosts
use Rattle.abc_base_graphs.specs.Ways.{IsFalling}
use Rattle.abc_file_types.specs.declared.tables.Abc.{Abc}
use Rattle.abc_link_names.proofs.ItemsPairs.{first_found, first_hit}
use Rattle.abc_link_names.specs.Numbering.{IsNumbering, part_at}
use Rattle.abc_link_names.specs.Parts.{HasLayout, parent}
use Rattle.abc_link_names.specs.Places.{base_of, host_number, key_eq, key_with, part_key, place_of_part, place_under}
use Rattle.abc_link_names.specs.declared.key.PartKey.{PartKey}
use Rattle.abc_link_names.specs.declared.part.Part.{Part}
use Rattle.abc_link_names.specs.declared.part.Part.TheVariants as parts

-- ---- a part's key tells the part

both : (a b : Bool) → (a && b) ≡ true → (a ≡ true) × (b ≡ true)
both true b e = (refl, e)
both false b e = absurd (false≢true e)

host_at : ℕ → HostClass
host_at n =
    if nat_eq n 0 then hosts.Object else if nat_eq n 1 then hosts.Class else if nat_eq n 2 then hosts.Function else if nat_eq n 3 then hosts.Namespace
    else if nat_eq n 4 then hosts.Str else if nat_eq n 5 then hosts.Int else if nat_eq n 6 then hosts.UInt else if nat_eq n 7 then hosts.Number
    else if nat_eq n 8 then hosts.Boolean else if nat_eq n 9 then hosts.Error else if nat_eq n 10 then hosts.TypeError
    else if nat_eq n 11 then hosts.ReferenceError else if nat_eq n 12 then hosts.ArgumentError else hosts.Array

host_back : (h : HostClass) → host_at (host_number h) ≡ h
unfolding host_at
host_back hosts.Object = refl
host_back hosts.Class = refl
host_back hosts.Function = refl
host_back hosts.Namespace = refl
host_back hosts.Str = refl
host_back hosts.Int = refl
host_back hosts.UInt = refl
host_back hosts.Number = refl
host_back hosts.Boolean = refl
host_back hosts.Error = refl
host_back hosts.TypeError = refl
host_back hosts.ReferenceError = refl
host_back hosts.ArgumentError = refl
host_back hosts.Array = refl

part_with : ℕ → ℕ → ℕ → Part
part_with kind n e =
    if nat_eq kind 0 then parts.Host (host_at n) else if nat_eq kind 1 then parts.Instance n else if nat_eq kind 2 then parts.ClassObject n
    else if nat_eq kind 3 then parts.HostClassObject (host_at n) else if nat_eq kind 4 then parts.Global n else if nat_eq kind 5 then parts.Activation n else parts.Catch n e

part_back : (p : Part) → part_with (part_key p).kind (part_key p).number (part_key p).exception ≡ p
unfolding part_with
part_back (parts.Host h) = ap (λ x. parts.Host x) (host_back h)
part_back (parts.Instance k) = refl
part_back (parts.ClassObject k) = refl
part_back (parts.HostClassObject h) = ap (λ x. parts.HostClassObject x) (host_back h)
part_back (parts.Global s) = refl
part_back (parts.Activation b) = refl
part_back (parts.Catch b e) = refl

pub same_part : (p q : Part) → key_eq (part_key p) (part_key q) ≡ true → p ≡ q
same_part p q e =
    let a = both (nat_eq (part_key p).kind (part_key q).kind) (nat_eq (part_key p).number (part_key q).number && nat_eq (part_key p).exception (part_key q).exception) e in
    let b = both (nat_eq (part_key p).number (part_key q).number) (nat_eq (part_key p).exception (part_key q).exception) a.1 in
    let k = eqb-true (part_key p).kind (part_key q).kind a.0 in
    let n = eqb-true (part_key p).number (part_key q).number b.0 in
    let x = eqb-true (part_key p).exception (part_key q).exception b.1 in
    sym (part_back p)
    ∙ ap (λ m. part_with m (part_key p).number (part_key p).exception) k
    ∙ ap (λ m. part_with (part_key q).kind m (part_key p).exception) n
    ∙ ap (part_with (part_key q).kind (part_key q).number) x
    ∙ part_back q

pub key_self : (k : PartKey) → key_eq k k ≡ true
key_self k =
    ap (λ b. b && (nat_eq k.number k.number && nat_eq k.exception k.exception)) (eq-eqb k.kind k.kind refl)
    ∙ ap (λ b. b && nat_eq k.exception k.exception) (eq-eqb k.number k.number refl)
    ∙ eq-eqb k.exception k.exception refl

top : Part
top = parts.Host hosts.Object

abbrev no_key : PartKey
no_key = key_with 0 0 0

-- a part that is there is found, no later than any of its places
pub place_low : (all : List Part) (p : Part) (k : ℕ) → k < length all → part_at all k ≡ p → (place_of_part all p ≤ k) × (part_at all (place_of_part all p) ≡ p)
place_low all p k lt e =
    let keys = map part_key all in
    let within : k < length (map part_key all) = omega (arith, length-map all part_key) in
    let at : get_or (map part_key all) k no_key ≡ part_key p = get_or-map part_key all k (parts.Host hosts.Object) no_key lt ∙ ap part_key e in
    let pass : key_eq (part_key p) (get_or (map part_key all) k no_key) ≡ true = ap (key_eq (part_key p)) at ∙ key_self (part_key p) in
    let f = first_found (key_eq (part_key p)) (map part_key all) no_key k within pass in
    let is : place_of_part all p ≡ f.0 = ap (λ o. unwrap_or o 0) f.1 in
    let h = first_hit (key_eq (part_key p)) (map part_key all) no_key f.0 f.1 in
    let low : f.0 < length all = omega (arith, h.0, length-map all part_key) in
    let there : get_or (map part_key all) f.0 no_key ≡ part_key (part_at all f.0) = get_or-map part_key all f.0 (parts.Host hosts.Object) no_key low in
    let same : p ≡ part_at all f.0 = same_part p (part_at all f.0) (sym (ap (key_eq (part_key p)) there) ∙ h.1) in
    (omega (arith, is, f.2), ap (part_at all) is ∙ sym same)

-- every part that has a layout is found at its place
pub found : (v : Abc) (all : List Part) → IsNumbering v all → (p : Part) → HasLayout v p → part_at all (place_of_part all p) ≡ p
found v all n p has = let c = n.every p has in (place_low all p c.0 c.1 (get_or_default all c.0 (parts.Host hosts.Object) p c.1 ∙ c.2)).1

-- what a layout stands under has a lower number
pub falling : (v : Abc) (all : List Part) → IsNumbering v all → IsFalling (base_of v all)
falling v all n = record { falls = λ x y e. go x y (cases_lt x (length all)) (parent v (part_at all x)) refl e }
  where
    go : (x y : ℕ) → (x < length all) ⊎ (length all ≤ x) → (o : Option Part) → parent v (part_at all x) ≡ o → place_under all o ≡ Some y → y < x
    go x y c None f e = cc
    go x y (inr le) (Some q) f e =
        let past : part_at all x ≡ parts.Host hosts.Object = get_or_past all x (parts.Host hosts.Object) le in
        let none : parent v (parts.Host hosts.Object) ≡ Some q = sym (ap (parent v) past) ∙ f in cc
    go x y (inl lt) (Some q) f e =
        let c = n.behind.behind x q lt f in
        let k = c.0 in
        let short : c.0 < x = omega (arith, c.1, length-take x all) in
        let at : part_at all c.0 ≡ q = sym (get_or-take x all c.0 (parts.Host hosts.Object) short) ∙ get_or_default (take x all) c.0 (parts.Host hosts.Object) q c.1 ∙ c.2 in
        let h = place_low all q c.0 (omega arith) at in
        let is : place_of_part all q ≡ y = cc in
        omega (arith, is, h.0, short)

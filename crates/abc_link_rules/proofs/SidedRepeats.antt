-- Two traits of one table clash exactly where a name stands first elsewhere, on no other side, or on the same side.
use Rattle.std.proofs.Common.{◌≡◌, ℕ, ◌<◌, ◌≤◌, Bool, true, false, ◌&&◌, ◌||◌, not, List, [], Some, None, map, length, get_or, nat_eq, Ok, Err, IfOk, eq-eqb, eqb-true, ◌⊎◌, inl, inr, refl, sym, ap, ◌∙◌, arith}
use Rattle.std.specs.declared.option.Option.{Option}
use Rattle.std.specs.declared.result.Result.{Result}
use Rattle.std.proofs.lemmas.Bool.{false≢true}
use Rattle.std.proofs.lemmas.List.{get_or-map, length-map}
use Rattle.std.specs.declared.hash.FoldHasher.{FoldHasher}
use Rattle.std.specs.declared.hash.BuildHasherDefault.{BuildHasherDefault}
use Rattle.std.specs.Map.{lookup}
use Rattle.indexmap.specs.IndexMap.{get, IndexMap}
use Rattle.abc_base_graphs.specs.Index.{first}
use Rattle.abc_link_names.specs.Keys.{keys_eq, name_key, same_name}
use Rattle.abc_link_names.specs.Pool.{name, qname}
use Rattle.abc_link_names.specs.declared.keys.NameKey.{NameKey}
use Rattle.abc_link_names.specs.declared.named.DefiniteName.{DefiniteName}
use Rattle.abc_file_types.specs.declared.tables.Abc.{Abc}
use Rattle.abc_file_types.specs.declared.traits.TraitBody.{TraitBody}
use Rattle.abc_file_types.specs.declared.traits.TraitBody.TheVariants as traits
use Rattle.abc_file_types.specs.declared.traits.TraitInfo.{TraitInfo}
use Rattle.abc_link_rules.specs.declared.same_name.SidedKey.{SidedKey}
use Rattle.abc_link_rules.specs.Clashes.{TellsSides, first_of_both, first_of_name, is_clash_of}
use Rattle.abc_link_rules.specs.Repeats.{side_of, opposite, sided_key, sided_eq, keys_clash, no_repeat_key, no_sided, clashes_with, is_elsewhere, clashes_at}
use Rattle.abc_link_names.specs.ItemTypes.{any_pair, are_accessors, names_clash}
use Rattle.abc_link_names.proofs.ItemsPairs.{first_found, first_hit, first_low, pair_found, pair_makes, pair_map}

both : (a b : Bool) → (a && b) ≡ true → (a ≡ true) × (b ≡ true)
both true b e = (refl, e)
both false b e = absurd (false≢true e)

was_false : (b : Bool) → not b ≡ true → b ≡ false
was_false true e = absurd (false≢true e)
was_false false e = refl

differ : (m n : ℕ) → (m ≡ n → ⊥) → nat_eq m n ≡ false
differ m n ne = at (nat_eq m n) refl
  where
    at : (c : Bool) → nat_eq m n ≡ c → nat_eq m n ≡ false
    at true q = absurd (ne (eqb-true m n q))
    at false q = q

-- ---- keys

abbrev key_with : ℕ → ℕ → ℕ → ℕ → NameKey
key_with t c n l = record { text = t; code = c; name = n; place = l }

key_same : (a b : NameKey) → keys_eq a b ≡ true → a ≡ b
key_same a b e =
    let p = both (nat_eq a.text b.text) (nat_eq a.code b.code && (nat_eq a.name b.name && nat_eq a.place b.place)) e in
    let q = both (nat_eq a.code b.code) (nat_eq a.name b.name && nat_eq a.place b.place) p.1 in
    let r = both (nat_eq a.name b.name) (nat_eq a.place b.place) q.1 in
    let t = eqb-true a.text b.text p.0 in
    let c = eqb-true a.code b.code q.0 in
    let n = eqb-true a.name b.name r.0 in
    let l = eqb-true a.place b.place r.1 in
    ap (λ x. key_with x a.code a.name a.place) t ∙ ap (λ x. key_with b.text x a.name a.place) c ∙ ap (λ x. key_with b.text b.code x a.place) n
    ∙ ap (λ x. key_with b.text b.code b.name x) l

key_self : (a : NameKey) → keys_eq a a ≡ true
key_self a =
    ap (λ x. x && (nat_eq a.code a.code && (nat_eq a.name a.name && nat_eq a.place a.place))) (eq-eqb a.text a.text refl)
    ∙ ap (λ x. x && (nat_eq a.name a.name && nat_eq a.place a.place)) (eq-eqb a.code a.code refl)
    ∙ ap (λ x. x && nat_eq a.place a.place) (eq-eqb a.name a.name refl)
    ∙ eq-eqb a.place a.place refl

key_equal : (a b : NameKey) → a ≡ b → keys_eq a b ≡ true
key_equal a b e = ap (keys_eq a) (sym e) ∙ key_self a

-- ---- sides

opposite_self : (x : ℕ) → opposite x x ≡ false
opposite_self x = go (opposite x x) refl
  where
    one : (a b : Bool) → (a ≡ true → b ≡ true → ⊥) → (a && b) ≡ false
    one true true f = absurd (f refl refl)
    one true false f = refl
    one false b f = refl

    go : (c : Bool) → opposite x x ≡ c → opposite x x ≡ false
    go c e =
        let l : (nat_eq x 1 && nat_eq x 2) ≡ false = one (nat_eq x 1) (nat_eq x 2) (λ p q. let h = eqb-true x 1 p in let k = eqb-true x 2 q in omega arith) in
        let r : (nat_eq x 2 && nat_eq x 1) ≡ false = one (nat_eq x 2) (nat_eq x 1) (λ p q. let h = eqb-true x 2 p in let k = eqb-true x 1 q in omega arith) in
        ap (λ b. b || (nat_eq x 2 && nat_eq x 1)) l ∙ r

cases : (x y : ℕ) → opposite x y ≡ true → ((x ≡ 1) × (y ≡ 2)) ⊎ ((x ≡ 2) × (y ≡ 1))
cases x y e = go (nat_eq x 1 && nat_eq y 2) refl e
  where
    go : (b : Bool) → (nat_eq x 1 && nat_eq y 2) ≡ b → (b || (nat_eq x 2 && nat_eq y 1)) ≡ true → ((x ≡ 1) × (y ≡ 2)) ⊎ ((x ≡ 2) × (y ≡ 1))
    go true p f = let q = both (nat_eq x 1) (nat_eq y 2) p in inl (eqb-true x 1 q.0, eqb-true y 2 q.1)
    go false p f = let q = both (nat_eq x 2) (nat_eq y 1) f in inr (eqb-true x 2 q.0, eqb-true y 1 q.1)

same_side : (x y z : ℕ) → opposite x y ≡ true → opposite x z ≡ true → y ≡ z
same_side x y z e f = go (cases x y e) (cases x z f)
  where
    go : ((x ≡ 1) × (y ≡ 2)) ⊎ ((x ≡ 2) × (y ≡ 1)) → ((x ≡ 1) × (z ≡ 2)) ⊎ ((x ≡ 2) × (z ≡ 1)) → y ≡ z
    go (inl p) (inl q) = p.1 ∙ sym q.1
    go (inl p) (inr q) = let h = p.0 in let k = q.0 in omega arith
    go (inr p) (inl q) = let h = p.0 in let k = q.0 in omega arith
    go (inr p) (inr q) = p.1 ∙ sym q.1

abbrev sided_with : NameKey → ℕ → SidedKey
sided_with n s = record { name = n; side = s }

sided_same : (a b : SidedKey) → sided_eq a b ≡ true → a ≡ b
sided_same a b e =
    let p = both (keys_eq a.name b.name) (nat_eq a.side b.side) e in
    let n = key_same a.name b.name p.0 in
    let s = eqb-true a.side b.side p.1 in
    ap (λ x. sided_with x a.side) n ∙ ap (sided_with b.name) s

sided_equal : (a b : SidedKey) → a.name ≡ b.name → a.side ≡ b.side → sided_eq a b ≡ true
sided_equal a b n s = ap (λ c. c && nat_eq a.side b.side) (key_equal a.name b.name n) ∙ eq-eqb a.side b.side s

-- ---- a list of keys

abbrev at : List SidedKey → ℕ → SidedKey
at keys i = get_or keys i no_sided

abbrev names_of : List SidedKey → List NameKey
names_of keys = map (λ k. k.name) keys

name_at : (keys : List SidedKey) (i : ℕ) → i < length keys → get_or (names_of keys) i no_repeat_key ≡ (at keys i).name
name_at keys i lt = get_or-map (λ (k : SidedKey). k.name) keys i no_sided no_repeat_key lt

names_len : (keys : List SidedKey) → length (names_of keys) ≡ length keys
names_len keys = length-map keys (λ (k : SidedKey). k.name)

less : (j i : ℕ) → nat_eq j i ≡ false → j ≤ i → j < i
less j i e le = apart (λ (h : j ≡ i). false≢true (sym e ∙ eq-eqb j i h)) le
  where
    apart : (j ≡ i → ⊥) → j ≤ i → j < i
    apart ne le = omega arith

meets_name : (keys : List SidedKey) (i : ℕ) (o : Option ℕ) → i < length keys → first_of_name keys i ≡ o → clashes_with keys o i ≡ true → any_pair keys_clash keys ≡ true
meets_name keys i None lt f e = absurd (false≢true e)
meets_name keys i (Some j) lt f e =
    let p = both (not (nat_eq j i)) (not (opposite (at keys j).side (at keys i).side)) e in
    let test : NameKey → Bool = keys_eq (at keys i).name in
    let h = first_hit test (names_of keys) no_repeat_key j f in
    let within : j < length keys = let q = names_len keys in let l = h.0 in omega arith in
    let same : (at keys i).name ≡ (at keys j).name = key_same (at keys i).name (get_or (names_of keys) j no_repeat_key) h.1 ∙ name_at keys j within in
    let mine : test (get_or (names_of keys) i no_repeat_key) ≡ true = key_equal (at keys i).name (get_or (names_of keys) i no_repeat_key) (sym (name_at keys i lt)) in
    let low : j ≤ i = first_low test (names_of keys) no_repeat_key i j (let q = names_len keys in omega arith) mine f in
    pair_makes keys_clash keys no_sided j i (less j i (was_false (nat_eq j i) p.0) low) lt
    (ap (λ c. c && not (opposite (at keys j).side (at keys i).side)) (key_equal (at keys j).name (at keys i).name (sym same)) ∙ p.1)

meets_sided : (keys : List SidedKey) (i : ℕ) (o : Option ℕ) → i < length keys → first_of_both keys i ≡ o → is_elsewhere o i ≡ true → any_pair keys_clash keys ≡ true
meets_sided keys i None lt f e = absurd (false≢true e)
meets_sided keys i (Some j) lt f e =
    let test : SidedKey → Bool = sided_eq (at keys i) in
    let h = first_hit test keys no_sided j f in
    let same : at keys i ≡ at keys j = sided_same (at keys i) (at keys j) h.1 in
    let low : j ≤ i = first_low test keys no_sided i j lt (sided_equal (at keys i) (at keys i) refl refl) f in
    pair_makes keys_clash keys no_sided j i (less j i (was_false (nat_eq j i) e) low) lt
    (ap (λ (k : SidedKey). keys_clash k (at keys i)) (sym same)
    ∙ ap (λ c. c && not (opposite (at keys i).side (at keys i).side)) (key_self (at keys i).name)
    ∙ ap not (opposite_self (at keys i).side))

meets : (keys : List SidedKey) (i : ℕ) → i < length keys → clashes_at keys (first_of_name keys i) (first_of_both keys i) i ≡ true → any_pair keys_clash keys ≡ true
meets keys i lt e = go (clashes_with keys (first_of_name keys i) i) refl e
  where
    go : (b : Bool) → clashes_with keys (first_of_name keys i) i ≡ b → (b || is_elsewhere (first_of_both keys i) i) ≡ true → any_pair keys_clash keys ≡ true
    go true p f = meets_name keys i (first_of_name keys i) lt refl p
    go false p f = meets_sided keys i (first_of_both keys i) lt refl f

neither : (a b : Bool) → (a || b) ≡ false → (a ≡ false) × (b ≡ false)
neither true b e = absurd (false≢true (sym e))
neither false b e = (refl, e)

-- the first of a name that does not clash with a later one is on the other side
other_side : (keys : List SidedKey) (j i : ℕ) → nat_eq j i ≡ false → clashes_with keys (Some j) i ≡ false → opposite (at keys j).side (at keys i).side ≡ true
other_side keys j i ne e = go (opposite (at keys j).side (at keys i).side) (sym (ap (λ c. not c && not (opposite (at keys j).side (at keys i).side)) ne) ∙ e)
  where
    go : (b : Bool) → not b ≡ false → b ≡ true
    go true f = refl
    go false f = absurd (false≢true (sym f))

never : (keys : List SidedKey) → ((i : ℕ) → i < length keys → clashes_at keys (first_of_name keys i) (first_of_both keys i) i ≡ false)
    → (a b : ℕ) → a < b → b < length keys → keys_clash (at keys a) (at keys b) ≡ true → ⊥
never keys none a b lt within e =
    let p = both (keys_eq (at keys a).name (at keys b).name) (not (opposite (at keys a).side (at keys b).side)) e in
    let same : (at keys a).name ≡ (at keys b).name = key_same (at keys a).name (at keys b).name p.0 in
    let test : NameKey → Bool = keys_eq (at keys b).name in
    let at_a : test (get_or (names_of keys) a no_repeat_key) ≡ true = key_equal (at keys b).name (get_or (names_of keys) a no_repeat_key) (sym same ∙ sym (name_at keys a (omega arith))) in
    let f = first_found test (names_of keys) no_repeat_key a (let q = names_len keys in omega arith) at_a in
    let le = f.2 in
    let of_a : first_of_name keys a ≡ Some f.0 = ap (λ (k : NameKey). first (keys_eq k) (names_of keys)) same ∙ f.1 in
    let nb = neither (clashes_with keys (first_of_name keys b) b) (is_elsewhere (first_of_both keys b) b) (none b within) in
    let na = neither (clashes_with keys (first_of_name keys a) a) (is_elsewhere (first_of_both keys a) a) (none a (omega arith)) in
    let j_b : nat_eq f.0 b ≡ false = differ f.0 b (omega arith) in
    let over_b : opposite (at keys f.0).side (at keys b).side ≡ true = other_side keys f.0 b j_b (sym (ap (λ o. clashes_with keys o b) f.1) ∙ nb.0) in
    let is_a = at_first f.0 over_b (was_false (opposite (at keys a).side (at keys b).side) p.1) in
    let over_a : opposite (at keys f.0).side (at keys a).side ≡ true = other_side keys f.0 a is_a (sym (ap (λ o. clashes_with keys o a) of_a) ∙ na.0) in
    let sides : (at keys a).side ≡ (at keys b).side = same_side (at keys f.0).side (at keys a).side (at keys b).side over_a over_b in
    let g = first_found (sided_eq (at keys b)) keys no_sided a (omega arith) (sided_equal (at keys b) (at keys a) (sym same) (sym sides)) in
    let le2 = g.2 in
    let elsewhere : is_elsewhere (first_of_both keys b) b ≡ true = ap (λ o. is_elsewhere o b) g.1 ∙ ap not (differ g.0 b (omega arith)) in
    false≢true (sym nb.1 ∙ elsewhere)
  where
    at_first : (j : ℕ) → opposite (at keys j).side (at keys b).side ≡ true → opposite (at keys a).side (at keys b).side ≡ false → nat_eq j a ≡ false
    at_first j over p = differ j a (λ (h : j ≡ a). false≢true (sym p ∙ sym (ap (λ m. opposite (at keys m).side (at keys b).side) h) ∙ over))

apart : (keys : List SidedKey) → ((i : ℕ) → i < length keys → clashes_at keys (first_of_name keys i) (first_of_both keys i) i ≡ false) → any_pair keys_clash keys ≡ false
apart keys none = go (any_pair keys_clash keys) refl
  where
    go : (c : Bool) → any_pair keys_clash keys ≡ c → any_pair keys_clash keys ≡ false
    go true e = let m = pair_found keys_clash keys no_sided e in absurd (never keys none m.0 m.1 m.2 m.3 m.4)
    go false e = e

-- ---- at a place that was looked up

abbrev Firsts : Type 0 → Type 0
Firsts K = IndexMap K ℕ (BuildHasherDefault FoldHasher)

by_maps : (keys : List SidedKey) (firsts : Firsts NameKey) (sided : Firsts SidedKey) (i : ℕ) → ((k : NameKey) → get keys_eq firsts k ≡ first (keys_eq k) (names_of keys)) → TellsSides keys sided → i < length keys
    → is_clash_of keys firsts sided i ≡ clashes_at keys (first_of_name keys i) (first_of_both keys i) i
by_maps keys firsts sided i f sides lt = ap (λ o. clashes_at keys o (get sided_eq sided (at keys i)) i) (f (at keys i).name) ∙ sides.tells i lt

pub names_meet_in : (keys : List SidedKey) (firsts : Firsts NameKey) (sided : Firsts SidedKey) (i : ℕ) → ((k : NameKey) → get keys_eq firsts k ≡ first (keys_eq k) (map (λ s. s.name) keys)) → TellsSides keys sided
    → i < length keys → is_clash_of keys firsts sided i ≡ true → any_pair keys_clash keys ≡ true
names_meet_in keys firsts sided i f sides lt is = meets keys i lt (sym (by_maps keys firsts sided i f sides lt) ∙ is)

pub names_apart_in : (keys : List SidedKey) (firsts : Firsts NameKey) (sided : Firsts SidedKey) → ((k : NameKey) → get keys_eq firsts k ≡ first (keys_eq k) (map (λ s. s.name) keys)) → TellsSides keys sided
    → ((i : ℕ) → i < length keys → is_clash_of keys firsts sided i ≡ false) → any_pair keys_clash keys ≡ false
names_apart_in keys firsts sided f sides none = apart keys (λ i lt. sym (by_maps keys firsts sided i f sides lt) ∙ none i lt)

-- ---- what tells of sides

-- the first places do
all_tell : (keys : List SidedKey) (sided : Firsts SidedKey) → ((k : SidedKey) → get sided_eq sided k ≡ first (sided_eq k) keys) → TellsSides keys sided
all_tell keys sided g = record { tells = λ i lt. ap (λ o. clashes_at keys (first_of_name keys i) o i) (g (at keys i)) }

pub if_ok_tells : {E : Type 0} (keys : List SidedKey) (r : Result (Firsts SidedKey) E) → IfOk r (λ m. (k : SidedKey) → get sided_eq m k ≡ first (sided_eq k) keys) → IfOk r (λ m. TellsSides keys m)
if_ok_tells keys (Ok m) h = all_tell keys m h
if_ok_tells keys (Err e) h = tt

not_opposite : (x y : ℕ) → y ≡ 0 → opposite x y ≡ false
not_opposite x y e = ap (opposite x) e ∙ go (nat_eq x 1) (nat_eq x 2)
  where
    go : (a b : Bool) → ((a && false) || (b && false)) ≡ false
    go true true = refl
    go true false = refl
    go false true = refl
    go false false = refl

-- a key that is no Getter's or Setter's clashes with the first of its name, if that stands elsewhere
clashes_sideless : (keys : List SidedKey) (i j : ℕ) → i < length keys → (at keys i).side ≡ 0 → first_of_both keys i ≡ Some j → nat_eq j i ≡ false → clashes_with keys (first_of_name keys i) i ≡ true
clashes_sideless keys i j lt none f ne =
    let test : SidedKey → Bool = sided_eq (at keys i) in
    let h = first_hit test keys no_sided j f in
    let same : at keys i ≡ at keys j = sided_same (at keys i) (at keys j) h.1 in
    let low : j ≤ i = first_low test keys no_sided i j lt (sided_equal (at keys i) (at keys i) refl refl) f in
    let below : j < i = less j i ne low in
    let within : j < length (names_of keys) = let q = names_len keys in let l = h.0 in omega arith in
    let named : keys_eq (at keys i).name (get_or (names_of keys) j no_repeat_key) ≡ true = key_equal (at keys i).name (get_or (names_of keys) j no_repeat_key) (ap (λ (k : SidedKey). k.name) same ∙ sym (name_at keys j h.0)) in
    let m = first_found (keys_eq (at keys i).name) (names_of keys) no_repeat_key j within named in
    let le = m.2 in
    ap (λ o. clashes_with keys o i) m.1
    ∙ ap (λ c. not c && not (opposite (at keys m.0).side (at keys i).side)) (differ m.0 i (omega arith))
    ∙ ap not (not_opposite (at keys m.0).side (at keys i).side none)

none_at : (keys : List SidedKey) (i j : ℕ) → i < length keys → (at keys i).side ≡ 0 → first_of_both keys i ≡ Some j → (c : Bool) → nat_eq j i ≡ c
    → clashes_at keys (first_of_name keys i) None i ≡ clashes_at keys (first_of_name keys i) (Some j) i
none_at keys i j lt none f true q = ap (λ c. clashes_with keys (first_of_name keys i) i || not c) (sym q)
none_at keys i j lt none f false q = let h = clashes_sideless keys i j lt none f q in ap (λ c. c || false) h ∙ sym (ap (λ c. c || not (nat_eq j i)) h)

none_of : (keys : List SidedKey) (i : ℕ) → i < length keys → (at keys i).side ≡ 0 → (o : Option ℕ) → first_of_both keys i ≡ o → clashes_at keys (first_of_name keys i) None i ≡ clashes_at keys (first_of_name keys i) o i
none_of keys i lt none None f = refl
none_of keys i lt none (Some j) f = none_at keys i j lt none f (nat_eq j i) refl

-- where there are no Getters and Setters, nothing does
pub none_tell : (keys : List SidedKey) (sided : Firsts SidedKey) → sided.entries ≡ [] → ((i : ℕ) → i < length keys → (get_or keys i no_sided).side ≡ 0) → TellsSides keys sided
none_tell keys sided e none = record {
  tells = λ i lt.
      ap (λ (es : List (SidedKey × ℕ)). clashes_at keys (first_of_name keys i) (lookup (sided_eq (at keys i)) es) i) e
      ∙ none_of keys i lt (none i lt) (first_of_both keys i) refl;
}

pub sideless : (n : ℕ) → false ≡ not (nat_eq n 0) → n ≡ 0
sideless n e = go (nat_eq n 0) refl e
  where
    go : (c : Bool) → nat_eq n 0 ≡ c → false ≡ not c → n ≡ 0
    go true q f = eqb-true n 0 q
    go false q f = absurd (false≢true f)

-- the first places are those of the names of the keys
pub at_names : (keys : List SidedKey) (names given : List NameKey) (firsts : Firsts NameKey) → names ≡ map (λ s. s.name) keys → given ≡ names → ((k : NameKey) → get keys_eq firsts k ≡ first (keys_eq k) given)
    → (k : NameKey) → get keys_eq firsts k ≡ first (keys_eq k) (map (λ s. s.name) keys)
at_names keys names given firsts e q f k = f k ∙ ap (first (keys_eq k)) (q ∙ e)

-- ---- of the traits of a table

accessors_opposite : (a b : TraitBody) → opposite (side_of a) (side_of b) ≡ are_accessors a b
accessors_opposite (traits.Slot id ty value constant) b = refl
accessors_opposite (traits.Method disp m) b = refl
accessors_opposite (traits.Class id k) b = refl
accessors_opposite (traits.Function id m) b = refl
accessors_opposite (traits.Getter disp m) (traits.Slot id ty value constant) = refl
accessors_opposite (traits.Getter disp m) (traits.Method disp2 m2) = refl
accessors_opposite (traits.Getter disp m) (traits.Getter disp2 m2) = refl
accessors_opposite (traits.Getter disp m) (traits.Setter disp2 m2) = refl
accessors_opposite (traits.Getter disp m) (traits.Class id k) = refl
accessors_opposite (traits.Getter disp m) (traits.Function id m2) = refl
accessors_opposite (traits.Setter disp m) (traits.Slot id ty value constant) = refl
accessors_opposite (traits.Setter disp m) (traits.Method disp2 m2) = refl
accessors_opposite (traits.Setter disp m) (traits.Getter disp2 m2) = refl
accessors_opposite (traits.Setter disp m) (traits.Setter disp2 m2) = refl
accessors_opposite (traits.Setter disp m) (traits.Class id k) = refl
accessors_opposite (traits.Setter disp m) (traits.Function id m2) = refl

pub of_traits : (v : Abc) (numbers : List ℕ) (ts : List TraitInfo) → ((a b : DefiniteName) → keys_eq (name_key v numbers a) (name_key v numbers b) ≡ same_name v a b) → any_pair keys_clash (map (sided_key v numbers) ts) ≡ any_pair (names_clash v) ts
of_traits v numbers ts law =
    pair_map keys_clash (names_clash v) (sided_key v numbers)
    (λ x y.
    ap (λ c. c && not (opposite (side_of x.body) (side_of y.body))) (law (qname (name v x.name)) (qname (name v y.name)))
    ∙ ap (λ c. same_name v (qname (name v x.name)) (qname (name v y.name)) && not c) (accessors_opposite x.body y.body))
    ts

pub if_ok_same : {E : Type 0} (r : Result Bool E) {x y : Bool} → IfOk r (λ b. b ≡ x) → x ≡ y → IfOk r (λ b. b ≡ y)
if_ok_same (Ok b) h e = h ∙ e
if_ok_same (Err z) h e = tt

-- Parts that stand one after the other, each behind what it is under.
use Rattle.std.proofs.Common.{◌≡◌, ℕ, zero, suc, ◌+◌, ◌<◌, ◌≤◌, ◌⊎◌, inl, inr, List, [], ◌∷◌, ◌++◌, All, Contains, Some, None, Bool, true, false, if◌then◌else◌, IsTrue, map, length, take, get_or, refl, sym, ap, subst, ◌∙◌, arith, add-one, append_assoc, length-append}
use Rattle.std.specs.List.{flat_map, range_with_len}
use Rattle.std.specs.declared.option.Option.{Option}
use Rattle.std.proofs.lemmas.Bool.{cases_lt}
use Rattle.std.proofs.lemmas.List.{append-nil, get_or_append_left, get_or-map, get_or_past, get_or_push, length-map, map-append, take-append-le, take_all, take_more}
use Rattle.std.proofs.lemmas.List.Elements.{All-append, All-cons, Contains-append_left, Contains-push}
use Rattle.abc_base.specs.declared.names.HostClass.{HostClass}
use Rattle.abc_base.specs.declared.names.HostClass.TheVariants as hosts
use Rattle.abc_base_graphs.specs.Orders.{IsOrder, base_in, place_in_order}
use Rattle.abc_link_names.specs.Instances.{instance_at}
use Rattle.abc_link_names.specs.Meaning.{resolve}
use Rattle.abc_link_names.specs.declared.named.Named.{Named}
use Rattle.abc_link_names.specs.declared.named.Named.TheVariants as named
use Rattle.abc_file_types.specs.declared.tables.Abc.{Abc}
use Rattle.abc_link_layouts.specs.Forest.{class_bases, class_in}
use Rattle.abc_link_layouts.specs.Numbering.{activation_in, parts_in}
use Rattle.abc_link_names.specs.Numbering.{IsNumberedBehind, part_at}
use Rattle.abc_link_names.specs.Parts.{HasLayout, base_part, has_activation, parent}
use Rattle.abc_link_names.specs.Bases.{base_named}
use Rattle.abc_link_names.specs.PartsByNumber.{body_at}
use Rattle.abc_file_types.specs.declared.classes.Instance.{Instance}
use Rattle.abc_link_names.specs.declared.part.Part.{Part}
use Rattle.abc_link_names.specs.declared.part.Part.TheVariants as parts
use Rattle.abc_link_layouts.proofs.Rooted.{base_at}
use Rattle.abc_link_layouts.proofs.Pushing.{bodies_next, row_next}

-- the classes of the host have layouts
pub record HasHosts (all : List Part) : Type 0 where
  pub has : (h : HostClass) → Contains all (parts.Host h)

-- some parts more, whatever those before are
pub record AddsParts (v : Abc) (old new : List Part) : Type 0 where
  pub keeps : (p : Part) → Contains old p → Contains new p
  pub only : All (HasLayout v) old → All (HasLayout v) new
  pub behind : HasHosts old → IsNumberedBehind v old → IsNumberedBehind v new

-- the same, with the first i parts of a row
pub record AddsEach (v : Abc) (old new : List Part) (row : ℕ → Part) (i : ℕ) : Type 0 where
  pub adds : AddsParts v old new
  pub each : (k : ℕ) → k < i → Contains new (row k)

-- the same, with the activations and the catch objects of the first n bodies
pub record AddsBodies (v : Abc) (old new : List Part) (n : ℕ) : Type 0 where
  pub adds : AddsParts v old new
  pub activations : (b : ℕ) → b < n → IsTrue (has_activation v b) → Contains new (parts.Activation b)
  pub catches : (b e : ℕ) → b < n → e < length (body_at v b).handlers → Contains new (parts.Catch b e)

-- the same, with those of one body
pub record AddsBody (v : Abc) (old new : List Part) (b : ℕ) : Type 0 where
  pub adds : AddsParts v old new
  pub activation : IsTrue (has_activation v b) → Contains new (parts.Activation b)
  pub catches : (e : ℕ) → e < length (body_at v b).handlers → Contains new (parts.Catch b e)

all_none : {A : Type 0} (P : A → Type 0) → All P []
all_none P = λ k d lt. absurd (omega arith)

behind_more : (v : Abc) (old : List Part) (p : Part) → IsNumberedBehind v old → ((q : Part) → parent v p ≡ Some q → Contains old q) → IsNumberedBehind v (old ++ p ∷ [])
behind_more v old p b h = record { behind = λ x q lt e. go x q lt e (cases_lt x (length old)) }
  where
    top : Part
    top = parts.Host hosts.Object

    go : (x : ℕ) (q : Part) → x < length (old ++ p ∷ []) → parent v (get_or (old ++ p ∷ []) x (parts.Host hosts.Object)) ≡ Some q → (x < length old) ⊎ (length old ≤ x) → Contains (take x (old ++ p ∷ [])) q
    go x q lt e (inl low) =
        let same : get_or (old ++ p ∷ []) x (parts.Host hosts.Object) ≡ get_or old x (parts.Host hosts.Object) = get_or_append_left old (p ∷ []) (parts.Host hosts.Object) x low in
        let c = b.behind x q low (sym (ap (parent v) same) ∙ e) in
        subst (λ (ps : List Part). Contains ps q) (sym (take-append-le x old (p ∷ []) (omega arith))) c
    go x q lt e (inr le) =
        let at : length old ≡ x = omega (arith, length-append old (p ∷ [])) in
        let same : get_or (old ++ p ∷ []) x (parts.Host hosts.Object) ≡ p = get_or_push old p (parts.Host hosts.Object) x at in
        let c = h q (sym (ap (parent v) same) ∙ e) in
        let front : take x (old ++ p ∷ []) ≡ old = take-append-le x old (p ∷ []) (omega arith) ∙ take_all x old (omega arith) in
        subst (λ (ps : List Part). Contains ps q) (sym front) c

pub adds_none : (v : Abc) (ps : List Part) → AddsParts v ps ps
adds_none v ps = record { keeps = λ p h. h; only = λ h. h; behind = λ hs h. h }

pub adds_more : (v : Abc) (first old : List Part) (p : Part) → HasLayout v p → (HasHosts old → (q : Part) → parent v p ≡ Some q → Contains old q) → AddsParts v first old → AddsParts v first (old ++ p ∷ [])
adds_more v first old p has h a = record {
  keeps = λ q c. Contains-append_left old (p ∷ []) q (a.keeps q c);
  only = λ all. All-append (HasLayout v) old (p ∷ []) (a.only all) (All-cons (HasLayout v) p [] has (all_none (HasLayout v)));
  behind = λ hs b. let hosts : HasHosts old = record { has = λ x. a.keeps (parts.Host x) (hs.has x) } in behind_more v old p (a.behind hs b) (h hosts);
}

pub adds_then : (v : Abc) (x y z : List Part) → AddsParts v x y → AddsParts v y z → AddsParts v x z
adds_then v x y z a b = record {
  keeps = λ q c. b.keeps q (a.keeps q c);
  only = λ all. b.only (a.only all);
  behind = λ hs h. b.behind (record { has = λ c. a.keeps (parts.Host c) (hs.has c) }) (a.behind hs h);
}

-- what stands under a class of the host
under : (v : Abc) (p : Part) (h : HostClass) → parent v p ≡ Some (parts.Host h) → (old : List Part) → HasHosts old → (q : Part) → parent v p ≡ Some q → Contains old q
under v p h e old hs q f = let same : parts.Host h ≡ q = cc in subst (Contains old) same (hs.has h)

-- what was there, and one part more
one_more : (old : List Part) (f : ℕ → Part) (i : ℕ) → ((k : ℕ) → k < i → Contains old (f k)) → (k : ℕ) → k < i + 1 → Contains (old ++ f i ∷ []) (f k)
one_more old f i h k lt = go (cases_lt k i)
  where
    go : (k < i) ⊎ (i ≤ k) → Contains (old ++ f i ∷ []) (f k)
    go (inl low) = Contains-append_left old (f i ∷ []) (f k) (h k low)
    go (inr le) = let e : i ≡ k = omega arith in subst (λ m. Contains (old ++ f i ∷ []) (f m)) e (Contains-push old (f i))

pub each_none : (v : Abc) (old : List Part) (row : ℕ → Part) → AddsEach v old old row 0
each_none v old row = record { adds = adds_none v old; each = λ k lt. absurd (omega arith) }

pub each_next : (v : Abc) (first old new : List Part) (row : ℕ → Part) (i : ℕ) → AddsEach v first old row i → new ≡ old ++ row i ∷ [] → HasLayout v (row i) → (HasHosts old → (q : Part) → parent v (row i) ≡ Some q → Contains old q) → AddsEach v first new row (i + 1)
each_next v first old new row i a e has h = subst (λ (ps : List Part). AddsEach v first ps row (i + 1)) (sym e) (record {
  adds = adds_more v first old (row i) has h a.adds;
  each = one_more old row i a.each;
})

-- what may stand behind any parts with the classes of the host
abbrev StandsAnywhere : Abc → Part → Type 0
StandsAnywhere v p = HasLayout v p × ((old : List Part) → HasHosts old → (q : Part) → parent v p ≡ Some q → Contains old q)

each_ranged : (v : Abc) (old : List Part) (row : ℕ → Part) (n : ℕ) → ((k : ℕ) → k < n → StandsAnywhere v (row k)) → AddsEach v old (old ++ map row (range_with_len 0 n)) row n
each_ranged v old row zero h = subst (λ (ps : List Part). AddsEach v old ps row 0) (sym (append-nil old)) (each_none v old row)
each_ranged v old row (suc n) h =
    let more = each_ranged v old row n (λ k lt. h k (omega arith)) in
    let last = h n (omega arith) in
    let before = old ++ map row (range_with_len 0 n) in
    let is : old ++ map row (range_with_len 0 (n + 1)) ≡ before ++ row n ∷ [] = sym (row_next old before (before ++ row n ∷ []) row n refl refl) in
    subst (λ k. AddsEach v old (old ++ map row (range_with_len 0 k)) row k) (add-one n)
    (each_next v old before (old ++ map row (range_with_len 0 (n + 1))) row n more is last.0 (last.1 before))

pub class_objects_added : (v : Abc) (old : List Part) → AddsEach v old (old ++ map (λ k. parts.ClassObject k) (range_with_len 0 (length v.instances))) (λ k. parts.ClassObject k) (length v.instances)
class_objects_added v old = each_ranged v old (λ k. parts.ClassObject k) (length v.instances) (λ k lt. (lt, under v (parts.ClassObject k) hosts.Class refl))

pub globals_added : (v : Abc) (old : List Part) → AddsEach v old (old ++ map (λ k. parts.Global k) (range_with_len 0 (length v.scripts))) (λ k. parts.Global k) (length v.scripts)
globals_added v old = each_ranged v old (λ k. parts.Global k) (length v.scripts) (λ k lt. (lt, under v (parts.Global k) hosts.Object refl))

catches_added : (v : Abc) (old : List Part) (b : ℕ) → b < length v.bodies → AddsEach v old (old ++ map (λ e. parts.Catch b e) (range_with_len 0 (length (body_at v b).handlers))) (λ e. parts.Catch b e) (length (body_at v b).handlers)
catches_added v old b lt = each_ranged v old (λ e. parts.Catch b e) (length (body_at v b).handlers) (λ e low. ((lt, low), under v (parts.Catch b e) hosts.Object refl))

-- ---- the instances of classes, each behind its base

placed_within : (places : List (Option ℕ)) (x p : ℕ) → place_in_order places x ≡ Some p → x < length places
placed_within places x p e = go (cases_lt x (length places))
  where
    go : (x < length places) ⊎ (length places ≤ x) → x < length places
    go (inl lt) = lt
    go (inr le) = let none : Option ℕ = None in let f : place_in_order places x ≡ none = get_or_past places x none le in cc

instance_next : (v : Abc) (nodes : List ℕ) (places : List (Option ℕ)) (first old new : List Part) (i : ℕ) → IsOrder (class_bases v) nodes places → i < length nodes
    → AddsEach v first old (λ q. parts.Instance (get_or nodes q 0)) i → new ≡ old ++ parts.Instance (get_or nodes i 0) ∷ [] → AddsEach v first new (λ q. parts.Instance (get_or nodes q 0)) (i + 1)
instance_next v nodes places first old new i o lt a e = each_next v first old new (λ q. parts.Instance (get_or nodes q 0)) i a e within (λ hs q f. above hs (base_named v k) refl q f)
  where
    k : ℕ
    k = get_or nodes i 0

    at : place_in_order places (get_or nodes i 0) ≡ Some i
    at = o.placed.back i lt

    within : get_or nodes i 0 < length v.instances
    within = let h = placed_within places (get_or nodes i 0) i at in let l = o.placed.len in omega (arith, length-map v.instances (λ (j : Instance). class_in (resolve v j.super_name)))

    of_class : (b : ℕ) → base_named v (get_or nodes i 0) ≡ Some (named.Class b) → Contains old (parts.Instance b)
    of_class b g =
        let f : base_in (class_bases v) (get_or nodes i 0) ≡ Some b = base_at v (get_or nodes i 0) within ∙ ap class_in g in
        let h = o.placed.behind (get_or nodes i 0) b i at f in
        let t = o.placed.there b h.0 h.1 in
        subst (λ m. Contains old (parts.Instance m)) t.1 (a.each h.0 h.2)

    above : HasHosts old → (r : Option Named) → base_named v (get_or nodes i 0) ≡ r → (q : Part) → Some (base_part r) ≡ Some q → Contains old q
    above hs None g q f = let same : parts.Host hosts.Object ≡ q = cc in subst (Contains old) same (hs.has hosts.Object)
    above hs (Some named.Any) g q f = let same : parts.Host hosts.Object ≡ q = cc in subst (Contains old) same (hs.has hosts.Object)
    above hs (Some named.Void) g q f = let same : parts.Host hosts.Object ≡ q = cc in subst (Contains old) same (hs.has hosts.Object)
    above hs (Some (named.Host h)) g q f = let same : parts.Host h ≡ q = cc in subst (Contains old) same (hs.has h)
    above hs (Some (named.Class b)) g q f = let same : parts.Instance b ≡ q = cc in subst (Contains old) same (of_class b g)

pub instances_added : (v : Abc) (nodes : List ℕ) (places : List (Option ℕ)) (old : List Part) → IsOrder (class_bases v) nodes places → AddsEach v old (old ++ map (λ k. parts.Instance k) nodes) (λ q. parts.Instance (get_or nodes q 0)) (length nodes)
instances_added v nodes places old o =
    subst (λ (ns : List ℕ). AddsEach v old (old ++ map (λ k. parts.Instance k) ns) (λ q. parts.Instance (get_or nodes q 0)) (length nodes)) (take_all (length nodes) nodes (omega arith)) (go (length nodes) (omega arith))
  where
    longer : (n : ℕ) → n < length nodes → old ++ map (λ k. parts.Instance k) (take (n + 1) nodes) ≡ (old ++ map (λ k. parts.Instance k) (take n nodes)) ++ parts.Instance (get_or nodes n 0) ∷ []
    longer n lt =
        ap (λ (ns : List ℕ). old ++ map (λ k. parts.Instance k) ns) (take_more nodes n 0 lt)
        ∙ ap (λ (ps : List Part). old ++ ps) (map-append (λ k. parts.Instance k) (take n nodes) (get_or nodes n 0 ∷ []))
        ∙ sym (append_assoc old (map (λ k. parts.Instance k) (take n nodes)) (parts.Instance (get_or nodes n 0) ∷ []))

    go : (n : ℕ) → n ≤ length nodes → AddsEach v old (old ++ map (λ k. parts.Instance k) (take n nodes)) (λ q. parts.Instance (get_or nodes q 0)) n
    go zero le = subst (λ (ps : List Part). AddsEach v old ps (λ q. parts.Instance (get_or nodes q 0)) 0) (sym (append-nil old)) (each_none v old (λ q. parts.Instance (get_or nodes q 0)))
    go (suc n) le =
        let lt : n < length nodes = omega arith in
        subst (λ m. AddsEach v old (old ++ map (λ k. parts.Instance k) (take m nodes)) (λ q. parts.Instance (get_or nodes q 0)) m) (add-one n)
        (instance_next v nodes places old (old ++ map (λ k. parts.Instance k) (take n nodes)) (old ++ map (λ k. parts.Instance k) (take (n + 1) nodes)) n o lt (go n (omega arith)) (longer n lt))

-- ---- the class objects of the host

pub host_objects_added : (v : Abc) (first old : List Part) (hs : List HostClass) → AddsParts v first old → AddsParts v first (old ++ map (λ h. parts.HostClassObject h) hs)
host_objects_added v first old [] a = subst (AddsParts v first) (sym (append-nil old)) a
host_objects_added v first old (h ∷ hs) a =
    subst (AddsParts v first) (append_assoc old (parts.HostClassObject h ∷ []) (map (λ x. parts.HostClassObject x) hs))
    (host_objects_added v first (old ++ parts.HostClassObject h ∷ []) hs (adds_more v first old (parts.HostClassObject h) tt (under v (parts.HostClassObject h) hosts.Class refl old) a))

pub contains_map : (f : HostClass → Part) (hs : List HostClass) (h : HostClass) → Contains hs h → Contains (map f hs) (f h)
contains_map f hs h (k, lt, e) = (k, omega (arith, length-map hs f), get_or-map f hs k h (f h) lt ∙ ap f e)

-- ---- bodies

activation_added : (v : Abc) (old : List Part) (b : ℕ) → b < length v.bodies → AddsParts v old (old ++ activation_in v b)
activation_added v old b lt = go (has_activation v b) refl
  where
    go : (t : Bool) → has_activation v b ≡ t → AddsParts v old (old ++ (if t then parts.Activation b ∷ [] else []))
    go false is = subst (AddsParts v old) (sym (append-nil old)) (adds_none v old)
    go true is = adds_more v old old (parts.Activation b) (lt, is) (under v (parts.Activation b) hosts.Object refl old) (adds_none v old)

activation_there : (v : Abc) (old : List Part) (b : ℕ) → IsTrue (has_activation v b) → Contains (old ++ activation_in v b) (parts.Activation b)
activation_there v old b is = subst (λ (t : Bool). Contains (old ++ (if t then parts.Activation b ∷ [] else [])) (parts.Activation b)) (sym is) (Contains-push old (parts.Activation b))

-- a body: its activation, if it has one, and then its catch objects
body_added : (v : Abc) (old : List Part) (b : ℕ) → b < length v.bodies → AddsBody v old (old ++ parts_in v b) b
body_added v old b lt =
    subst (λ (ps : List Part). AddsBody v old ps b) (append_assoc old (activation_in v b) (map (λ e. parts.Catch b e) (range_with_len 0 (length (body_at v b).handlers))))
    (let mid = old ++ activation_in v b in
    let c = catches_added v mid b lt in
    record {
      adds = adds_then v old mid (mid ++ map (λ e. parts.Catch b e) (range_with_len 0 (length (body_at v b).handlers))) (activation_added v old b lt) c.adds;
      activation = λ is. c.adds.keeps (parts.Activation b) (activation_there v old b is);
      catches = c.each;
    })

none_added : (v : Abc) (old : List Part) → AddsBodies v old old 0
none_added v old = record { adds = adds_none v old; activations = λ b lt. absurd (omega arith); catches = λ b e lt. absurd (omega arith) }

next_added : (v : Abc) (first old new : List Part) (b : ℕ) → AddsBodies v first old b → AddsBody v old new b → AddsBodies v first new (b + 1)
next_added v first old new b a c = record {
  adds = adds_then v first old new a.adds c.adds;
  activations = λ k lt is. activation k lt is (cases_lt k b);
  catches = λ k e lt low. catch k e lt low (cases_lt k b);
}
  where
    activation : (k : ℕ) → k < b + 1 → IsTrue (has_activation v k) → (k < b) ⊎ (b ≤ k) → Contains new (parts.Activation k)
    activation k lt is (inl low) = c.adds.keeps (parts.Activation k) (a.activations k low is)
    activation k lt is (inr le) =
        let q : b ≡ k = omega arith in
        subst (λ n. Contains new (parts.Activation n)) q (c.activation (subst (λ n. IsTrue (has_activation v n)) (sym q) is))

    catch : (k e : ℕ) → k < b + 1 → e < length (body_at v k).handlers → (k < b) ⊎ (b ≤ k) → Contains new (parts.Catch k e)
    catch k e lt low (inl less) = c.adds.keeps (parts.Catch k e) (a.catches k e less low)
    catch k e lt low (inr le) =
        let q : b ≡ k = omega arith in
        subst (λ n. Contains new (parts.Catch n e)) q (c.catches e (subst (λ n. e < length (body_at v n).handlers) (sym q) low))

pub bodies_added : (v : Abc) (old : List Part) (n : ℕ) → n ≤ length v.bodies → AddsBodies v old (old ++ flat_map (parts_in v) (range_with_len 0 n)) n
bodies_added v old zero le = subst (λ (ps : List Part). AddsBodies v old ps 0) (sym (append-nil old)) (none_added v old)
bodies_added v old (suc n) le =
    let before = old ++ flat_map (parts_in v) (range_with_len 0 n) in
    let is : old ++ flat_map (parts_in v) (range_with_len 0 (n + 1)) ≡ before ++ parts_in v n = sym (bodies_next v old before (before ++ parts_in v n) n refl refl) in
    subst (λ k. AddsBodies v old (old ++ flat_map (parts_in v) (range_with_len 0 k)) k) (add-one n)
    (subst (λ (ps : List Part). AddsBodies v old ps (n + 1)) (sym is) (next_added v old before (before ++ parts_in v n) n (bodies_added v old n (omega arith)) (body_added v before n (omega arith))))

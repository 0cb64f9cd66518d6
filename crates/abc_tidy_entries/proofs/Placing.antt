-- The marked values and their places, one after the other; and how they tell values apart.
use Rattle.std.proofs.Common.{◌≡◌, ℕ, zero, suc, ◌+◌, ◌<◌, ◌≤◌, ◌⊎◌, inl, inr, List, [], ◌∷◌, ◌++◌, Contains, Bool, true, false, IsTrue, if◌then◌else◌, Decides, get_or, length, map, refl, sym, ap, subst, ◌∙◌, arith, length-append, true≢false}
use Rattle.std.proofs.lemmas.Bool.{cases_lt}
use Rattle.std.proofs.lemmas.List.{get_or_append_left, get_or_default, get_or-map, get_or_push, length-map}
use Rattle.abc_base_graphs.specs.Graph.{Has}
use Rattle.abc_file_types.specs.declared.tables.Abc.{Abc}
use Rattle.abc_base_trees.specs.Orders.{StandsIn}
use Rattle.abc_tidy_entries.specs.Entries.{place_among}
use Rattle.abc_tidy_entries.specs.Heads.{ArePlaced, HasHeadPlaces, HoldsMarked, TellApart}
use Rattle.abc_tidy_entries.proofs.Found.{one_place}

-- ---- what a list holds

contains_left : {A : Type 0} (xs ys : List A) (x : A) → Contains xs x → Contains (xs ++ ys) x
contains_left xs ys x c = (c.0, omega (arith, c.1, length-append xs ys), get_or_append_left xs ys x c.0 c.1 ∙ c.2)

contains_last : {A : Type 0} (xs : List A) (x : A) → Contains (xs ++ x ∷ []) x
contains_last xs x = (length xs, omega (arith, length-append xs (x ∷ [])), get_or_push xs x x (length xs) refl)

pub in_place : {A : Type 0} (xs : List A) (k : ℕ) (d : A) → k < length xs → StandsIn (get_or xs k d) xs
in_place [] k d lt = absurd (none k lt)
  where
    none : (k : ℕ) → k < 0 → ⊥
    none k l = omega arith
in_place (x ∷ xs) zero d lt = inl refl
in_place (x ∷ xs) (suc k) d lt = inr (in_place xs k d (omega arith))

in_of : {A : Type 0} (xs : List A) (x : A) → Contains xs x → StandsIn x xs
in_of xs x c = subst (λ y. StandsIn y xs) c.2 (in_place xs c.0 x c.1)

-- ---- one more value

pub holds_none : {A : Type 0} (marks : List Bool) (begin : ℕ) (values chosen : List A) → HoldsMarked marks begin values 0 chosen
holds_none marks begin values chosen = record { holds = λ i d l m h. absurd (none i l) }
  where
    none : (i : ℕ) → i < 0 → ⊥
    none i l = omega arith

pub holds_next : {A : Type 0} (marks : List Bool) (begin : ℕ) (values kept kept2 : List A) (i : ℕ) (x : A) (b : Bool) → HoldsMarked marks begin values i kept → i < length values → x ≡ get_or values i x → b ≡ get_or marks (begin + i) false → (b ≡ true → kept2 ≡ kept ++ x ∷ []) → (b ≡ false → kept2 ≡ kept) → HoldsMarked marks begin values (i + 1) kept2
holds_next {A} marks begin values kept kept2 i x b s lt at mark adds stays = record { holds = λ k d l m h. go k d m h (cases_lt k i) l }
  where
    is : kept2 ≡ (if b then kept ++ x ∷ [] else kept)
    is = by b refl
      where
        by : (c : Bool) → b ≡ c → kept2 ≡ (if b then kept ++ x ∷ [] else kept)
        by true e = adds e ∙ sym (ap (λ c. if c then kept ++ x ∷ [] else kept) e)
        by false e = stays e ∙ sym (ap (λ c. if c then kept ++ x ∷ [] else kept) e)

    still : (c : Bool) (y : A) → Contains kept y → Contains (if c then kept ++ x ∷ [] else kept) y
    still true y c = contains_left kept (x ∷ []) y c
    still false y c = c

    here : (c : Bool) → c ≡ true → Contains (if c then kept ++ x ∷ [] else kept) x
    here true e = contains_last kept x
    here false e = absurd (true≢false (sym e))

    go : (k : ℕ) (d : A) → k < length values → Has marks (begin + k) → (k < i) ⊎ (i ≤ k) → k < i + 1 → Contains kept2 (get_or values k d)
    go k d m h (inl less) l = subst (λ ys. Contains ys (get_or values k d)) (sym is) (still b (get_or values k d) (s.holds k d less m h))
    go k d m h (inr le) l =
        let q : i ≡ k = omega (arith, le, l) in
        let e : x ≡ get_or values k d = at ∙ get_or_default values i x d lt ∙ ap (λ n. get_or values n d) q in
        subst (Contains kept2) e (subst (λ ys. Contains ys x) (sym is) (here b (mark ∙ ap (λ n. get_or marks (begin + n) false) q ∙ h.marked)))

pub many_next : {A : Type 0} (kept kept2 : List A) (i : ℕ) (x : A) (b : Bool) → length kept ≤ i → (b ≡ true → kept2 ≡ kept ++ x ∷ []) → (b ≡ false → kept2 ≡ kept) → length kept2 ≤ i + 1
many_next kept kept2 i x true le adds stays = omega (arith, le, ap length (adds refl), length-append kept (x ∷ []))
many_next kept kept2 i x false le adds stays = omega (arith, le, ap length (stays refl))

-- the same where one that is always there comes first
pub holds_after : {A : Type 0} (marks : List Bool) (begin : ℕ) (values kept : List A) (n : ℕ) (x : A) → HoldsMarked marks begin values n kept → HoldsMarked marks begin values n (x ∷ kept)
holds_after marks begin values kept n x s = record { holds = λ i d l m h. let c = s.holds i d l m h in (suc c.0, omega (arith, c.1), c.2) }

pub places_none : {A : Type 0} (eq : A → A → Bool) (marks : List Bool) (begin : ℕ) (values chosen : List A) (places : List ℕ) → places ≡ [] → HasHeadPlaces eq marks begin values chosen 0 places
places_none eq marks begin values chosen places e = record { many = ap length e; placed = λ i d l m h. absurd (none i l) }
  where
    none : (i : ℕ) → i < 0 → ⊥
    none i l = omega arith

pub places_next : {A : Type 0} (eq : A → A → Bool) (marks : List Bool) (begin : ℕ) (values chosen : List A) (places places2 : List ℕ) (i : ℕ) (x : A) (b : Bool) (n : ℕ) → HasHeadPlaces eq marks begin values chosen i places → i < length values → x ≡ get_or values i x → b ≡ get_or marks (begin + i) false → (IsTrue b → n ≡ place_among eq chosen x) → places2 ≡ places ++ n ∷ [] → HasHeadPlaces eq marks begin values chosen (i + 1) places2
places_next {A} eq marks begin values chosen places places2 i x b n s lt at mark found is = record {
  many = ap length is ∙ length-append places (n ∷ []) ∙ ap (λ k. k + 1) s.many;
  placed = λ k d l m h. go k d m h (cases_lt k i) l;
}
  where
    go : (k : ℕ) (d : A) → k < length values → Has marks (begin + k) → (k < i) ⊎ (i ≤ k) → k < i + 1 → get_or places2 k 0 ≡ place_among eq chosen (get_or values k d)
    go k d m h (inl less) l =
        let w : k < length places = subst (λ j. k < j) (sym s.many) less in
        ap (λ ps. get_or ps k 0) is ∙ get_or_append_left places (n ∷ []) 0 k w ∙ s.placed k d less m h
    go k d m h (inr le) l =
        let q : i ≡ k = omega (arith, le, l) in
        let e : x ≡ get_or values k d = at ∙ get_or_default values i x d lt ∙ ap (λ j. get_or values j d) q in
        ap (λ ps. get_or ps k 0) is ∙ get_or_push places n 0 k (s.many ∙ q) ∙ found (mark ∙ ap (λ j. get_or marks (begin + j) false) q ∙ h.marked) ∙ ap (place_among eq chosen) e

-- ---- telling apart

-- so do their places among all values, and among more
pub placed_tell : {A : Type 0} (eq : A → A → Bool) → ((x y : A) → Decides (eq x y) (x ≡ y)) → (marks : List Bool) (begin : ℕ) (values read all : List A) (places : List ℕ) (d : A) → read ≡ values → ArePlaced eq marks begin read places → ((i : ℕ) → i < length values → StandsIn (get_or values i d) all) → TellApart marks begin places (map (place_among eq all) values)
placed_tell {A} eq ok marks begin values read all places d same placed inside = record {
  many = s.has.many ∙ sym (length-map values (place_among eq all));
  there = λ i j li lj mi mj e. there i j (subst (λ n. i < n) s.has.many li) (subst (λ n. j < n) s.has.many lj) mi mj e;
  back = λ i j li lj mi mj e. back i j (subst (λ n. i < n) s.has.many li) (subst (λ n. j < n) s.has.many lj) mi mj e;
}
  where
    s : ArePlaced eq marks begin values places
    s = subst (λ vs. ArePlaced eq marks begin vs places) same placed

    held : (i : ℕ) → i < length values → Has marks (begin + i) → StandsIn (get_or values i d) s.chosen
    held i l m = in_of s.chosen (get_or values i d) (s.holds.holds i d l l m)

    place : (i : ℕ) → i < length values → get_or (map (place_among eq all) values) i 0 ≡ place_among eq all (get_or values i d)
    place i l = get_or-map (place_among eq all) values i d 0 l

    there : (i j : ℕ) → i < length values → j < length values → Has marks (begin + i) → Has marks (begin + j) → get_or places i 0 ≡ get_or places j 0 → get_or (map (place_among eq all) values) i 0 ≡ get_or (map (place_among eq all) values) j 0
    there i j li lj mi mj e =
        let one : get_or values i d ≡ get_or values j d = one_place eq ok (get_or values i d) (get_or values j d) d s.chosen (held i li mi) (held j lj mj) (sym (s.has.placed i d li li mi) ∙ e ∙ s.has.placed j d lj lj mj) in
        place i li ∙ ap (place_among eq all) one ∙ sym (place j lj)

    back : (i j : ℕ) → i < length values → j < length values → Has marks (begin + i) → Has marks (begin + j) → get_or (map (place_among eq all) values) i 0 ≡ get_or (map (place_among eq all) values) j 0 → get_or places i 0 ≡ get_or places j 0
    back i j li lj mi mj e =
        let one : get_or values i d ≡ get_or values j d = one_place eq ok (get_or values i d) (get_or values j d) d all (inside i li) (inside j lj) (sym (place i li) ∙ e ∙ place j lj) in
        s.has.placed i d li li mi ∙ ap (place_among eq s.chosen) one ∙ sym (s.has.placed j d lj lj mj)

-- ---- at the end

pub read_at : {A : Type 0} (values : List A) (i : ℕ) (x y : A) → y ≡ x → get_or values i x ≡ x → y ≡ get_or values i y
read_at values i x y e at = e ∙ sym at ∙ ap (λ d. get_or values i d) (sym e)

pub placed_all : {A : Type 0} (eq : A → A → Bool) (marks : List Bool) (begin : ℕ) (values chosen kept : List A) (places : List ℕ) (i : ℕ) → HoldsMarked marks begin values (length values) chosen → kept ≡ chosen → HasHeadPlaces eq marks begin values kept i places → length values ≤ i → i ≤ length values → ArePlaced eq marks begin values places
placed_all eq marks begin values chosen kept places i holds e has low high = record {
  chosen = kept;
  holds = subst (HoldsMarked marks begin values (length values)) (sym e) holds;
  has = let q : i ≡ length values = omega (arith, low, high) in subst (λ n. HasHeadPlaces eq marks begin values kept n places) q has;
}

pub held_all : {A : Type 0} (marks : List Bool) (begin : ℕ) (values kept : List A) (i : ℕ) → HoldsMarked marks begin values i kept → length values ≤ i → HoldsMarked marks begin values (length values) kept
held_all marks begin values kept i s le = record { holds = λ k d l m h. s.holds k d (omega (arith, l, le)) m h }

-- the doubles that are read are as many
pub as_many_doubles : (v : Abc) (doubles read : List (List ℕ)) → doubles ≡ map (λ d. d.0) v.doubles → read ≡ doubles → length read ≡ length v.doubles
as_many_doubles v doubles read e f = ap length f ∙ ap length e ∙ length-map v.doubles _

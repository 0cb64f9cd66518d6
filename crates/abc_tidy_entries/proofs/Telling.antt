-- The heads of the entries tell what is marked apart as the heads of the file do.
use Rattle.std.proofs.Common.{◌≡◌, ℕ, zero, suc, ◌+◌, ◌-◌, ◌<◌, ◌≤◌, ◌⊎◌, inl, inr, List, [], ◌∷◌, ◌++◌, Bool, true, false, get_or, length, map, refl, sym, ap, subst, ◌∙◌, arith, append_assoc, length-append}
use Rattle.std.proofs.lemmas.Bool.{cases_lt}
use Rattle.std.proofs.lemmas.List.{get_or-append-add, get_or_append_left, get_or-map, length-map}
use Rattle.abc_base_graphs.specs.Graph.{Has}
use Rattle.abc_file_types.specs.declared.names.Multiname.{Multiname}
use Rattle.abc_file_types.specs.declared.names.Multiname.TheVariants as names
use Rattle.abc_file_types.specs.declared.names.Namespace.{Namespace}
use Rattle.abc_file_types.specs.declared.names.NsKind.{NsKind}
use Rattle.abc_file_types.specs.declared.names.NsKind.TheVariants as spaces
use Rattle.abc_file_types.specs.declared.tables.Abc.{Abc}
use Rattle.abc_file_types.specs.Pools.{namespace_code}
use Rattle.abc_base_trees.specs.declared.heads.Head.{Head}
use Rattle.abc_base_trees.specs.Trees.{head_of_tree, no_head}
use Rattle.abc_tidy_entries.specs.Entries.{double_places, doubles_kind, heads_of, int_places, ints_kind, name_head, name_kind, sets_kind, space_heads, text_places, texts_kind, uint_places, uints_kind, value_head, value_heads}
use Rattle.abc_tidy_entries.specs.Heads.{AreHigh, AreLow, TellApart, TellHeads}

none : (i : ℕ) → i < 0 → ⊥
none i lt = omega arith

-- ---- values

value_at : (kind : ℕ) (xs : List ℕ) (i : ℕ) → i < length xs → head_of_tree (map (value_head kind) xs) i ≡ value_head kind (get_or xs i 0)
value_at kind xs i lt = get_or-map (value_head kind) xs i 0 no_head lt

values_tell : (kind : ℕ) (marks : List Bool) (begin : ℕ) (xs ys : List ℕ) → TellApart marks begin xs ys → TellHeads marks begin (map (value_head kind) xs) (map (value_head kind) ys)
values_tell kind marks begin xs ys s = record {
  many = length-map xs (value_head kind) ∙ s.many ∙ sym (length-map ys (value_head kind));
  there = λ i j li lj mi mj e. there i j (subst (λ n. i < n) (length-map xs (value_head kind)) li) (subst (λ n. j < n) (length-map xs (value_head kind)) lj) mi mj e;
  back = λ i j li lj mi mj e. back i j (subst (λ n. i < n) (length-map xs (value_head kind)) li) (subst (λ n. j < n) (length-map xs (value_head kind)) lj) mi mj e;
}
  where
    there : (i j : ℕ) → i < length xs → j < length xs → Has marks (begin + i) → Has marks (begin + j) → head_of_tree (map (value_head kind) xs) i ≡ head_of_tree (map (value_head kind) xs) j → head_of_tree (map (value_head kind) ys) i ≡ head_of_tree (map (value_head kind) ys) j
    there i j li lj mi mj e =
        let same : get_or xs i 0 ≡ get_or xs j 0 = ap (λ h. h.value) (sym (value_at kind xs i li) ∙ e ∙ value_at kind xs j lj) in
        value_at kind ys i (subst (λ n. i < n) s.many li) ∙ ap (value_head kind) (s.there i j li lj mi mj same) ∙ sym (value_at kind ys j (subst (λ n. j < n) s.many lj))

    back : (i j : ℕ) → i < length xs → j < length xs → Has marks (begin + i) → Has marks (begin + j) → head_of_tree (map (value_head kind) ys) i ≡ head_of_tree (map (value_head kind) ys) j → head_of_tree (map (value_head kind) xs) i ≡ head_of_tree (map (value_head kind) xs) j
    back i j li lj mi mj e =
        let same : get_or ys i 0 ≡ get_or ys j 0 = ap (λ h. h.value) (sym (value_at kind ys i (subst (λ n. i < n) s.many li)) ∙ e ∙ value_at kind ys j (subst (λ n. j < n) s.many lj)) in
        value_at kind xs i li ∙ ap (value_head kind) (s.back i j li lj mi mj same) ∙ sym (value_at kind xs j lj)

same_tell : (marks : List Bool) (begin : ℕ) (hs : List Head) → TellHeads marks begin hs hs
same_tell marks begin hs = record { many = refl; there = λ i j li lj mi mj e. e; back = λ i j li lj mi mj e. e }

-- ---- kinds

low_values : (kind k : ℕ) (xs : List ℕ) → kind < k → AreLow k (map (value_head kind) xs)
low_values kind k xs lt = record { low = λ i l. subst (λ h. h.kind < k) (sym (value_at kind xs i (subst (λ n. i < n) (length-map xs (value_head kind)) l))) lt }

high_values : (kind k : ℕ) (xs : List ℕ) → k ≤ kind → AreHigh k (map (value_head kind) xs)
high_values kind k xs le = record { high = λ i l. subst (λ h. k ≤ h.kind) (sym (value_at kind xs i (subst (λ n. i < n) (length-map xs (value_head kind)) l))) le }

-- an entry of two lists of heads in a row
abbrev Side : List Head → List Head → ℕ → Type 0
Side hs ms i = ((i < length hs) × (head_of_tree (hs ++ ms) i ≡ head_of_tree hs i)) ⊎ ((j : ℕ) × (i ≡ length hs + j) × (j < length ms) × (head_of_tree (hs ++ ms) i ≡ head_of_tree ms j))

side : (hs ms : List Head) (i : ℕ) → i < length (hs ++ ms) → Side hs ms i
side hs ms i lt = go (cases_lt i (length hs))
  where
    go : (i < length hs) ⊎ (length hs ≤ i) → Side hs ms i
    go (inl l) = inl (l, get_or_append_left hs ms no_head i l)
    go (inr le) =
        let at : i ≡ length hs + (i - length hs) = omega (arith, le) in
        inr (i - length hs, at, omega (arith, le, lt, length-append hs ms), ap (head_of_tree (hs ++ ms)) at ∙ get_or-append-add hs ms (i - length hs) no_head)

low_append : (k : ℕ) (hs ms : List Head) → AreLow k hs → AreLow k ms → AreLow k (hs ++ ms)
low_append k hs ms a b = record { low = λ i l. go i (side hs ms i l) }
  where
    go : (i : ℕ) → Side hs ms i → (head_of_tree (hs ++ ms) i).kind < k
    go i (inl (l, e)) = subst (λ h. h.kind < k) (sym e) (a.low i l)
    go i (inr (j, at, l, e)) = subst (λ h. h.kind < k) (sym e) (b.low j l)

low_more : (k m : ℕ) (hs : List Head) → k ≤ m → AreLow k hs → AreLow m hs
low_more k m hs le a = record { low = λ i l. let h = a.low i l in omega (arith, h, le) }

high_append : (k : ℕ) (hs ms : List Head) → AreHigh k hs → AreHigh k ms → AreHigh k (hs ++ ms)
high_append k hs ms a b = record { high = λ i l. go i (side hs ms i l) }
  where
    go : (i : ℕ) → Side hs ms i → k ≤ (head_of_tree (hs ++ ms) i).kind
    go i (inl (l, e)) = subst (λ h. k ≤ h.kind) (sym e) (a.high i l)
    go i (inr (j, at, l, e)) = subst (λ h. k ≤ h.kind) (sym e) (b.high j l)

high_cons : (k : ℕ) (h : Head) (hs : List Head) → k ≤ h.kind → AreHigh k hs → AreHigh k (h ∷ hs)
high_cons k h hs le a = record { high = go }
  where
    go : (i : ℕ) → i < length (h ∷ hs) → k ≤ (head_of_tree (h ∷ hs) i).kind
    go zero l = le
    go (suc i) l = a.high i (omega (arith, l))

high_none : (k : ℕ) → AreHigh k []
high_none k = record { high = λ i l. absurd (none i l) }

high_space : (kind : NsKind) → 5 ≤ namespace_code kind
high_space spaces.Private = omega arith
high_space spaces.Namespace = omega arith
high_space spaces.Package = omega arith
high_space spaces.PackageInternal = omega arith
high_space spaces.Protected = omega arith
high_space spaces.Explicit = omega arith
high_space spaces.StaticProtected = omega arith

high_spaces : (place : ℕ) (xs : List Namespace) → AreHigh 5 (space_heads place xs)
high_spaces place [] = high_none 5
high_spaces place (x ∷ xs) = high_cons 5 _ (space_heads (place + 1) xs) (high_space x.kind) (high_spaces (place + 1) xs)

high_sets : (xs : List (List ℕ)) → AreHigh 5 (map (λ s. value_head sets_kind 0) xs)
high_sets [] = high_none 5
high_sets (x ∷ xs) = high_cons 5 (value_head sets_kind 0) (map (λ s. value_head sets_kind 0) xs) (omega arith) (high_sets xs)

high_name : (m : Multiname) → 5 ≤ name_kind m
high_name (names.QName false ns name) = omega arith
high_name (names.QName true ns name) = omega arith
high_name (names.Rt false name) = omega arith
high_name (names.Rt true name) = omega arith
high_name (names.RtL false) = omega arith
high_name (names.RtL true) = omega arith
high_name (names.Multi false name set) = omega arith
high_name (names.Multi true name set) = omega arith
high_name (names.MultiL false set) = omega arith
high_name (names.MultiL true set) = omega arith
high_name (names.TypeName base params) = omega arith

high_names : (xs : List Multiname) → AreHigh 5 (map name_head xs)
high_names [] = high_none 5
high_names (x ∷ xs) = high_cons 5 (name_head x) (map name_head xs) (high_name x) (high_names xs)

-- ---- lists of heads in a row, of kinds that rise

apart : (k : ℕ) (a b : Head) → a.kind < k → k ≤ b.kind → a ≡ b → ⊥
apart k a b low high e = let same : a.kind ≡ b.kind = ap (λ h. h.kind) e in omega (arith, low, high, same)

-- what is there in one pair of lists is there in the other
abbrev Goes : List Bool → ℕ → List Head → List Head → Type 0
Goes marks begin hs ks = (i j : ℕ) → i < length hs → j < length hs → Has marks (begin + i) → Has marks (begin + j) → head_of_tree hs i ≡ head_of_tree hs j → head_of_tree ks i ≡ head_of_tree ks j

go_on : (marks : List Bool) (begin k : ℕ) (hs ks ms ns : List Head) → length hs ≡ length ks → length ms ≡ length ns → Goes marks begin hs ks → Goes marks (begin + length hs) ms ns → AreLow k hs → AreHigh k ms → Goes marks begin (hs ++ ms) (ks ++ ns)
go_on marks begin k hs ks ms ns same_hs same_ms first second low high i j li lj mi mj e = by (side hs ms i li) (side hs ms j lj)
  where
    left : (i : ℕ) → i < length hs → head_of_tree (ks ++ ns) i ≡ head_of_tree ks i
    left i l = get_or_append_left ks ns no_head i (subst (λ n. i < n) same_hs l)

    right : (i m : ℕ) → i ≡ length hs + m → head_of_tree (ks ++ ns) i ≡ head_of_tree ns m
    right i m at = ap (head_of_tree (ks ++ ns)) (at ∙ ap (λ n. n + m) same_hs) ∙ get_or-append-add ks ns m no_head

    mark : (i m : ℕ) → i ≡ length hs + m → Has marks (begin + i) → Has marks (begin + length hs + m)
    mark i m at h = let q : begin + i ≡ begin + length hs + m = omega (arith, at) in subst (Has marks) q h

    by : Side hs ms i → Side hs ms j → head_of_tree (ks ++ ns) i ≡ head_of_tree (ks ++ ns) j
    by (inl (l, p)) (inl (m, q)) = left i l ∙ first i j l m mi mj (sym p ∙ e ∙ q) ∙ sym (left j m)
    by (inr (n, at, l, p)) (inr (o, to, m, q)) = right i n at ∙ second n o l m (mark i n at mi) (mark j o to mj) (sym p ∙ e ∙ q) ∙ sym (right j o to)
    by (inl (l, p)) (inr (o, to, m, q)) = absurd (apart k (head_of_tree hs i) (head_of_tree ms o) (low.low i l) (high.high o m) (sym p ∙ e ∙ q))
    by (inr (n, at, l, p)) (inl (m, q)) = absurd (apart k (head_of_tree hs j) (head_of_tree ms n) (low.low j m) (high.high n l) (sym (sym p ∙ e ∙ q)))

append_tell : (marks : List Bool) (begin k : ℕ) (hs ks ms ns : List Head) → TellHeads marks begin hs ks → TellHeads marks (begin + length hs) ms ns → AreLow k hs → AreLow k ks → AreHigh k ms → AreHigh k ns → TellHeads marks begin (hs ++ ms) (ks ++ ns)
append_tell marks begin k hs ks ms ns a b low_hs low_ks high_ms high_ns = record {
  many = many;
  there = go_on marks begin k hs ks ms ns a.many b.many a.there b.there low_hs high_ms;
  back = λ i j li lj mi mj e. go_on marks begin k ks hs ns ms (sym a.many) (sym b.many) (λ i j li lj. a.back i j (subst (λ n. i < n) (sym a.many) li) (subst (λ n. j < n) (sym a.many) lj)) back_ms low_ks high_ns i j (subst (λ n. i < n) many li) (subst (λ n. j < n) many lj) mi mj e;
}
  where
    many : length (hs ++ ms) ≡ length (ks ++ ns)
    many = length-append hs ms ∙ (λ i. a.many i + b.many i) ∙ sym (length-append ks ns)

    back_ms : Goes marks (begin + length ks) ns ms
    back_ms = subst (λ n. Goes marks (begin + n) ns ms) a.many (λ i j li lj. b.back i j (subst (λ n. i < n) (sym b.many) li) (subst (λ n. j < n) (sym b.many) lj))

-- ---- all of them

abbrev two : List ℕ → List ℕ → List Head
two ints uints = (no_head ∷ []) ++ map (value_head ints_kind) ints ++ map (value_head uints_kind) uints

abbrev four : List ℕ → List ℕ → List ℕ → List ℕ → List Head
four ints uints doubles texts = two ints uints ++ map (value_head doubles_kind) doubles ++ map (value_head texts_kind) texts

low_zero : AreLow 1 (no_head ∷ [])
low_zero = record { low = λ i l. go i l }
  where
    go : (i : ℕ) → i < 1 → (head_of_tree (no_head ∷ []) i).kind < 1
    go zero l = omega arith
    go (suc i) l = absurd (omega (arith, l))

low_one : (ints : List ℕ) → AreLow 2 ((no_head ∷ []) ++ map (value_head ints_kind) ints)
low_one ints = low_append 2 (no_head ∷ []) (map (value_head ints_kind) ints) (low_more 1 2 (no_head ∷ []) (omega arith) low_zero) (low_values ints_kind 2 ints (omega arith))

low_two : (ints uints : List ℕ) → AreLow 3 (two ints uints)
low_two ints uints =
    low_append 3 ((no_head ∷ []) ++ map (value_head ints_kind) ints) (map (value_head uints_kind) uints)
    (low_more 2 3 ((no_head ∷ []) ++ map (value_head ints_kind) ints) (omega arith) (low_one ints)) (low_values uints_kind 3 uints (omega arith))

low_three : (ints uints doubles : List ℕ) → AreLow 4 (two ints uints ++ map (value_head doubles_kind) doubles)
low_three ints uints doubles =
    low_append 4 (two ints uints) (map (value_head doubles_kind) doubles)
    (low_more 3 4 (two ints uints) (omega arith) (low_two ints uints)) (low_values doubles_kind 4 doubles (omega arith))

low_four : (ints uints doubles texts : List ℕ) → AreLow 5 (four ints uints doubles texts)
low_four ints uints doubles texts =
    low_append 5 (two ints uints ++ map (value_head doubles_kind) doubles) (map (value_head texts_kind) texts)
    (low_more 4 5 (two ints uints ++ map (value_head doubles_kind) doubles) (omega arith) (low_three ints uints doubles)) (low_values texts_kind 5 texts (omega arith))

begin_at : (marks : List Bool) (a b : ℕ) (hs ks : List Head) → a ≡ b → TellHeads marks a hs ks → TellHeads marks b hs ks
begin_at marks a b hs ks e s = subst (λ n. TellHeads marks n hs ks) e s

length_one : (ints : List ℕ) → length ((no_head ∷ []) ++ map (value_head ints_kind) ints) ≡ 1 + length ints
length_one ints = omega (arith, length-append (no_head ∷ []) (map (value_head ints_kind) ints), length-map ints (value_head ints_kind))

length_two : (ints uints : List ℕ) → length (two ints uints) ≡ 1 + length ints + length uints
length_two ints uints = omega (arith, length-append ((no_head ∷ []) ++ map (value_head ints_kind) ints) (map (value_head uints_kind) uints), length_one ints, length-map uints (value_head uints_kind))

length_three : (ints uints doubles : List ℕ) → length (two ints uints ++ map (value_head doubles_kind) doubles) ≡ 1 + length ints + length uints + length doubles
length_three ints uints doubles = omega (arith, length-append (two ints uints) (map (value_head doubles_kind) doubles), length_two ints uints, length-map doubles (value_head doubles_kind))

four_tell : (marks : List Bool) (a b c d e f g h : List ℕ) → TellApart marks 1 a e → TellApart marks (1 + length a) b f → TellApart marks (1 + length a + length b) c g → TellApart marks (1 + length a + length b + length c) d h → TellHeads marks 0 (four a b c d) (four e f g h)
four_tell marks a b c d e f g h p q r s =
    append_tell marks 0 4 (two a b ++ map (value_head doubles_kind) c) (two e f ++ map (value_head doubles_kind) g) (map (value_head texts_kind) d) (map (value_head texts_kind) h)
    (append_tell marks 0 3 (two a b) (two e f) (map (value_head doubles_kind) c) (map (value_head doubles_kind) g)
    (append_tell marks 0 2 ((no_head ∷ []) ++ map (value_head ints_kind) a) ((no_head ∷ []) ++ map (value_head ints_kind) e) (map (value_head uints_kind) b) (map (value_head uints_kind) f)
    (append_tell marks 0 1 (no_head ∷ []) (no_head ∷ []) (map (value_head ints_kind) a) (map (value_head ints_kind) e)
    (same_tell marks 0 (no_head ∷ [])) (values_tell ints_kind marks 1 a e p) low_zero low_zero (high_values ints_kind 1 a (omega arith)) (high_values ints_kind 1 e (omega arith)))
    (begin_at marks (1 + length a) (0 + length ((no_head ∷ []) ++ map (value_head ints_kind) a)) (map (value_head uints_kind) b) (map (value_head uints_kind) f) (omega (arith, length_one a)) (values_tell uints_kind marks (1 + length a) b f q))
    (low_one a) (low_one e) (high_values uints_kind 2 b (omega arith)) (high_values uints_kind 2 f (omega arith)))
    (begin_at marks (1 + length a + length b) (0 + length (two a b)) (map (value_head doubles_kind) c) (map (value_head doubles_kind) g) (omega (arith, length_two a b)) (values_tell doubles_kind marks (1 + length a + length b) c g r))
    (low_two a b) (low_two e f) (high_values doubles_kind 3 c (omega arith)) (high_values doubles_kind 3 g (omega arith)))
    (begin_at marks (1 + length a + length b + length c) (0 + length (two a b ++ map (value_head doubles_kind) c)) (map (value_head texts_kind) d) (map (value_head texts_kind) h) (omega (arith, length_three a b c)) (values_tell texts_kind marks (1 + length a + length b + length c) d h s))
    (low_three a b c) (low_three e f g) (high_values texts_kind 4 d (omega arith)) (high_values texts_kind 4 h (omega arith))

-- the heads of all entries, from the places of the values
pub heads_tell : (v : Abc) (marks : List Bool) (a b c d : List ℕ) (hs : List Head) → TellApart marks 1 a (int_places v) → TellApart marks (1 + length v.ints) b (uint_places v) → TellApart marks (1 + length v.ints + length v.uints) c (double_places v) → TellApart marks (1 + length v.ints + length v.uints + length v.doubles) d (text_places v) → hs ≡ four a b c d ++ space_heads 0 v.namespaces ++ map (λ s. value_head sets_kind 0) v.sets ++ map name_head v.names → TellHeads marks 0 hs (heads_of v)
heads_tell v marks a b c d hs p q r s is =
    subst (λ ks. TellHeads marks 0 ks (heads_of v)) (sym (is ∙ joined (four a b c d)))
    (subst (TellHeads marks 0 (four a b c d ++ rest)) (sym (joined (value_heads v)))
    (append_tell marks 0 5 (four a b c d) (value_heads v) rest rest (four_tell marks a b c d (int_places v) (uint_places v) (double_places v) (text_places v) p q2 r2 s2) (same_tell marks (0 + length (four a b c d)) rest)
    (low_four a b c d) (low_four (int_places v) (uint_places v) (double_places v) (text_places v)) rest_high rest_high))
  where
    rest : List Head
    rest = space_heads 0 v.namespaces ++ map (λ s. value_head sets_kind 0) v.sets ++ map name_head v.names

    rest_high : AreHigh 5 rest
    rest_high =
        high_append 5 (space_heads 0 v.namespaces ++ map (λ s. value_head sets_kind 0) v.sets) (map name_head v.names)
        (high_append 5 (space_heads 0 v.namespaces) (map (λ s. value_head sets_kind 0) v.sets) (high_spaces 0 v.namespaces) (high_sets v.sets)) (high_names v.names)

    joined : (hs : List Head) → hs ++ space_heads 0 v.namespaces ++ map (λ s. value_head sets_kind 0) v.sets ++ map name_head v.names ≡ hs ++ rest
    joined hs =
        ap (λ ks. ks ++ map name_head v.names) (append_assoc hs (space_heads 0 v.namespaces) (map (λ s. value_head sets_kind 0) v.sets))
        ∙ append_assoc hs (space_heads 0 v.namespaces ++ map (λ s. value_head sets_kind 0) v.sets) (map name_head v.names)

    ints_many : length a ≡ length v.ints
    ints_many = p.many ∙ length-map v.ints _

    uints_many : length b ≡ length v.uints
    uints_many = q.many ∙ length-map v.uints _

    doubles_many : length c ≡ length v.doubles
    doubles_many = r.many ∙ length-map (map (λ d. d.0) v.doubles) _ ∙ length-map v.doubles _

    q2 : TellApart marks (1 + length a) b (uint_places v)
    q2 = subst (λ n. TellApart marks (1 + n) b (uint_places v)) (sym ints_many) q

    r2 : TellApart marks (1 + length a + length b) c (double_places v)
    r2 = subst (λ n. TellApart marks n c (double_places v)) (λ i. 1 + sym ints_many i + sym uints_many i) r

    s2 : TellApart marks (1 + length a + length b + length c) d (text_places v)
    s2 = subst (λ n. TellApart marks n d (text_places v)) (λ i. 1 + sym ints_many i + sym uints_many i + sym doubles_many i) s

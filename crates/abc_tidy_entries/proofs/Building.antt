-- Heads and graph are built entry by entry, and are as many.
use Rattle.std.proofs.Common.{◌≡◌, ℕ, zero, suc, ◌+◌, ◌<◌, ◌^◌, List, [], ◌∷◌, ◌++◌, map, length, replicate, take, get_or, refl, sym, ap, subst, ◌∙◌, arith, append_assoc, length-append}
use Rattle.std.proofs.Math.Seq.{take-suc}
use Rattle.std.proofs.lemmas.List.{length-map, map_push}
use Rattle.abc_tidy_refs.specs.declared.nodes.Counts.{Counts}
use Rattle.abc_tidy_refs.specs.Nodes.{counts_of, node_count}
use Rattle.abc_file_types.specs.declared.names.Namespace.{Namespace}
use Rattle.abc_file_types.specs.declared.tables.Abc.{Abc}
use Rattle.abc_base_trees.specs.declared.heads.Head.{Head}
use Rattle.abc_base_trees.specs.Trees.{no_head}
use Rattle.abc_tidy_entries.specs.Entries.{graph_of, heads_of, value_graph, value_heads, value_head, ints_kind, uints_kind, doubles_kind, texts_kind, sets_kind, int_places, uint_places, double_places, text_places, no_parts, name_head, entry_name_parts, set_parts, space_head, space_heads, space_parts}

heads_append : (place : ℕ) (xs ys : List Namespace) → space_heads place (xs ++ ys) ≡ space_heads place xs ++ space_heads (place + length xs) ys
heads_append place [] ys = let e : place ≡ place + 0 = omega arith in ap (λ p. space_heads p ys) e
heads_append place (x ∷ xs) ys =
    let e : place + 1 + length xs ≡ place + length (x ∷ xs) = omega arith in
    ap (λ hs. space_head x place ∷ hs) (heads_append (place + 1) xs ys ∙ ap (λ p. space_heads (place + 1) xs ++ space_heads p ys) e)

take_next : (xs : List Namespace) (i : ℕ) (d : Namespace) → i < length xs → take (i + 1) xs ≡ take i xs ++ get_or xs i d ∷ []
take_next xs i d lt = let one : i + 1 ≡ suc i = omega arith in ap (λ n. take n xs) one ∙ take-suc xs i d lt

pub space_head_next : (xs : List Namespace) (i : ℕ) (n : Namespace) (old heads heads2 : List Head) → heads ≡ old ++ space_heads 0 (take i xs) → i < length xs → get_or xs i n ≡ n → heads2 ≡ heads ++ space_head n i ∷ [] → heads2 ≡ old ++ space_heads 0 (take (i + 1) xs)
space_head_next xs i n old heads heads2 e lt at is =
    let many : 0 + length (take i xs) ≡ i = length-take-le xs i lt in
    is ∙ ap (λ hs. hs ++ space_head n i ∷ []) e ∙ append_assoc old (space_heads 0 (take i xs)) (space_head n i ∷ [])
    ∙ ap (λ hs. old ++ hs) (ap (λ p. space_heads 0 (take i xs) ++ space_heads p (n ∷ [])) (sym many)
    ∙ sym (heads_append 0 (take i xs) (n ∷ [])) ∙ ap (λ m. space_heads 0 (take i xs ++ m ∷ [])) (sym at) ∙ ap (space_heads 0) (sym (take_next xs i n lt)))
  where
    length-take-le : (ys : List Namespace) (k : ℕ) → k < length ys → 0 + length (take k ys) ≡ k
    length-take-le [] k l = absurd (no k l)
      where
        no : (k : ℕ) → k < 0 → ⊥
        no k l = omega arith
    length-take-le (y ∷ ys) zero l = refl
    length-take-le (y ∷ ys) (suc k) l = let h = length-take-le ys k (omega arith) in omega arith

length-spaces : (place : ℕ) (xs : List Namespace) → length (space_heads place xs) ≡ length xs
length-spaces place [] = refl
length-spaces place (x ∷ xs) = ap suc (length-spaces (place + 1) xs)

-- as many nodes have heads as have parts
pub same_count : (v : Abc) → length (heads_of v) ≡ length (graph_of v)
same_count v =
    length-append4 (value_heads v) (space_heads 0 v.namespaces) (map (λ s. value_head sets_kind 0) v.sets) (map name_head v.names)
    ∙ (λ i. values i + (length-spaces 0 v.namespaces ∙ sym (length-map v.namespaces (space_parts (counts_of v)))) i + (length-map v.sets (λ s. value_head sets_kind 0) ∙ sym (length-map v.sets (set_parts (counts_of v)))) i + (length-map v.names name_head ∙ sym (length-map v.names (entry_name_parts (counts_of v)))) i)
    ∙ sym (length-append4 (value_graph v) (map (space_parts (counts_of v)) v.namespaces) (map (set_parts (counts_of v)) v.sets) (map (entry_name_parts (counts_of v)) v.names))
  where
    length-append4 : {A : Type 0} (a b c d : List A) → length (a ++ b ++ c ++ d) ≡ length a + length b + length c + length d
    length-append4 a b c d = length-append (a ++ b ++ c) d ∙ ap (λ n. n + length d) (length-append (a ++ b) c ∙ ap (λ n. n + length c) (length-append a b))

    length-append5 : {A : Type 0} (a b c d e : List A) → length (a ++ b ++ c ++ d ++ e) ≡ length a + length b + length c + length d + length e
    length-append5 a b c d e = length-append (a ++ b ++ c ++ d) e ∙ ap (λ n. n + length e) (length-append4 a b c d)

    same : (kind : ℕ) (xs : List ℕ) → length (map (value_head kind) xs) ≡ length (no_parts xs)
    same kind [] = refl
    same kind (x ∷ xs) = ap suc (same kind xs)

    values : length (value_heads v) ≡ length (value_graph v)
    values =
        length-append5 (no_head ∷ []) (map (value_head ints_kind) (int_places v)) (map (value_head uints_kind) (uint_places v)) (map (value_head doubles_kind) (double_places v)) (map (value_head texts_kind) (text_places v))
        ∙ (λ i. 1 + same ints_kind (int_places v) i + same uints_kind (uint_places v) i + same doubles_kind (double_places v) i + same texts_kind (text_places v) i)
        ∙ sym (length-append5 ([] ∷ []) (no_parts (int_places v)) (no_parts (uint_places v)) (no_parts (double_places v)) (no_parts (text_places v)))

-- ---- how few entries there are

pub few_counts : (v : Abc) (c : Counts) → c ≡ counts_of v → node_count c < 2 ^ 32 → node_count (counts_of v) < 2 ^ 32
few_counts v c e few = subst (λ k. node_count k < 2 ^ 32) e few

pub few_names : (v : Abc) (c : Counts) → c ≡ counts_of v → node_count c < 2 ^ 32 → length v.names + 1 < 2 ^ 32
few_names v c e few = let h : node_count (counts_of v) < 2 ^ 32 = few_counts v c e few in omega arith

pub few_spaces : (v : Abc) (c : Counts) → c ≡ counts_of v → node_count c < 2 ^ 32 → length v.namespaces < 2 ^ 32
few_spaces v c e few = let h : node_count (counts_of v) < 2 ^ 32 = few_counts v c e few in omega arith

-- ---- the graph

no_parts_many : (n : ℕ) (xs : List ℕ) → n ≡ length xs → replicate n [] ≡ no_parts xs
no_parts_many n [] e = ap (λ k. replicate k []) e
no_parts_many n (x ∷ xs) e = ap (λ k. replicate k []) e ∙ ap (λ rs. [] ∷ rs) (no_parts_many (length xs) xs refl)

pub values_are : (v : Abc) (g0 g1 g2 g3 g4 g5 : List (List ℕ)) (a b c d : ℕ) → g0 ≡ [] → g1 ≡ g0 ++ [] ∷ [] → g2 ≡ g1 ++ replicate a [] → g3 ≡ g2 ++ replicate b [] → g4 ≡ g3 ++ replicate c [] → g5 ≡ g4 ++ replicate d [] → a ≡ length v.ints → b ≡ length v.uints → c ≡ length v.doubles → d ≡ length v.strings → g5 ≡ value_graph v
values_are v g0 g1 g2 g3 g4 g5 a b c d e0 e1 e2 e3 e4 e5 ea eb ec ed =
    e5 ∙ (λ i. four i ++ no_parts_many d (text_places v) (ed ∙ sym (length-map v.strings _)) i)
  where
    one : g1 ≡ [] ∷ []
    one = e1 ∙ ap (λ g. g ++ [] ∷ []) e0

    two : g2 ≡ ([] ∷ []) ++ no_parts (int_places v)
    two = e2 ∙ (λ i. one i ++ no_parts_many a (int_places v) (ea ∙ sym (length-map v.ints _)) i)

    three : g3 ≡ ([] ∷ []) ++ no_parts (int_places v) ++ no_parts (uint_places v)
    three = e3 ∙ (λ i. two i ++ no_parts_many b (uint_places v) (eb ∙ sym (length-map v.uints _)) i)

    four : g4 ≡ ([] ∷ []) ++ no_parts (int_places v) ++ no_parts (uint_places v) ++ no_parts (double_places v)
    four = e4 ∙ (λ i. three i ++ no_parts_many c (double_places v) (ec ∙ sym (length-map (map (λ d. d.0) v.doubles) _ ∙ length-map v.doubles _)) i)

-- ---- the heads

pub heads_built : (v : Abc) (a b c d : List ℕ) (h0 h1 h2 h3 h4 h5 h6 h7 h8 : List Head) → h0 ≡ [] → h1 ≡ h0 ++ no_head ∷ [] → h2 ≡ h1 ++ map (value_head ints_kind) a → h3 ≡ h2 ++ map (value_head uints_kind) b → h4 ≡ h3 ++ map (value_head doubles_kind) c → h5 ≡ h4 ++ map (value_head texts_kind) d → h6 ≡ h5 ++ space_heads 0 v.namespaces → h7 ≡ h6 ++ map (λ s. value_head sets_kind 0) v.sets → h8 ≡ h7 ++ map name_head v.names → h8 ≡ (no_head ∷ []) ++ map (value_head ints_kind) a ++ map (value_head uints_kind) b ++ map (value_head doubles_kind) c ++ map (value_head texts_kind) d ++ space_heads 0 v.namespaces ++ map (λ s. value_head sets_kind 0) v.sets ++ map name_head v.names
heads_built v a b c d h0 h1 h2 h3 h4 h5 h6 h7 h8 e0 e1 e2 e3 e4 e5 e6 e7 e8 =
    e8 ∙ ap (λ h. h ++ map name_head v.names) (e7 ∙ ap (λ h. h ++ map (λ s. value_head sets_kind 0) v.sets) (e6 ∙ ap (λ h. h ++ space_heads 0 v.namespaces) (e5 ∙ ap (λ h. h ++ map (value_head texts_kind) d)
    (e4 ∙ ap (λ h. h ++ map (value_head doubles_kind) c) (e3 ∙ ap (λ h. h ++ map (value_head uints_kind) b) (e2 ∙ ap (λ h. h ++ map (value_head ints_kind) a) (e1 ∙ ap (λ h. h ++ no_head ∷ []) e0)))))))

pub entries_built : (v : Abc) (c : Counts) (g1 g2 g3 g4 : List (List ℕ)) → c ≡ counts_of v → g1 ≡ value_graph v → g2 ≡ g1 ++ map (space_parts c) v.namespaces → g3 ≡ g2 ++ map (set_parts c) v.sets → g4 ≡ g3 ++ map (entry_name_parts c) v.names → g4 ≡ graph_of v
entries_built v c g1 g2 g3 g4 counts e1 e2 e3 e4 =
    e4 ∙ ap (λ g. g ++ map (entry_name_parts c) v.names) (e3 ∙ ap (λ g. g ++ map (set_parts c) v.sets) (e2 ∙ ap (λ g. g ++ map (space_parts c) v.namespaces) e1))
    ∙ ap (λ k. value_graph v ++ map (space_parts k) v.namespaces ++ map (set_parts k) v.sets ++ map (entry_name_parts k) v.names) counts

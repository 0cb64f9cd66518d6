-- The heads and the parts of nodes are those of their entries.
use Rattle.std.proofs.Common.{◌≡◌, ℕ, ℤ, ◌+◌, List, [], ◌∷◌, ◌++◌, map, nat_eq, refl, sym, ap, subst, ◌∙◌, bytes_eq, int_eq}
use Rattle.std.specs.Cmp.Lexicographic.{pointwise}
use Rattle.std.proofs.lemmas.List.{map-append}
use Rattle.abc_base_graphs.specs.Graph.{leads_to}
use Rattle.abc_base_graphs.specs.Texts.{number_among, texts_of}
use Rattle.abc_tidy_refs.specs.declared.nodes.Counts.{Counts}
use Rattle.abc_tidy_refs.specs.Nodes.{counts_of}
use Rattle.abc_file_types.specs.declared.names.Namespace.{Namespace}
use Rattle.abc_file_types.specs.declared.tables.Abc.{Abc}
use Rattle.abc_file_types.specs.declared.tables.Eight.{Eight}
use Rattle.abc_base_trees.specs.declared.heads.Head.{Head}
use Rattle.abc_base_trees.specs.Trees.{head_of_tree, no_head}
use Rattle.abc_tidy_entries.specs.Entries.{double_places, doubles_kind, graph_of, heads_of, int_places, ints_kind, name_head, entry_name_parts, no_parts, place_among, set_parts, sets_kind, space_head, space_heads, space_parts, text_places, texts_kind, uint_places, uints_kind, value_graph, value_head, value_heads}
use Rattle.abc_tidy.specs.Things.{Entry, NoEntry, IntEntry, UIntEntry, DoubleEntry, TextEntry, SpaceEntry, SetEntry, NameEntry, entries, entry_at, parts, space_entries}
use Rattle.abc_tidy.proofs.Lists.{get_map, same_maps, two_maps}

abbrev pub double_bits : Abc → List (List ℕ)
double_bits v = map (λ d. d.0) v.doubles

abbrev pub entry_head : Abc → Entry → Head
entry_head v NoEntry = no_head
entry_head v (IntEntry x) = value_head ints_kind (place_among int_eq v.ints x)
entry_head v (UIntEntry x) = value_head uints_kind (place_among nat_eq v.uints x)
entry_head v (DoubleEntry x) = value_head doubles_kind (place_among (pointwise nat_eq) (double_bits v) x.0)
entry_head v (TextEntry x) = value_head texts_kind (number_among (texts_of v.strings) x)
entry_head v (SpaceEntry place n) = space_head n place
entry_head v (SetEntry spaces) = value_head sets_kind 0
entry_head v (NameEntry m) = name_head m

pub split8 : {A B : Type 0} (f : A → B) (a b c d e g h k : List A) → map f (a ++ b ++ c ++ d ++ e ++ g ++ h ++ k) ≡ map f a ++ map f b ++ map f c ++ map f d ++ map f e ++ map f g ++ map f h ++ map f k
split8 f a b c d e g h k =
    map-append f (a ++ b ++ c ++ d ++ e ++ g ++ h) k
    ∙ ap (λ xs. xs ++ map f k) (map-append f (a ++ b ++ c ++ d ++ e ++ g) h
    ∙ ap (λ xs. xs ++ map f h) (map-append f (a ++ b ++ c ++ d ++ e) g
    ∙ ap (λ xs. xs ++ map f g) (map-append f (a ++ b ++ c ++ d) e
    ∙ ap (λ xs. xs ++ map f e) (map-append f (a ++ b ++ c) d
    ∙ ap (λ xs. xs ++ map f d) (map-append f (a ++ b) c
    ∙ ap (λ xs. xs ++ map f c) (map-append f a b))))))

spaces_heads : (v : Abc) (place : ℕ) (ns : List Namespace) → map (entry_head v) (space_entries place ns) ≡ space_heads place ns
spaces_heads v place [] = refl
spaces_heads v place (n ∷ ns) = ap (λ hs. space_head n place ∷ hs) (spaces_heads v (place + 1) ns)

doubles_heads : (v : Abc) (ds : List Eight) → map (entry_head v) (map DoubleEntry ds) ≡ map (value_head doubles_kind) (map (place_among (pointwise nat_eq) (double_bits v)) (map (λ d. d.0) ds))
doubles_heads v [] = refl
doubles_heads v (d ∷ ds) = ap (λ hs. entry_head v (DoubleEntry d) ∷ hs) (doubles_heads v ds)

pub heads_are : (v : Abc) → map (entry_head v) (entries v) ≡ heads_of v
heads_are v =
    split8 (entry_head v) (NoEntry ∷ []) (map IntEntry v.ints) (map UIntEntry v.uints) (map DoubleEntry v.doubles) (map TextEntry v.strings) (space_entries 0 v.namespaces) (map SetEntry v.sets) (map NameEntry v.names)
    ∙ (λ i. (no_head ∷ []) ++ ints i ++ uints i ++ doubles_heads v v.doubles i ++ texts i ++ spaces_heads v 0 v.namespaces i ++ sets i ++ names i)
  where
    ints : map (entry_head v) (map IntEntry v.ints) ≡ map (value_head ints_kind) (int_places v)
    ints = same_maps (entry_head v) IntEntry (value_head ints_kind) (place_among int_eq v.ints) v.ints (λ x. refl)

    uints : map (entry_head v) (map UIntEntry v.uints) ≡ map (value_head uints_kind) (uint_places v)
    uints = same_maps (entry_head v) UIntEntry (value_head uints_kind) (place_among nat_eq v.uints) v.uints (λ x. refl)

    texts : map (entry_head v) (map TextEntry v.strings) ≡ map (value_head texts_kind) (text_places v)
    texts = same_maps (entry_head v) TextEntry (value_head texts_kind) (number_among (texts_of v.strings)) v.strings (λ x. refl)

    sets : map (entry_head v) (map SetEntry v.sets) ≡ map (λ s. value_head sets_kind 0) v.sets
    sets = two_maps (entry_head v) SetEntry (λ s. value_head sets_kind 0) v.sets (λ x. refl)

    names : map (entry_head v) (map NameEntry v.names) ≡ map name_head v.names
    names = two_maps (entry_head v) NameEntry name_head v.names (λ x. refl)

spaces_parts : (c : Counts) (place : ℕ) (ns : List Namespace) → map (parts c) (space_entries place ns) ≡ map (space_parts c) ns
spaces_parts c place [] = refl
spaces_parts c place (n ∷ ns) = ap (λ hs. space_parts c n ∷ hs) (spaces_parts c (place + 1) ns)

doubles_parts : (c : Counts) (places : List ℕ) (ds : List Eight) (f : List ℕ → ℕ) → places ≡ map f (map (λ d. d.0) ds) → map (parts c) (map DoubleEntry ds) ≡ no_parts places
doubles_parts c places ds f e = go ds ∙ ap no_parts (sym e)
  where
    go : (ds : List Eight) → map (parts c) (map DoubleEntry ds) ≡ no_parts (map f (map (λ d. d.0) ds))
    go [] = refl
    go (d ∷ ds) = ap (λ ps. [] ∷ ps) (go ds)

pub graph_is : (v : Abc) → map (parts (counts_of v)) (entries v) ≡ graph_of v
graph_is v =
    split8 (parts (counts_of v)) (NoEntry ∷ []) (map IntEntry v.ints) (map UIntEntry v.uints) (map DoubleEntry v.doubles) (map TextEntry v.strings) (space_entries 0 v.namespaces) (map SetEntry v.sets) (map NameEntry v.names)
    ∙ (λ i. ([] ∷ []) ++ ints i ++ uints i ++ doubles i ++ texts i ++ spaces_parts (counts_of v) 0 v.namespaces i ++ sets i ++ names i)
  where
    ints : map (parts (counts_of v)) (map IntEntry v.ints) ≡ no_parts (int_places v)
    ints = same_maps (parts (counts_of v)) IntEntry (λ x. []) (place_among int_eq v.ints) v.ints (λ x. refl)

    uints : map (parts (counts_of v)) (map UIntEntry v.uints) ≡ no_parts (uint_places v)
    uints = same_maps (parts (counts_of v)) UIntEntry (λ x. []) (place_among nat_eq v.uints) v.uints (λ x. refl)

    doubles : map (parts (counts_of v)) (map DoubleEntry v.doubles) ≡ no_parts (double_places v)
    doubles = doubles_parts (counts_of v) (double_places v) v.doubles (place_among (pointwise nat_eq) (double_bits v)) refl

    texts : map (parts (counts_of v)) (map TextEntry v.strings) ≡ no_parts (text_places v)
    texts = same_maps (parts (counts_of v)) TextEntry (λ x. []) (number_among (texts_of v.strings)) v.strings (λ x. refl)

    sets : map (parts (counts_of v)) (map SetEntry v.sets) ≡ map (set_parts (counts_of v)) v.sets
    sets = two_maps (parts (counts_of v)) SetEntry (set_parts (counts_of v)) v.sets (λ x. refl)

    names : map (parts (counts_of v)) (map NameEntry v.names) ≡ map (entry_name_parts (counts_of v)) v.names
    names = two_maps (parts (counts_of v)) NameEntry (entry_name_parts (counts_of v)) v.names (λ x. refl)

-- ---- of a node

pub head_at : (v : Abc) (x : ℕ) → head_of_tree (heads_of v) x ≡ entry_head v (entry_at v x)
head_at v x = ap (λ hs. head_of_tree hs x) (sym (heads_are v)) ∙ get_map (entry_head v) (entries v) x NoEntry no_head refl

pub targets_at : (v : Abc) (x : ℕ) → leads_to (graph_of v) x ≡ parts (counts_of v) (entry_at v x)
targets_at v x = ap (λ g. leads_to g x) (sym (graph_is v)) ∙ get_map (parts (counts_of v)) (entries v) x NoEntry [] refl

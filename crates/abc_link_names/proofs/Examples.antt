-- The examples of the rules of linking, by a test of each item.
use Rattle.std.proofs.Common.{◌≡◌, ℕ, zero, suc, ◌<◌, inl, inr, Bool, true, false, not, ◌&&◌, ◌||◌, List, [], ◌∷◌, length, Contains, refl, subst, arith}
use Rattle.std.specs.Prelude.{if◌then◌else◌, nat_eq, nat_lt, slice_index_or}
use Rattle.std.specs.List.{list_all}
use Rattle.std.proofs.lemmas.Bool.{and_parts, cases_lt, eq-eqb, le-ltb, lt-ltb, ltb-true}
use Rattle.std.proofs.lemmas.List.{get_or_past}
use Rattle.abc_base_graphs.specs.Graph.{leads_to, Edge, Leads, Returns, Then}
use Rattle.abc_file_types.specs.declared.tables.Abc.{Abc}
use Rattle.abc_link_names.specs.declared.items.Item.{Item}
use Rattle.abc_link_names.specs.declared.items.ItemKind.{ItemKind}
use Rattle.abc_link_names.specs.declared.items.ItemKind.TheVariants as kinds
use Rattle.abc_link_names.specs.declared.items.LinkRule.{LinkRule}
use Rattle.abc_link_names.specs.declared.items.LinkRule.TheVariants as rules
use Rattle.abc_link_names.specs.Bases.{base_graph, base_named, breaks_unknown_base, breaks_unknown_interface, interface_graph, is_final_base, is_interface_named}
use Rattle.abc_link_names.specs.Examples.{LinkRuleExamples}
use Rattle.abc_link_names.specs.Firsts.{item}
use Rattle.abc_link_names.specs.Items.{IsItem, StandsBefore, count_of, kind_number, rule_number}
use Rattle.abc_link_names.specs.Methods.{breaks_no_body, breaks_owned_twice}
use Rattle.abc_link_names.specs.PartsByNumber.{body_at}
use Rattle.abc_link_names.specs.Rules.{AllHoldBefore, Breaks, IsFirstBroken, is_kind, is_too_large}
use Rattle.abc_link_names.specs.ItemTypes.{any_pair, any_table, breaks_name_kind, breaks_trait_not_run, breaks_unknown_type, names_clash, slots_clash}
use Rattle.abc_link_names.proofs.FirstBroken.{all_hold}

-- ---- tests of all numbers and of all elements

abbrev all_below : ℕ → (ℕ → Bool) → Bool
all_below zero p = true
all_below (suc n) p = p n && all_below n p

at_below : (n : ℕ) (p : ℕ → Bool) (k : ℕ) → all_below n p ≡ true → k < n → p k ≡ true
at_below zero p k e low = absurd (omega (arith, low))
at_below (suc n) p k e low = elim (cases_lt k n) [
  | inl less ↦ at_below n p k (and_parts (p n) (all_below n p) e).1 less
  | inr more ↦ let same : n ≡ k = omega (arith, low, more) in subst (λ (m : ℕ). p m ≡ true) same (and_parts (p n) (all_below n p) e).0
]

at_place : (p : ℕ → Bool) (xs : List ℕ) (k d : ℕ) → list_all p xs ≡ true → k < length xs → p (slice_index_or xs k d) ≡ true
at_place p [] k d e low = absurd (omega (arith, low))
at_place p (x ∷ xs) zero d e low = (and_parts (p x) (list_all p xs) e).0
at_place p (x ∷ xs) (suc k) d e low = at_place p xs k d (and_parts (p x) (list_all p xs) e).1 (omega (arith, low))

-- ---- a graph whose edges lead to nodes before: no node returns

abbrev falls : List (List ℕ) → Bool
falls graph = all_below (length graph) (λ x. list_all (λ y. nat_lt y x) (leads_to graph x))

edge_falls : (graph : List (List ℕ)) (x y : ℕ) → falls graph ≡ true → Contains (leads_to graph x) y → y < x
edge_falls graph x y e c = elim (cases_lt x (length graph)) [
  | inl low ↦ ltb-true y x (subst (λ (z : ℕ). nat_lt z x ≡ true) c.2 (at_place (λ z. nat_lt z x) (leads_to graph x) c.0 y (at_below (length graph) (λ z. list_all (λ y. nat_lt y z) (leads_to graph z)) x e low) c.1))
  | inr past ↦ let none : leads_to graph x ≡ [] = get_or_past graph x [] past in let h : Contains [] y = subst (λ (l : List ℕ). Contains l y) none c in absurd (omega (arith, h.1))
]

leads_down : (graph : List (List ℕ)) (x y : ℕ) → falls graph ≡ true → Leads graph x y → y < x
leads_down graph x y e (Edge c) = edge_falls graph x y e c
leads_down graph x y e (Then {y = m} c rest) = let a = edge_falls graph x m e c in let b = leads_down graph m y e rest in omega (arith, a, b)

no_return : (graph : List (List ℕ)) (x : ℕ) → falls graph ≡ true → Returns graph x → ⊥
no_return graph x e r = let low = leads_down graph x x e r in omega (arith, low)

-- ---- an item keeps a rule; BaseCycle, where no edge leads to a class behind

abbrev keeps : Abc → LinkRule → Item → Bool
keeps v rules.NoScript i = not (is_kind kinds.File i.kind && nat_eq (length v.scripts) 0)
keeps v rules.NameKind i = not (breaks_name_kind v i.kind i.index)
keeps v rules.UnknownBase i = not (is_kind kinds.Class i.kind && breaks_unknown_base v i.index)
keeps v rules.BaseCycle i = not (is_kind kinds.Class i.kind) || (falls (base_graph v) && falls (interface_graph v))
keeps v rules.FinalBase i = not (is_kind kinds.Class i.kind && is_final_base v (base_named v i.index))
keeps v rules.BaseIsInterface i = not (is_kind kinds.Class i.kind && is_interface_named v (base_named v i.index))
keeps v rules.UnknownInterface i = not (is_kind kinds.Class i.kind && breaks_unknown_interface v i.index)
keeps v rules.UnknownType i = not (breaks_unknown_type v i.kind i.index)
keeps v rules.OwnedTwice i = not (is_kind kinds.Method i.kind && breaks_owned_twice v i.index)
keeps v rules.NoBody i = not (is_kind kinds.Method i.kind && breaks_no_body v i.index)
keeps v rules.SameName i = not (any_table (any_pair (names_clash v)) v i.kind i.index)
keeps v rules.SameSlot i = not (any_table (any_pair slots_clash) v i.kind i.index)
keeps v rules.TraitNotRun i = not (breaks_trait_not_run v i.kind i.index)
keeps v rules.TooLarge i = not (is_kind kinds.Body i.kind && is_too_large (body_at v i.index))

never_both : (b : Bool) → not b ≡ true → b ≡ true → ⊥
never_both true e h = cc
never_both false e h = cc

no_cycle : (a b c : Bool) → (not a || (b && c)) ≡ true → a ≡ true → (b ≡ true) × (c ≡ true)
no_cycle true b c e h = and_parts b c e
no_cycle false b c e h = absurd cc

kept : (v : Abc) (rule : LinkRule) (i : Item) → keeps v rule i ≡ true → Breaks v rule i → ⊥
kept v rules.NoScript i e h = never_both _ e h
kept v rules.NameKind i e h = never_both _ e h
kept v rules.UnknownBase i e h = never_both _ e h
kept v rules.BaseCycle i e h =
    let both = no_cycle (is_kind kinds.Class i.kind) (falls (base_graph v)) (falls (interface_graph v)) e h.0 in
    elim h.1 [ inl r ↦ no_return (base_graph v) i.index both.0 r | inr r ↦ no_return (interface_graph v) i.index both.1 r ]
kept v rules.FinalBase i e h = never_both _ e h
kept v rules.BaseIsInterface i e h = never_both _ e h
kept v rules.UnknownInterface i e h = never_both _ e h
kept v rules.UnknownType i e h = never_both _ e h
kept v rules.OwnedTwice i e h = never_both _ e h
kept v rules.NoBody i e h = never_both _ e h
kept v rules.SameName i e h = never_both _ e h
kept v rules.SameSlot i e h = never_both _ e h
kept v rules.TraitNotRun i e h = never_both _ e h
kept v rules.TooLarge i e h = never_both _ e h

-- ---- all kinds and all rules

abbrev each_kind : (ItemKind → Bool) → Bool
each_kind p = p kinds.File && (p kinds.Method && (p kinds.Class && (p kinds.Script && p kinds.Body)))

of_kind : (p : ItemKind → Bool) (k : ItemKind) → each_kind p ≡ true → p k ≡ true
of_kind p k e = pick k
  where
    one : (p kinds.File ≡ true) × ((p kinds.Method && (p kinds.Class && (p kinds.Script && p kinds.Body))) ≡ true)
    one = and_parts _ _ e

    two : (p kinds.Method ≡ true) × ((p kinds.Class && (p kinds.Script && p kinds.Body)) ≡ true)
    two = and_parts _ _ one.1

    three : (p kinds.Class ≡ true) × ((p kinds.Script && p kinds.Body) ≡ true)
    three = and_parts _ _ two.1

    four : (p kinds.Script ≡ true) × (p kinds.Body ≡ true)
    four = and_parts _ _ three.1

    pick : (k : ItemKind) → p k ≡ true
    pick kinds.File = one.0
    pick kinds.Method = two.0
    pick kinds.Class = three.0
    pick kinds.Script = four.0
    pick kinds.Body = four.1

abbrev rule_at : ℕ → LinkRule
rule_at n =
    if nat_eq n 1 then rules.NoScript else if nat_eq n 2 then rules.NameKind else if nat_eq n 3 then rules.UnknownBase else if nat_eq n 4 then rules.BaseCycle
    else if nat_eq n 5 then rules.FinalBase else if nat_eq n 6 then rules.BaseIsInterface else if nat_eq n 7 then rules.UnknownInterface
    else if nat_eq n 8 then rules.UnknownType else if nat_eq n 9 then rules.OwnedTwice else if nat_eq n 10 then rules.NoBody
    else if nat_eq n 11 then rules.SameName else if nat_eq n 12 then rules.SameSlot else if nat_eq n 13 then rules.TraitNotRun else rules.TooLarge

-- so many items of each kind keep the rule
abbrev quiet : Abc → LinkRule → (ItemKind → ℕ) → Bool
quiet v rule room = each_kind (λ kind. all_below (room kind) (λ x. keeps v rule (item kind x)))

quiet_item : (v : Abc) (rule : LinkRule) (room : ItemKind → ℕ) (j : Item) → quiet v rule room ≡ true → j.index < room j.kind → keeps v rule j ≡ true
quiet_item v rule room j e low = at_below (room j.kind) (λ x. keeps v rule (item j.kind x)) j.index (of_kind (λ kind. all_below (room kind) (λ x. keeps v rule (item kind x))) j.kind e) low

-- the rules with numbers below n; there is no rule 0
abbrev quiet_rules : Abc → ℕ → Bool
quiet_rules v n = all_below n (λ m. nat_eq m 0 || quiet v (rule_at m) (count_of v))

quiet_rule : (v : Abc) (n : ℕ) (rule : LinkRule) → quiet_rules v n ≡ true → rule_number rule < n → quiet v rule (count_of v) ≡ true
quiet_rule v n rules.NoScript e low = at_below n (λ m. nat_eq m 0 || quiet v (rule_at m) (count_of v)) 1 e low
quiet_rule v n rules.NameKind e low = at_below n (λ m. nat_eq m 0 || quiet v (rule_at m) (count_of v)) 2 e low
quiet_rule v n rules.UnknownBase e low = at_below n (λ m. nat_eq m 0 || quiet v (rule_at m) (count_of v)) 3 e low
quiet_rule v n rules.BaseCycle e low = at_below n (λ m. nat_eq m 0 || quiet v (rule_at m) (count_of v)) 4 e low
quiet_rule v n rules.FinalBase e low = at_below n (λ m. nat_eq m 0 || quiet v (rule_at m) (count_of v)) 5 e low
quiet_rule v n rules.BaseIsInterface e low = at_below n (λ m. nat_eq m 0 || quiet v (rule_at m) (count_of v)) 6 e low
quiet_rule v n rules.UnknownInterface e low = at_below n (λ m. nat_eq m 0 || quiet v (rule_at m) (count_of v)) 7 e low
quiet_rule v n rules.UnknownType e low = at_below n (λ m. nat_eq m 0 || quiet v (rule_at m) (count_of v)) 8 e low
quiet_rule v n rules.OwnedTwice e low = at_below n (λ m. nat_eq m 0 || quiet v (rule_at m) (count_of v)) 9 e low
quiet_rule v n rules.NoBody e low = at_below n (λ m. nat_eq m 0 || quiet v (rule_at m) (count_of v)) 10 e low
quiet_rule v n rules.SameName e low = at_below n (λ m. nat_eq m 0 || quiet v (rule_at m) (count_of v)) 11 e low
quiet_rule v n rules.SameSlot e low = at_below n (λ m. nat_eq m 0 || quiet v (rule_at m) (count_of v)) 12 e low
quiet_rule v n rules.TraitNotRun e low = at_below n (λ m. nat_eq m 0 || quiet v (rule_at m) (count_of v)) 13 e low
quiet_rule v n rules.TooLarge e low = at_below n (λ m. nat_eq m 0 || quiet v (rule_at m) (count_of v)) 14 e low

pub all_quiet : (v : Abc) (n : ℕ) → quiet_rules v n ≡ true → AllHoldBefore v n
all_quiet v n e = λ rule low i is b. kept v rule i (quiet_item v rule (count_of v) i (quiet_rule v n rule e low) is.within) b

-- how many items of a kind stand before an item, where there are n of the kind
abbrev room_by : (less same : Bool) (n index : ℕ) → ℕ
room_by less same n index = if less then n else if same then index else 0

room_less : (less same : Bool) (n index x : ℕ) → less ≡ true → x < n → x < room_by less same n index
room_less true same n index x e low = low
room_less false same n index x e low = absurd cc

room_same : (less same : Bool) (n index x : ℕ) → less ≡ false → same ≡ true → x < index → x < room_by less same n index
room_same true same n index x e f low = absurd cc
room_same false true n index x e f low = low
room_same false false n index x e f low = absurd cc

abbrev room_before : Abc → Item → ItemKind → ℕ
room_before v i kind = room_by (nat_lt (kind_number kind) (kind_number i.kind)) (nat_eq (kind_number kind) (kind_number i.kind)) (count_of v kind) i.index

stands_within : (v : Abc) (i j : Item) → IsItem v j → StandsBefore j i → j.index < room_before v i j.kind
stands_within v i j is (inl less) = room_less (nat_lt (kind_number j.kind) (kind_number i.kind)) (nat_eq (kind_number j.kind) (kind_number i.kind)) (count_of v j.kind) i.index j.index (lt-ltb (kind_number j.kind) (kind_number i.kind) less) is.within
stands_within v i j is (inr same) = room_same (nat_lt (kind_number j.kind) (kind_number i.kind)) (nat_eq (kind_number j.kind) (kind_number i.kind)) (count_of v j.kind) i.index j.index (le-ltb (kind_number j.kind) (kind_number i.kind) (omega (arith, same.0))) (eq-eqb (kind_number j.kind) (kind_number i.kind) same.0) same.1

told : (v : Abc) (rule : LinkRule) (i : Item) → nat_lt i.index (count_of v i.kind) ≡ true → Breaks v rule i → quiet v rule (room_before v i) ≡ true → quiet_rules v (rule_number rule) ≡ true → IsFirstBroken v rule i
told v rule i item broken first before = record {
  item = record { within = ltb-true i.index (count_of v i.kind) item };
  breaks = broken;
  first = λ j is stands b. kept v rule j (quiet_item v rule (room_before v i) j first (stands_within v i j is stands)) b;
  before = all_quiet v (rule_number rule) before;
}

pub rule_examples : LinkRuleExamples
rule_examples = record {
  no_script = told _ _ _ refl refl refl refl;
  name_kind = told _ _ _ refl refl refl refl;
  unknown_base = told _ _ _ refl refl refl refl;
  base_cycle = told _ _ _ refl (refl, inl (Edge (0, omega arith, refl))) refl refl;
  host_base = told _ _ _ refl refl refl refl;
  final_base = told _ _ _ refl refl refl refl;
  interface_base = told _ _ _ refl refl refl refl;
  unknown_interface = told _ _ _ refl refl refl refl;
  unknown_type = told _ _ _ refl refl refl refl;
  owned_twice = told _ _ _ refl refl refl refl;
  no_body = told _ _ _ refl refl refl refl;
  same_name = told _ _ _ refl refl refl refl;
  same_slot = told _ _ _ refl refl refl refl;
  not_run = told _ _ _ refl refl refl refl;
  too_large = told _ _ _ refl refl refl refl;
  earlier_rule = told _ _ _ refl refl refl refl;
  earlier_item = told _ _ _ refl refl refl refl;
  all_hold = all_hold _ (all_quiet _ 15 refl);
}

-- Bases that follow no cycle are a forest.
use Rattle.std.proofs.Common.{◌≡◌, ℕ, ◌<◌, ◌≤◌, ◌⊎◌, inl, inr, List, [], ◌∷◌, Some, None, map, length, get_or, refl, sym, ap, subst, ◌∙◌, arith, Contains}
use Rattle.std.specs.declared.option.Option.{Option}
use Rattle.std.specs.Option.{option_to_list}
use Rattle.std.proofs.lemmas.Bool.{cases_lt}
use Rattle.std.proofs.lemmas.List.{get_or-map, get_or_past, length-map}
use Rattle.abc_base_graphs.specs.Graph.{Leads, Edge, Then, Returns, leads_to}
use Rattle.abc_base_graphs.specs.Orders.{IsForest, IsOrder, base_in}
use Rattle.abc_link_names.specs.Instances.{instance_at, no_instance}
use Rattle.abc_link_names.specs.Meaning.{resolve}
use Rattle.abc_link_names.specs.declared.named.Named.{Named}
use Rattle.abc_link_names.specs.declared.named.Named.TheVariants as named
use Rattle.abc_file_types.specs.declared.classes.Instance.{Instance}
use Rattle.abc_file_types.specs.declared.tables.Abc.{Abc}
use Rattle.abc_link_names.specs.Bases.{base_graph, classes_named}
use Rattle.abc_link_names.specs.Rules.{AllHold}
use Rattle.abc_link_names.specs.declared.items.Item.{Item}
use Rattle.abc_link_names.specs.declared.items.ItemKind.TheVariants as kinds
use Rattle.abc_link_names.specs.declared.items.LinkRule.TheVariants as rules
use Rattle.abc_link_names.proofs.Within.{resolve_within}
use Rattle.abc_link_layouts.specs.Forest.{class_bases, class_in}

as_list : (o : Option Named) → option_to_list (class_in o) ≡ classes_named o
as_list None = refl
as_list (Some named.Any) = refl
as_list (Some named.Void) = refl
as_list (Some (named.Host h)) = refl
as_list (Some (named.Class b)) = refl

map_map : {A B C : Type 0} (f : A → B) (g : B → C) (h : A → C) → ((x : A) → g (f x) ≡ h x) → (xs : List A) → map g (map f xs) ≡ map h xs
map_map f g h same [] = refl
map_map {C = C} f g h same (x ∷ xs) = ap (λ (y : C). y ∷ map g (map f xs)) (same x) ∙ ap (λ (ys : List C). h x ∷ ys) (map_map f g h same xs)

same_graph : (v : Abc) → map option_to_list (class_bases v) ≡ base_graph v
same_graph v = map_map (λ (i : Instance). class_in (resolve v i.super_name)) option_to_list (λ (i : Instance). classes_named (resolve v i.super_name)) (λ i. as_list (resolve v i.super_name)) v.instances

no_edge : (g : List (List ℕ)) (x y : ℕ) → length g ≤ x → Leads g x y → ⊥
no_edge g x y le (Edge {y = m} c) = let e : leads_to g x ≡ [] = get_or_past g x [] le in let h = subst (λ (l : List ℕ). Contains l m) e c in absurd (omega (arith, h.1))
no_edge g x y le (Then {y = m} c rest) = let e : leads_to g x ≡ [] = get_or_past g x [] le in let h = subst (λ (l : List ℕ). Contains l m) e c in absurd (omega (arith, h.1))

pub never_returns : (v : Abc) → AllHold v → (x : ℕ) → Returns (base_graph v) x → ⊥
never_returns v all x r = go (cases_lt x (length v.instances))
  where
    go : (x < length v.instances) ⊎ (length v.instances ≤ x) → ⊥
    go (inl lt) =
        let item : Item = record { kind = kinds.Class; index = x } in
        all rules.BaseCycle item (record { within = lt }) (refl, inl r)
    go (inr le) = no_edge (base_graph v) x x (omega (arith, length-map v.instances (λ (i : Instance). classes_named (resolve v i.super_name)))) r

known_class : (o : Option Named) (b : ℕ) → class_in o ≡ Some b → o ≡ Some (named.Class b)
known_class None b e = cc
known_class (Some named.Any) b e = cc
known_class (Some named.Void) b e = cc
known_class (Some (named.Host h)) b e = cc
known_class (Some (named.Class k)) b e = let q : k ≡ b = cc in ap (λ m. Some (named.Class m)) q

pub base_at : (v : Abc) (x : ℕ) → x < length v.instances → base_in (class_bases v) x ≡ class_in (resolve v (instance_at v x).super_name)
base_at v x lt = get_or-map (λ (i : Instance). class_in (resolve v i.super_name)) v.instances x no_instance None lt

pub base_known : (v : Abc) (x b : ℕ) → base_in (class_bases v) x ≡ Some b → (x < length v.instances) × (resolve v (instance_at v x).super_name ≡ Some (named.Class b))
base_known v x b e = go (cases_lt x (length v.instances))
  where
    go : (x < length v.instances) ⊎ (length v.instances ≤ x) → (x < length v.instances) × (resolve v (instance_at v x).super_name ≡ Some (named.Class b))
    go (inl lt) = (lt, known_class (resolve v (instance_at v x).super_name) b (sym (base_at v x lt) ∙ e))
    go (inr le) =
        let none : Option ℕ = None in
        let f : base_in (class_bases v) x ≡ none = get_or_past (class_bases v) x none (omega (arith, length-map v.instances (λ (i : Instance). class_in (resolve v i.super_name)))) in cc

pub is_forest : (v : Abc) (bases : List (Option ℕ)) → AllHold v → bases ≡ class_bases v → IsForest bases
is_forest v bases all e = subst IsForest (sym e) (record {
  known = λ x b f. let h = base_known v x b f in omega (arith, resolve_within v (instance_at v x).super_name b h.1, length-map v.instances (λ (i : Instance). class_in (resolve v i.super_name)));
  never = λ x r. never_returns v all x (subst (λ (g : List (List ℕ)). Returns g x) (same_graph v) r);
})

pub few_bases : (v : Abc) (bases : List (Option ℕ)) → bases ≡ class_bases v → length bases ≡ length v.instances
few_bases v bases e = ap length e ∙ length-map v.instances (λ (i : Instance). class_in (resolve v i.super_name))

pub order_of_bases : (v : Abc) (bases : List (Option ℕ)) (nodes : List ℕ) (places : List (Option ℕ)) → bases ≡ class_bases v → IsOrder bases nodes places → IsOrder (class_bases v) nodes places
order_of_bases v bases nodes places e o = subst (λ (bs : List (Option ℕ)). IsOrder bs nodes places) e o

-- When an item of a file breaks a rule of linking, and the first broken rule (profile: docs/LINKING.md, "The rules").
use Rattle.std.specs.Prelude.{ℕ, ◌<◌, ◌⊎◌, Bool, nat_eq, nat_lt, ◌&&◌, ◌||◌, IsTrue, length}
use Rattle.abc_base_graphs.specs.Graph.{Returns}
use Rattle.abc_file_types.specs.declared.code.Body.{Body}
use Rattle.abc_file_types.specs.declared.tables.Abc.{Abc}
use Rattle.abc_link_names.specs.declared.items.LinkRule.{LinkRule}
use Rattle.abc_link_names.specs.declared.items.LinkRule.TheVariants as rules
use Rattle.abc_link_names.specs.declared.items.ItemKind.{ItemKind}
use Rattle.abc_link_names.specs.declared.items.ItemKind.TheVariants as kinds
use Rattle.abc_link_names.specs.declared.items.Item.{Item}
use Rattle.abc_link_names.specs.Items.{IsItem, StandsBefore, kind_number, rule_number}
use Rattle.abc_link_names.specs.PartsByNumber.{body_at}
use Rattle.abc_link_names.specs.Bases.{base_graph, base_named, breaks_unknown_base, breaks_unknown_interface, interface_graph, is_final_base, is_interface_named}
use Rattle.abc_link_names.specs.Methods.{breaks_no_body, breaks_owned_twice}
use Rattle.abc_link_names.specs.ItemTypes.{any_pair, any_table, breaks_name_kind, breaks_trait_not_run, breaks_unknown_type, names_clash, slots_clash}

abbrev pub size_limit : ℕ
size_limit = 65535

abbrev pub is_too_large : Body → Bool
is_too_large b = nat_lt size_limit b.max_stack || nat_lt size_limit b.local_count || nat_lt size_limit b.max_scope

abbrev pub is_kind : ItemKind → ItemKind → Bool
is_kind k l = nat_eq (kind_number k) (kind_number l)

-- The item breaks the rule. Only BaseCycle is no plain test: following bases, or interfaces of interfaces, returns.
abbrev pub Breaks : Abc → LinkRule → Item → Type 0
Breaks v rules.NoScript i = IsTrue (is_kind kinds.File i.kind && nat_eq (length v.scripts) 0)
Breaks v rules.NameKind i = IsTrue (breaks_name_kind v i.kind i.index)
Breaks v rules.UnknownBase i = IsTrue (is_kind kinds.Class i.kind && breaks_unknown_base v i.index)
Breaks v rules.BaseCycle i = IsTrue (is_kind kinds.Class i.kind) × (Returns (base_graph v) i.index ⊎ Returns (interface_graph v) i.index)
Breaks v rules.FinalBase i = IsTrue (is_kind kinds.Class i.kind && is_final_base v (base_named v i.index))
Breaks v rules.BaseIsInterface i = IsTrue (is_kind kinds.Class i.kind && is_interface_named v (base_named v i.index))
Breaks v rules.UnknownInterface i = IsTrue (is_kind kinds.Class i.kind && breaks_unknown_interface v i.index)
Breaks v rules.UnknownType i = IsTrue (breaks_unknown_type v i.kind i.index)
Breaks v rules.OwnedTwice i = IsTrue (is_kind kinds.Method i.kind && breaks_owned_twice v i.index)
Breaks v rules.NoBody i = IsTrue (is_kind kinds.Method i.kind && breaks_no_body v i.index)
Breaks v rules.SameName i = IsTrue (any_table (any_pair (names_clash v)) v i.kind i.index)
Breaks v rules.SameSlot i = IsTrue (any_table (any_pair slots_clash) v i.kind i.index)
Breaks v rules.TraitNotRun i = IsTrue (breaks_trait_not_run v i.kind i.index)
Breaks v rules.TooLarge i = IsTrue (is_kind kinds.Body i.kind && is_too_large (body_at v i.index))

-- ---- the first broken rule

-- No item breaks one of the first so many rules.
abbrev pub AllHoldBefore : Abc → ℕ → Type 0
AllHoldBefore v n = (rule : LinkRule) → rule_number rule < n → (i : Item) → IsItem v i → Breaks v rule i → ⊥

-- The item breaks the rule, no item before it does, and no item breaks a rule before.
pub record IsFirstBroken (v : Abc) (rule : LinkRule) (i : Item) : Type 0 where
  pub item : IsItem v i
  pub breaks : Breaks v rule i
  pub first : (j : Item) → IsItem v j → StandsBefore j i → Breaks v rule j → ⊥
  pub before : AllHoldBefore v (rule_number rule)

-- Every rule holds.
abbrev pub AllHold : Abc → Type 0
AllHold v = (rule : LinkRule) (i : Item) → IsItem v i → Breaks v rule i → ⊥

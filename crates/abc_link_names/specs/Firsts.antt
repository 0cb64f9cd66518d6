-- The first items that break a rule (profile: docs/LINKING.md, "The rules").
use Rattle.std.specs.Prelude.{◌≡◌, ℕ, ◌<◌, ◌^◌, Some, None, length}
use Rattle.std.specs.declared.option.Option.{Option}
use Rattle.abc_file_types.specs.declared.tables.Abc.{Abc}
use Rattle.abc_link_names.specs.declared.error.LinkError.{LinkError}
use Rattle.abc_link_names.specs.declared.error.LinkError.TheVariants as errors
use Rattle.abc_link_names.specs.declared.items.LinkRule.{LinkRule}
use Rattle.abc_link_names.specs.declared.items.ItemKind.{ItemKind}
use Rattle.abc_link_names.specs.declared.items.Item.{Item}
use Rattle.abc_link_names.specs.Items.{IsItem, StandsBefore, count_of, kind_number}
use Rattle.abc_link_names.specs.Rules.{Breaks, IsFirstBroken}

abbrev pub item : ItemKind → ℕ → Item
item kind i = record { kind = kind; index = i }

-- the first item of a kind that breaks a rule, or none where none does
abbrev pub IsFirstOfKind : Abc → LinkRule → ItemKind → Option Item → Type 0
IsFirstOfKind v rule kind None = (i : ℕ) → i < count_of v kind → Breaks v rule (item kind i) → ⊥
IsFirstOfKind v rule kind (Some x) =
    (x.kind ≡ kind) × IsItem v x × Breaks v rule x × ((i : ℕ) → i < x.index → Breaks v rule (item kind i) → ⊥)

-- the same, over all kinds
abbrev pub IsFirstItem : Abc → LinkRule → Option Item → Type 0
IsFirstItem v rule None = (j : Item) → IsItem v j → Breaks v rule j → ⊥
IsFirstItem v rule (Some x) = IsItem v x × Breaks v rule x × ((j : Item) → IsItem v j → StandsBefore j x → Breaks v rule j → ⊥)

-- a refusal names the first broken rule and its first item; want of memory is free
abbrev pub IsLinkRefusal : Abc → LinkError → Type 0
IsLinkRefusal v errors.NoMemory = Unit {0}
IsLinkRefusal v (errors.Refused rule i) = IsFirstBroken v rule i

-- the tables are few enough to be counted by 32 bits
pub record IsFew (v : Abc) : Type 0 where
  pub methods : length v.methods < 2 ^ 32
  pub classes : length v.instances < 2 ^ 32
  pub scripts : length v.scripts < 2 ^ 32
  pub bodies : length v.bodies < 2 ^ 32

-- the first item that breaks a rule, among the first so many kinds
abbrev pub IsFirstBelow : Abc → LinkRule → ℕ → Option Item → Type 0
IsFirstBelow v rule n None = (j : Item) → IsItem v j → kind_number j.kind < n → Breaks v rule j → ⊥
IsFirstBelow v rule n (Some x) = IsFirstItem v rule (Some x)

-- The items of a file, and their order (profile: docs/LINKING.md, "The rules").
use Rattle.std.specs.Prelude.{◌≡◌, ℕ, ◌<◌, ◌⊎◌, List, codes, length}
use Rattle.abc_file_types.specs.declared.tables.Abc.{Abc}
use Rattle.abc_link_names.specs.declared.items.LinkRule.{LinkRule}
use Rattle.abc_link_names.specs.declared.items.LinkRule.TheVariants as rules
use Rattle.abc_link_names.specs.declared.items.ItemKind.{ItemKind}
use Rattle.abc_link_names.specs.declared.items.ItemKind.TheVariants as kinds
use Rattle.abc_link_names.specs.declared.items.Item.{Item}

-- the place of a rule in the order in which they are tried
abbrev pub rule_number : LinkRule → ℕ
rule_number rules.NoScript = 1
rule_number rules.NameKind = 2
rule_number rules.UnknownBase = 3
rule_number rules.BaseCycle = 4
rule_number rules.FinalBase = 5
rule_number rules.BaseIsInterface = 6
rule_number rules.UnknownInterface = 7
rule_number rules.UnknownType = 8
rule_number rules.OwnedTwice = 9
rule_number rules.NoBody = 10
rule_number rules.SameName = 11
rule_number rules.SameSlot = 12
rule_number rules.TraitNotRun = 13
rule_number rules.TooLarge = 14

-- the place of a kind of item in file order
abbrev pub kind_number : ItemKind → ℕ
kind_number kinds.File = 0
kind_number kinds.Method = 1
kind_number kinds.Class = 2
kind_number kinds.Script = 3
kind_number kinds.Body = 4

-- the names of rules and of kinds, as error lines show them
abbrev pub link_rule_name : LinkRule → List ℕ
link_rule_name rules.NoScript = codes "NoScript"
link_rule_name rules.NameKind = codes "NameKind"
link_rule_name rules.UnknownBase = codes "UnknownBase"
link_rule_name rules.BaseCycle = codes "BaseCycle"
link_rule_name rules.FinalBase = codes "FinalBase"
link_rule_name rules.BaseIsInterface = codes "BaseIsInterface"
link_rule_name rules.UnknownInterface = codes "UnknownInterface"
link_rule_name rules.UnknownType = codes "UnknownType"
link_rule_name rules.OwnedTwice = codes "OwnedTwice"
link_rule_name rules.NoBody = codes "NoBody"
link_rule_name rules.SameName = codes "SameName"
link_rule_name rules.SameSlot = codes "SameSlot"
link_rule_name rules.TraitNotRun = codes "TraitNotRun"
link_rule_name rules.TooLarge = codes "TooLarge"

-- the name of a kind of item, as error lines show it
abbrev pub kind_name : ItemKind → List ℕ
kind_name kinds.File = codes "file"
kind_name kinds.Method = codes "method"
kind_name kinds.Class = codes "class"
kind_name kinds.Script = codes "script"
kind_name kinds.Body = codes "body"

-- how many items of a kind a file has
abbrev pub count_of : Abc → ItemKind → ℕ
count_of v kinds.File = 1
count_of v kinds.Method = length v.methods
count_of v kinds.Class = length v.instances
count_of v kinds.Script = length v.scripts
count_of v kinds.Body = length v.bodies

pub record IsItem (v : Abc) (i : Item) : Type 0 where
  pub within : i.index < count_of v i.kind

-- The first item stands before the second in file order.
abbrev pub StandsBefore : Item → Item → Type 0
StandsBefore i j = (kind_number i.kind < kind_number j.kind) ⊎ ((kind_number i.kind ≡ kind_number j.kind) × (i.index < j.index))

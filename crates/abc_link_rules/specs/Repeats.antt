-- Where keys of one table of traits stand first, and whether one stands twice.
use Rattle.std.specs.Prelude.{ℕ, List, Bool, false, nat_eq, not, ◌||◌, ◌&&◌, Some, None, get_or}
use Rattle.std.specs.declared.option.Option.{Option}
use Rattle.abc_link_names.specs.Keys.{keys_eq, name_key}
use Rattle.abc_link_names.specs.Pool.{name, qname}
use Rattle.abc_link_names.specs.declared.keys.NameKey.{NameKey}
use Rattle.abc_file_types.specs.declared.tables.Abc.{Abc}
use Rattle.abc_file_types.specs.declared.traits.TraitBody.{TraitBody}
use Rattle.abc_file_types.specs.declared.traits.TraitBody.TheVariants as traits
use Rattle.abc_file_types.specs.declared.traits.TraitInfo.{TraitInfo}
use Rattle.abc_link_rules.specs.declared.same_name.SidedKey.{SidedKey}

-- a number above 0 that stands first elsewhere
abbrev pub is_repeat : Option ℕ → ℕ → ℕ → Bool
is_repeat None id i = false
is_repeat (Some j) id i = not (nat_eq id 0) && not (nat_eq j i)

-- ---- names with what they are of: 1 of a Getter, 2 of a Setter, 0 of all others

abbrev pub side_of : TraitBody → ℕ
side_of (traits.Slot id ty value constant) = 0
side_of (traits.Method disp m) = 0
side_of (traits.Getter disp m) = 1
side_of (traits.Setter disp m) = 2
side_of (traits.Class id k) = 0
side_of (traits.Function id m) = 0

abbrev pub opposite : ℕ → ℕ → Bool
opposite x y = (nat_eq x 1 && nat_eq y 2) || (nat_eq x 2 && nat_eq y 1)

abbrev pub sided_key : Abc → List ℕ → TraitInfo → SidedKey
sided_key v numbers t = record { name = name_key v numbers (qname (name v t.name)); side = side_of t.body }

abbrev pub sided_eq : SidedKey → SidedKey → Bool
sided_eq a b = keys_eq a.name b.name && nat_eq a.side b.side

abbrev pub keys_clash : SidedKey → SidedKey → Bool
keys_clash a b = keys_eq a.name b.name && not (opposite a.side b.side)

abbrev pub no_repeat_key : NameKey
no_repeat_key = record { text = 0; code = 0; name = 0; place = 0 }

abbrev pub no_sided : SidedKey
no_sided = record { name = no_repeat_key; side = 0 }

-- the first key of the same name stands elsewhere, and is not of the other side
abbrev pub clashes_with : List SidedKey → Option ℕ → ℕ → Bool
clashes_with keys None i = false
clashes_with keys (Some j) i = not (nat_eq j i) && not (opposite (get_or keys j no_sided).side (get_or keys i no_sided).side)

abbrev pub is_elsewhere : Option ℕ → ℕ → Bool
is_elsewhere None i = false
is_elsewhere (Some j) i = not (nat_eq j i)

-- the same, or the first of the same name and side stands elsewhere
abbrev pub clashes_at : List SidedKey → Option ℕ → Option ℕ → ℕ → Bool
clashes_at keys first same i = clashes_with keys first i || is_elsewhere same i

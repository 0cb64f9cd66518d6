-- Keys by which namespaces, and names of a namespace and a text, are found: equal keys are those of equal ones
-- (a tool of other definitions; profile: docs/LINKING.md, "Texts, namespaces and names", for equality).
use Rattle.std.specs.Prelude.{ℕ, List, Bool, nat_eq, ◌&&◌, if◌then◌else◌}
use Rattle.std.specs.Str.{bytes_eq}
use Rattle.abc_file_types.specs.declared.names.Namespace.{Namespace}
use Rattle.abc_file_types.specs.declared.tables.Abc.{Abc}
use Rattle.abc_link_names.specs.declared.keys.NameKey.{NameKey}
use Rattle.abc_link_names.specs.declared.named.DefiniteName.{DefiniteName}
use Rattle.abc_link_names.specs.Pool.{space, text, same_space, is_private, shared_code}
use Rattle.abc_link_names.specs.Numbers.{number_of_text}

-- the key of a text by its number, in a namespace
abbrev pub key_in : List ℕ → ℕ → ℕ → Namespace → NameKey
key_in numbers t a n =
    if is_private n.kind then record { text = t; code = 0x05; name = 0; place = a }
    else record { text = t; code = shared_code n.kind; name = number_of_text numbers n.name; place = 0 }

-- the key of a name of a namespace and a text, by the numbers of the file's texts
abbrev pub name_key : Abc → List ℕ → DefiniteName → NameKey
name_key v numbers d = key_in numbers (number_of_text numbers d.string) d.ns (space v d.ns)

-- equal texts, and equal namespaces
abbrev pub same_name : Abc → DefiniteName → DefiniteName → Bool
same_name v a b = bytes_eq (text v a.string) (text v b.string) && same_space v a.ns b.ns

-- two keys are equal
abbrev pub keys_eq : NameKey → NameKey → Bool
keys_eq a b = nat_eq a.text b.text && (nat_eq a.code b.code && (nat_eq a.name b.name && nat_eq a.place b.place))

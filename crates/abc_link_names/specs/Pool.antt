-- Texts, namespaces, sets and names of a file by their indices. Index 0 is the empty text, and no namespace, set or name; no index past the end is
-- asked for (Overview, chapters 2 and 4; profile: docs/LINKING.md, "Texts, namespaces and names").
use Rattle.std.specs.Prelude.{ℕ, ◌-◌, List, [], Bool, false, nat_eq, not, ◌||◌, ◌&&◌, Some, None, if◌then◌else◌, get_or}
use Rattle.std.specs.declared.option.Option.{Option}
use Rattle.std.specs.Str.{bytes_eq}
use Rattle.abc_file_types.specs.declared.names.NsKind.{NsKind}
use Rattle.abc_file_types.specs.declared.names.NsKind.TheVariants as spaces
use Rattle.abc_file_types.specs.declared.names.Namespace.{Namespace}
use Rattle.abc_file_types.specs.declared.names.Multiname.{Multiname}
use Rattle.abc_file_types.specs.declared.names.Multiname.TheVariants as names
use Rattle.abc_file_types.specs.declared.tables.Abc.{Abc}
use Rattle.abc_file_types.specs.Pools.{namespace_code}
use Rattle.abc_link_names.specs.declared.named.Spaces.{Spaces}
use Rattle.abc_link_names.specs.declared.named.Spaces.TheVariants as forms
use Rattle.abc_link_names.specs.declared.named.PlainName.{PlainName}
use Rattle.abc_link_names.specs.declared.named.DefiniteName.{DefiniteName}

-- the text of an index into the pool of strings; of index 0 it is empty
abbrev pub text : Abc → ℕ → List ℕ
text v i = if nat_eq i 0 then [] else get_or v.strings (i - 1) []

abbrev pub no_space : Namespace
no_space = record { kind = spaces.Private; name = 0 }

-- the namespace of an index into the pool of namespaces
abbrev pub space : Abc → ℕ → Namespace
space v i = if nat_eq i 0 then no_space else get_or v.namespaces (i - 1) no_space

-- the namespaces of a set, by its index; of index 0 there are none
abbrev pub set : Abc → ℕ → List ℕ
set v i = if nat_eq i 0 then [] else get_or v.sets (i - 1) []

abbrev pub no_name : Multiname
no_name = names.RtL false

-- the multiname of an index into the pool of multinames
abbrev pub name : Abc → ℕ → Multiname
name v i = if nat_eq i 0 then no_name else get_or v.names (i - 1) no_name

-- ---- namespaces

-- the code of a kind of namespace, where 16 counts as 08
abbrev pub shared_code : NsKind → ℕ
shared_code spaces.Package = namespace_code spaces.Namespace
shared_code kind = namespace_code kind

abbrev pub is_private : NsKind → Bool
is_private kind = nat_eq (shared_code kind) 0x05

-- equal kinds and equal names; a Private one is equal to itself alone
abbrev pub same_space : Abc → ℕ → ℕ → Bool
same_space v a b =
    if is_private (space v a).kind then nat_eq a b
    else nat_eq (shared_code (space v a).kind) (shared_code (space v b).kind) && bytes_eq (text v (space v a).name) (text v (space v b).name)

-- the public namespace: kind 08 or 16, and an empty name
abbrev pub is_public : Abc → ℕ → Bool
is_public v a = nat_eq (shared_code (space v a).kind) 0x08 && bytes_eq (text v (space v a).name) []

-- ---- forms of names

-- a QName or a Multiname, kinds 07 and 09
abbrev pub is_qname_or_multiname : Multiname → Bool
is_qname_or_multiname (names.QName attr ns string) = not attr
is_qname_or_multiname (names.Multi attr string set) = not attr
is_qname_or_multiname other = false

-- the namespaces of a QName: those of the one that it names, or any
abbrev pub spaces_of : ℕ → Spaces
spaces_of ns = if nat_eq ns 0 then forms.Every else forms.One ns

-- the text and the namespaces of a QName or a Multiname that has a name
abbrev pub plain_name : Multiname → Option PlainName
plain_name (names.QName false ns string) = if nat_eq string 0 then None else Some (record { string = string; spaces = spaces_of ns })
plain_name (names.Multi false string k) = if nat_eq string 0 then None else Some (record { string = string; spaces = forms.Set k })
plain_name other = None

-- the namespace and the text of a QName that has both
abbrev pub definite_name : Multiname → Option DefiniteName
definite_name (names.QName false ns string) = if nat_eq ns 0 || nat_eq string 0 then None else Some (record { ns = ns; string = string })
definite_name other = None

-- the namespace and the text of a QName, as those of a trait; of another name, none
abbrev pub qname : Multiname → DefiniteName
qname (names.QName attr ns string) = record { ns = ns; string = string }
qname other = record { ns = 0; string = 0 }

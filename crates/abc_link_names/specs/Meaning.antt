-- What a name of a type, a base or an interface stands for (Overview, chapter 2; profile: docs/LINKING.md, "Texts, namespaces and names").
use Rattle.std.specs.Prelude.{ℕ, List, [], ◌∷◌, Bool, true, false, nat_eq, ◌&&◌, Some, None, if◌then◌else◌, codes}
use Rattle.std.specs.declared.option.Option.{Option}
use Rattle.std.specs.List.{list_any}
use Rattle.std.specs.Str.{bytes_eq}
use Rattle.abc_base.specs.Names.{class_name, host_classes}
use Rattle.abc_base.specs.declared.names.HostClass.{HostClass}
use Rattle.abc_base_graphs.specs.Index.{first}
use Rattle.abc_file_types.specs.declared.classes.Instance.{Instance}
use Rattle.abc_file_types.specs.declared.tables.Abc.{Abc}
use Rattle.abc_link_names.specs.declared.named.Spaces.{Spaces}
use Rattle.abc_link_names.specs.declared.named.Spaces.TheVariants as forms
use Rattle.abc_link_names.specs.declared.named.PlainName.{PlainName}
use Rattle.abc_link_names.specs.declared.named.DefiniteName.{DefiniteName}
use Rattle.abc_link_names.specs.declared.named.Named.{Named}
use Rattle.abc_link_names.specs.declared.named.Named.TheVariants as named
use Rattle.abc_link_names.specs.Pool.{text, set, name, same_space, is_public, plain_name, definite_name}

-- one of the namespaces of a name is equal to a namespace
abbrev pub holds_space : Abc → Spaces → ℕ → Bool
holds_space v forms.Every s = true
holds_space v (forms.One a) s = same_space v s a
holds_space v (forms.Set k) s = list_any (same_space v s) (set v k)

-- the public namespace is one of the namespaces of a name
abbrev pub holds_public : Abc → Spaces → Bool
holds_public v forms.Every = true
holds_public v (forms.One a) = is_public v a
holds_public v (forms.Set k) = list_any (is_public v) (set v k)

-- ---- classes of the file

-- a definite name has this text, and one of these namespaces
abbrev pub is_definite_name : Abc → PlainName → Option DefiniteName → Bool
is_definite_name v n None = false
is_definite_name v n (Some d) = bytes_eq (text v n.string) (text v d.string) && holds_space v n.spaces d.ns

abbrev pub class_name_of : Abc → Instance → Option DefiniteName
class_name_of v i = definite_name (name v i.name)

abbrev pub is_class_named : Abc → PlainName → Instance → Bool
is_class_named v n i = is_definite_name v n (class_name_of v i)

-- ---- classes of the host

-- what there is under a text, where the host has these classes
abbrev pub host_among : List HostClass → List ℕ → Option Named
host_among [] t = if bytes_eq t (codes "void") then Some named.Void else None
host_among (h ∷ hs) t = if bytes_eq t (class_name h) then Some (named.Host h) else host_among hs t

abbrev pub host_named : List ℕ → Option Named
host_named t = host_among host_classes t

-- ---- what a name stands for

-- the class that was found for a name; or else what the host has under its text, if one of the name's namespaces is public
abbrev pub class_or_host : Abc → PlainName → Option ℕ → Option Named
class_or_host v n (Some k) = Some (named.Class k)
class_or_host v n None = if holds_public v n.spaces then host_named (text v n.string) else None

abbrev pub meaning_of_name : Abc → Option PlainName → Option Named
meaning_of_name v None = None
meaning_of_name v (Some n) = class_or_host v n (first (is_class_named v n) v.instances)

-- the first class of the file that has the name, else what the host has under its text
abbrev pub resolve : Abc → ℕ → Option Named
resolve v n = meaning_of_name v (plain_name (name v n))

-- the same for a type, where index 0 is the type any
abbrev pub type_named : Abc → ℕ → Option Named
type_named v n = if nat_eq n 0 then Some named.Any else resolve v n

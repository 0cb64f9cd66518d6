-- The words that an assembly text has for kinds (profile: docs/ASSEMBLY.md, "Lines").
use Rattle.std.specs.Prelude.{ℕ, true, false, List, [], ◌∷◌, codes}
use Rattle.abc_file_types.specs.declared.names.NsKind.{NsKind}
use Rattle.abc_file_types.specs.declared.names.NsKind.TheVariants as spaces
use Rattle.abc_file_types.specs.declared.names.MultinameKind.{MultinameKind}
use Rattle.abc_file_types.specs.declared.names.MultinameKind.TheVariants as names
use Rattle.abc_file_types.specs.declared.methods.ValueKind.{ValueKind}
use Rattle.abc_file_types.specs.declared.methods.ValueKind.TheVariants as values
use Rattle.abc_file_types.specs.declared.traits.TraitKind.{TraitKind}
use Rattle.abc_file_types.specs.declared.traits.TraitKind.TheVariants as traits
use Rattle.abc_text_lines.specs.Operands.{Operand, kind}
use Rattle.abc_text_lines.specs.Wordlines.{lookup}

-- ---- namespaces

abbrev pub space_word : NsKind → List ℕ
space_word spaces.Private = codes "Private"
space_word spaces.Namespace = codes "Namespace"
space_word spaces.Package = codes "Package"
space_word spaces.PackageInternal = codes "PackageInternal"
space_word spaces.Protected = codes "Protected"
space_word spaces.Explicit = codes "Explicit"
space_word spaces.StaticProtected = codes "StaticProtected"

abbrev pub space_words : List (List ℕ × NsKind)
space_words =
    (codes "Private", spaces.Private) ∷ (codes "Namespace", spaces.Namespace) ∷ (codes "Package", spaces.Package) ∷ (codes "PackageInternal", spaces.PackageInternal) ∷
    (codes "Protected", spaces.Protected) ∷ (codes "Explicit", spaces.Explicit) ∷ (codes "StaticProtected", spaces.StaticProtected) ∷ []

-- the word of a kind of namespace
unfoldable pub space_kind : Operand NsKind
space_kind = kind space_word (lookup space_words) spaces.Private

-- ---- multinames

abbrev pub multiname_word : MultinameKind → List ℕ
multiname_word (names.QName false) = codes "QName"
multiname_word (names.QName true) = codes "QNameA"
multiname_word (names.Rt false) = codes "RTQName"
multiname_word (names.Rt true) = codes "RTQNameA"
multiname_word (names.RtL false) = codes "RTQNameL"
multiname_word (names.RtL true) = codes "RTQNameLA"
multiname_word (names.Multi false) = codes "Multiname"
multiname_word (names.Multi true) = codes "MultinameA"
multiname_word (names.MultiL false) = codes "MultinameL"
multiname_word (names.MultiL true) = codes "MultinameLA"
multiname_word names.TypeName = codes "TypeName"

abbrev pub multiname_words : List (List ℕ × MultinameKind)
multiname_words =
    (codes "QName", names.QName false) ∷ (codes "QNameA", names.QName true) ∷ (codes "RTQName", names.Rt false) ∷ (codes "RTQNameA", names.Rt true) ∷
    (codes "RTQNameL", names.RtL false) ∷ (codes "RTQNameLA", names.RtL true) ∷ (codes "Multiname", names.Multi false) ∷ (codes "MultinameA", names.Multi true) ∷
    (codes "MultinameL", names.MultiL false) ∷ (codes "MultinameLA", names.MultiL true) ∷ (codes "TypeName", names.TypeName) ∷ []

-- the word of a kind of multiname; the kind says too whether it names an attribute
unfoldable pub multiname_kind_operand : Operand MultinameKind
multiname_kind_operand = kind multiname_word (lookup multiname_words) names.TypeName

-- ---- optional values

-- the word of a kind of optional value
abbrev pub value_word : ValueKind → List ℕ
value_word values.Undefined = codes "Undefined"
value_word values.Utf8 = codes "Utf8"
value_word values.Int = codes "Int"
value_word values.UInt = codes "UInt"
value_word values.Double = codes "Double"
value_word values.False = codes "False"
value_word values.True = codes "True"
value_word values.Null = codes "Null"
value_word values.Private = codes "Private"
value_word values.Namespace = codes "Namespace"
value_word values.Package = codes "Package"
value_word values.PackageInternal = codes "PackageInternal"
value_word values.Protected = codes "Protected"
value_word values.Explicit = codes "Explicit"
value_word values.StaticProtected = codes "StaticProtected"

abbrev pub value_words : List (List ℕ × ValueKind)
value_words =
    (codes "Undefined", values.Undefined) ∷ (codes "Utf8", values.Utf8) ∷ (codes "Int", values.Int) ∷ (codes "UInt", values.UInt) ∷ (codes "Double", values.Double) ∷
    (codes "False", values.False) ∷ (codes "True", values.True) ∷ (codes "Null", values.Null) ∷ (codes "Private", values.Private) ∷ (codes "Namespace", values.Namespace) ∷
    (codes "Package", values.Package) ∷ (codes "PackageInternal", values.PackageInternal) ∷ (codes "Protected", values.Protected) ∷ (codes "Explicit", values.Explicit) ∷
    (codes "StaticProtected", values.StaticProtected) ∷ []

-- such a word, as an operand
unfoldable pub value_kind_operand : Operand ValueKind
value_kind_operand = kind value_word (lookup value_words) values.Undefined

-- ---- traits

abbrev pub trait_word : TraitKind → List ℕ
trait_word traits.Slot = codes "slot"
trait_word traits.Const = codes "const"
trait_word traits.Method = codes "method"
trait_word traits.Getter = codes "getter"
trait_word traits.Setter = codes "setter"
trait_word traits.Class = codes "class"
trait_word traits.Function = codes "function"

abbrev pub trait_words : List (List ℕ × TraitKind)
trait_words =
    (codes "slot", traits.Slot) ∷ (codes "const", traits.Const) ∷ (codes "method", traits.Method) ∷ (codes "getter", traits.Getter) ∷ (codes "setter", traits.Setter) ∷
    (codes "class", traits.Class) ∷ (codes "function", traits.Function) ∷ []

-- the word of a kind of trait
unfoldable pub trait_kind_operand : Operand TraitKind
trait_kind_operand = kind trait_word (lookup trait_words) traits.Slot

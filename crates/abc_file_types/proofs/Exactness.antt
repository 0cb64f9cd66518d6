-- Each part of the pools and of the definitions is exact.
use Rattle.std.proofs.Common.{ℕ}
use Rattle.abc_file_types.specs.Law.{Exact}
use Rattle.abc_file_types.proofs.Exact.{image-exact, checked-exact, then-exact, done-exact, times-exact}
use Rattle.abc_file_types.proofs.Numbers.{u8-exact, u30-exact, u32-exact, s32-exact, index_below-exact, pool_index-exact, entry_index-exact, counted-exact, pool-exact, pool_by-exact, when-exact}
use Rattle.abc_file_types.proofs.Fixed.{text-exact}
use Rattle.abc_file_types.specs.declared.names.MultinameKind.{MultinameKind}
use Rattle.abc_file_types.specs.declared.names.MultinameKind.TheVariants as kinds
use Rattle.abc_file_types.specs.declared.traits.TraitKind.{TraitKind}
use Rattle.abc_file_types.specs.declared.traits.TraitKind.TheVariants as traits
use Rattle.abc_file_types.specs.declared.tables.Sizes.{Sizes}
use Rattle.abc_file_types.specs.declared.tables.Abc.{Abc}
use Rattle.abc_file_types.specs.Pools.{double, namespace_kind, namespace, namespace_set, multiname_kind, multiname_fields, multiname, multinames, pools}
use Rattle.abc_file_types.specs.Methods.{value_kind, option_value, options, method, metadata}
use Rattle.abc_file_types.specs.Traits.{trait_kind, slot_value, trait_fields, trait_info}
use Rattle.abc_file_types.specs.Classes.{instance, class_info, script, definitions}

ruleset parts = (image-exact, then-exact, checked-exact, done-exact, times-exact, when-exact, counted-exact, pool-exact, u8-exact, u30-exact, u32-exact, s32-exact, index_below-exact, pool_index-exact, entry_index-exact, text-exact)

-- ---- pools

pub double-exact : Exact double
unfolding double
double-exact = image-exact _ _ (times-exact 8 _ u8-exact)

pub namespace_kind-exact : Exact namespace_kind
unfolding namespace_kind
namespace_kind-exact = search parts

pub namespace-exact : (strings : ℕ) → Exact (namespace strings)
unfolding namespace
namespace-exact strings = search (parts, namespace_kind-exact)

pub namespace_set-exact : (spaces : ℕ) → Exact (namespace_set spaces)
unfolding namespace_set
namespace_set-exact spaces = search parts

pub multiname_kind-exact : Exact multiname_kind
unfolding multiname_kind
multiname_kind-exact = search parts

multiname_fields-exact : (strings spaces sets names : ℕ) (kind : MultinameKind) → Exact (multiname_fields strings spaces sets names kind)
multiname_fields-exact strings spaces sets names (kinds.QName attr) = search parts
multiname_fields-exact strings spaces sets names (kinds.Rt attr) = search parts
multiname_fields-exact strings spaces sets names (kinds.RtL attr) = search parts
multiname_fields-exact strings spaces sets names (kinds.Multi attr) = search parts
multiname_fields-exact strings spaces sets names (kinds.MultiL attr) = search parts
multiname_fields-exact strings spaces sets names kinds.TypeName = search parts

pub multiname-exact : (strings spaces sets names : ℕ) → Exact (multiname strings spaces sets names)
unfolding multiname
multiname-exact strings spaces sets names = search (parts, multiname_kind-exact, multiname_fields-exact)

pub multinames-exact : (strings spaces sets : ℕ) → Exact (multinames strings spaces sets)
unfolding multinames
multinames-exact strings spaces sets = pool_by-exact _ (multiname-exact strings spaces sets)

pub pools-exact : Exact pools
unfolding pools
pools-exact = search (parts, double-exact, namespace-exact, namespace_set-exact, multinames-exact) depth 24

-- ---- methods and metadata

pub value_kind-exact : Exact value_kind
unfolding value_kind
value_kind-exact = search parts

pub option_value-exact : (v : Sizes) → Exact (option_value v)
unfolding option_value
option_value-exact v = search (parts, value_kind-exact)

pub options-exact : (v : Sizes) (params : ℕ) → Exact (options v params)
unfolding options
options-exact v params = search (parts, option_value-exact)

pub method-exact : (v : Sizes) → Exact (method v)
unfolding method
method-exact v = search (parts, options-exact) depth 20

pub metadata-exact : (v : Sizes) → Exact (metadata v)
unfolding metadata
metadata-exact v = search parts

-- ---- traits

pub trait_kind-exact : Exact trait_kind
unfolding trait_kind
trait_kind-exact = search parts

pub slot_value-exact : (v : Sizes) → Exact (slot_value v)
unfolding slot_value
slot_value-exact v = search (parts, value_kind-exact)

trait_fields-exact : (v : Sizes) (kind : TraitKind) → Exact (trait_fields v kind)
trait_fields-exact v traits.Slot = search (parts, slot_value-exact)
trait_fields-exact v traits.Method = search parts
trait_fields-exact v traits.Getter = search parts
trait_fields-exact v traits.Setter = search parts
trait_fields-exact v traits.Class = search parts
trait_fields-exact v traits.Function = search parts
trait_fields-exact v traits.Const = search (parts, slot_value-exact)

pub trait_info-exact : (v : Sizes) → Exact (trait_info v)
unfolding trait_info
trait_info-exact v = search (parts, trait_kind-exact, trait_fields-exact) depth 12

-- ---- classes and scripts

pub instance-exact : (v : Sizes) → Exact (instance v)
unfolding instance
instance-exact v = search (parts, trait_info-exact) depth 20

pub class_info-exact : (v : Sizes) → Exact (class_info v)
unfolding class_info
class_info-exact v = search (parts, trait_info-exact)

pub script-exact : (v : Sizes) → Exact (script v)
unfolding script
script-exact v = search (parts, trait_info-exact)

pub definitions-exact : (abc : Abc) → Exact (definitions abc)
unfolding definitions
definitions-exact abc = search (parts, method-exact, metadata-exact, instance-exact, class_info-exact, script-exact) depth 20

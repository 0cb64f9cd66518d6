-- Which values of each part some bytes spell.
use Rattle.std.specs.Prelude.{◌≡◌, ◌<◌, ◌^◌, ℕ, ℤ, List, [], All, length, None}
use Rattle.std.specs.declared.option.Option.{Option}
use Rattle.abc_file_types.specs.Lists.{count_and_items, pool, bytes_with_count, times}
use Rattle.abc_file_types.specs.Numbers.{entry_index, index_below, pool_index, s32, u30, u32}
use Rattle.abc_file_types.specs.Part.{Part, image, when}
use Rattle.abc_file_types.specs.declared.classes.ClassInfo.{ClassInfo}
use Rattle.abc_file_types.specs.declared.classes.Instance.{Instance}
use Rattle.abc_file_types.specs.declared.classes.Script.{Script}
use Rattle.abc_file_types.specs.declared.code.Body.{Body}
use Rattle.abc_file_types.specs.declared.code.Handler.{Handler}
use Rattle.abc_file_types.specs.declared.methods.Metadata.{Metadata}
use Rattle.abc_file_types.specs.declared.methods.Method.{Method}
use Rattle.abc_file_types.specs.declared.methods.OptionValue.{OptionValue}
use Rattle.abc_file_types.specs.declared.names.Multiname.{Multiname}
use Rattle.abc_file_types.specs.declared.names.Namespace.{Namespace}
use Rattle.abc_file_types.specs.declared.tables.Abc.{Abc}
use Rattle.abc_file_types.specs.declared.tables.Eight.{Eight}
use Rattle.abc_file_types.specs.declared.tables.Sizes.{Sizes}
use Rattle.abc_file_types.specs.declared.traits.TraitBody.{TraitBody}
use Rattle.abc_file_types.specs.declared.traits.TraitInfo.{TraitInfo}
use Rattle.abc_file_types.specs.Bodies.{bodies_alone, body_with}
use Rattle.abc_file_types.specs.Classes.{class_info, definitions, instance, script, some_index}
use Rattle.abc_file_types.specs.CodeBytes.{canonical_starts}
use Rattle.abc_file_types.specs.Files.{file}
use Rattle.abc_file_types.specs.Methods.{has_flag, metadata, method, option_value, options}
use Rattle.abc_file_types.specs.Pools.{double, multiname, multinames, namespace, namespace_set, pools}
use Rattle.abc_file_types.specs.Traits.{slot_value, trait_fields, trait_info, trait_kind_in}

-- Some bytes spell x.
pub record Spelled {A : Type 0} (p : Part A) (x : A) : Type 0 where
  pub bytes : List ℕ
  pub is : p.spells x bytes

-- ---- numbers

-- Some bytes spell the number, and it is below 2^30.
unfoldable pub FitsNumber : ℕ → Type 0
FitsNumber x = Spelled u30 x

-- in a table of n entries
unfoldable pub IsPosition : ℕ → ℕ → Type 0
IsPosition n x = Spelled (index_below n) x

-- in a pool of n entries, or 0
unfoldable pub IsPoolIndex : ℕ → ℕ → Type 0
IsPoolIndex n x = Spelled (pool_index n) x

-- in a pool of n entries
unfoldable pub IsEntryIndex : ℕ → ℕ → Type 0
IsEntryIndex n x = Spelled (entry_index n) x

-- ---- pools

unfoldable pub FitsInt : ℤ → Type 0
FitsInt z = Spelled s32 z

unfoldable pub FitInts : List ℤ → Type 0
FitInts xs = Spelled (pool s32) xs

unfoldable pub FitUints : List ℕ → Type 0
FitUints xs = Spelled (pool u32) xs

unfoldable pub FitsDouble : Eight → Type 0
FitsDouble d = Spelled double d

unfoldable pub FitDoubles : List Eight → Type 0
FitDoubles xs = Spelled (pool double) xs

unfoldable pub FitsText : List ℕ → Type 0
FitsText b = Spelled bytes_with_count b

unfoldable pub FitTexts : List (List ℕ) → Type 0
FitTexts xs = Spelled (pool bytes_with_count) xs

unfoldable pub FitsNamespace : ℕ → Namespace → Type 0
FitsNamespace strings n = Spelled (namespace strings) n

unfoldable pub FitNamespaces : ℕ → List Namespace → Type 0
FitNamespaces strings xs = Spelled (pool (namespace strings)) xs

unfoldable pub FitsNamespaceSet : ℕ → List ℕ → Type 0
FitsNamespaceSet spaces xs = Spelled (namespace_set spaces) xs

unfoldable pub FitNamespaceSets : ℕ → List (List ℕ) → Type 0
FitNamespaceSets spaces xs = Spelled (pool (namespace_set spaces)) xs

unfoldable pub FitsMultiname : Sizes → Multiname → Type 0
FitsMultiname v m = Spelled (multiname v.strings v.namespaces v.sets v.names) m

unfoldable pub FitMultinames : Sizes → List Multiname → Type 0
FitMultinames v xs = Spelled (multinames v.strings v.namespaces v.sets) xs

-- the pools of a value, and no other table
abbrev pub pools_alone : Abc → Abc
pools_alone v = record v { methods = []; metadata = []; instances = []; classes = []; scripts = []; bodies = [] }

-- Some bytes spell the pools of the file.
unfoldable pub FitPools : Abc → Type 0
FitPools v = Spelled pools (pools_alone v)

-- ---- methods and metadata

unfoldable pub FitsOption : Sizes → OptionValue → Type 0
FitsOption v o = Spelled (option_value v) o

-- the optional values of a method, which a flag asks for
unfoldable pub FitOptions : Sizes → Method → Type 0
FitOptions v m = Spelled (when (has_flag m.flags 0x08) [] (options v (length m.params))) m.options

-- the names of its parameters, which a flag asks for
unfoldable pub FitParamNames : Method → Type 0
FitParamNames m = Spelled (when (has_flag m.flags 0x80) [] (times (length m.params) u30)) m.param_names

unfoldable pub FitsMethod : Sizes → Method → Type 0
FitsMethod v m = Spelled (method v) m

unfoldable pub FitsMetadata : Sizes → Metadata → Type 0
FitsMetadata v m = Spelled (metadata v) m

-- ---- traits

unfoldable pub FitsSlotValue : Sizes → Option OptionValue → Type 0
FitsSlotValue v o = Spelled (slot_value v) o

unfoldable pub FitsTraitFields : Sizes → TraitBody → Type 0
FitsTraitFields v t = Spelled (trait_fields v (trait_kind_in t)) t

-- the metadata of a trait, which an attribute asks for
unfoldable pub FitsTraitMetadata : Sizes → TraitInfo → Type 0
FitsTraitMetadata v t = Spelled (when (has_flag t.attrs 4) [] (count_and_items (index_below v.metadata))) t.metadata

unfoldable pub FitsTrait : Sizes → TraitInfo → Type 0
FitsTrait v t = Spelled (trait_info v) t

-- Some bytes spell these traits, with their count before them.
unfoldable pub FitTraits : Sizes → List TraitInfo → Type 0
FitTraits v ts = Spelled (count_and_items (trait_info v)) ts

-- ---- classes and scripts

-- the protected namespace of an instance, which a flag asks for
unfoldable pub FitsProtected : Sizes → Instance → Type 0
FitsProtected v i = Spelled (when (has_flag i.flags 0x08) None (image some_index (pool_index v.namespaces))) i.protected_ns

unfoldable pub FitsInstance : Sizes → Instance → Type 0
FitsInstance v i = Spelled (instance v) i

unfoldable pub FitsClass : Sizes → ClassInfo → Type 0
FitsClass v c = Spelled (class_info v) c

unfoldable pub FitsScript : Sizes → Script → Type 0
FitsScript v s = Spelled (script v) s

-- There are as many instances as classes, and some bytes spell each.
pub record AreClasses (v : Sizes) (a : Abc) : Type 0 where
  pub count : length a.classes < 2 ^ 30
  pub both : length a.instances ≡ length a.classes
  pub instances : All (FitsInstance v) a.instances
  pub classes : All (FitsClass v) a.classes

-- ---- all definitions

-- a value without its bodies
abbrev pub without_bodies : Abc → Abc
without_bodies v = record v { bodies = [] }

-- Some bytes spell the definitions of the file, beside its pools.
unfoldable pub FitDefinitions : Abc → Type 0
FitDefinitions v = Spelled (definitions (pools_alone v)) (without_bodies v)

-- ---- bodies

-- Its numbers are spelled by some bytes.
pub record HasSizes (b : Body) : Type 0 where
  pub max_stack : FitsNumber b.max_stack
  pub local_count : FitsNumber b.local_count
  pub init_scope : FitsNumber b.init_scope
  pub max_scope : FitsNumber b.max_scope

-- Its type and its name are spelled by some bytes.
pub record HasNames (v : Sizes) (h : Handler) : Type 0 where
  pub exc_type : IsPoolIndex v.names h.exc_type
  pub var_name : IsPoolIndex v.names h.var_name

-- Each of its parts beside its code is spelled by some bytes.
pub record HasBodyParts (v : Sizes) (b : Body) : Type 0 where
  pub method : IsPosition v.methods b.method
  pub sizes : HasSizes b
  pub handler_count : length b.handlers < 2 ^ 30
  pub handlers : All (HasNames v) b.handlers
  pub traits : FitTraits v b.traits

-- a body by itself, whatever other bodies there are
unfoldable pub FitsBody : Sizes → Body → Type 0
FitsBody v b = Spelled (body_with v (index_below v.methods)) (b, canonical_starts b.code)

-- Some bytes spell the bodies of the file, beside its pools and definitions.
unfoldable pub FitBodies : Abc → Type 0
FitBodies v = Spelled (bodies_alone (without_bodies v)) v

-- ---- the whole file

-- Each table that indices name has a number of entries that some bytes spell.
pub record AreFew (v : Abc) : Type 0 where
  pub ints : length v.ints < 2 ^ 30
  pub uints : length v.uints < 2 ^ 30
  pub doubles : length v.doubles < 2 ^ 30
  pub strings : length v.strings < 2 ^ 30
  pub namespaces : length v.namespaces < 2 ^ 30
  pub sets : length v.sets < 2 ^ 30
  pub names : length v.names < 2 ^ 30
  pub methods : length v.methods < 2 ^ 30
  pub metadata : length v.metadata < 2 ^ 30
  pub classes : length v.classes < 2 ^ 30

unfoldable pub FitsTables : Abc → Type 0
FitsTables v = Spelled file v

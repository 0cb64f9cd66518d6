-- The value at which a slot starts: that of its trait, coerced to its type
-- (Overview, chapter 4, "Trait"; profile: docs/LINKING.md, "Where a slot starts").
use Rattle.std.specs.Prelude.{ℕ, ℤ, ◌-◌, pos, List, [], ◌∷◌, Bool, true, false, nat_eq, not, Some, None, if◌then◌else◌, get_or}
use Rattle.std.specs.Ordering.{int_eq}
use Rattle.std.specs.Int.{cast_signed, cast_unsigned, w32}
use Rattle.std.specs.declared.option.Option.{Option}
use Rattle.abc_base.specs.declared.names.HostClass.{HostClass}
use Rattle.abc_base.specs.declared.names.HostClass.TheVariants as hosts
use Rattle.abc_link_names.specs.Pool.{text, space}
use Rattle.abc_link_names.specs.declared.named.Named.{Named}
use Rattle.abc_link_names.specs.declared.named.Named.TheVariants as named
use Rattle.abc_file_types.specs.declared.methods.ValueKind.{ValueKind}
use Rattle.abc_file_types.specs.declared.methods.ValueKind.TheVariants as kinds
use Rattle.abc_file_types.specs.declared.methods.OptionValue.{OptionValue}
use Rattle.abc_file_types.specs.declared.tables.Abc.{Abc}
use Rattle.abc_link_names.specs.declared.start.Raw.{Raw}
use Rattle.abc_link_names.specs.declared.start.Raw.TheVariants as raws
use Rattle.abc_link_names.specs.declared.start.Start.{Start}
use Rattle.abc_link_names.specs.declared.start.Start.TheVariants as starts

-- ---- the value of a trait

-- the number of an index into the pool of ints; of index 0 it is 0
abbrev pub int_at : Abc → ℕ → ℤ
int_at v n = if nat_eq n 0 then pos 0 else get_or v.ints (n - 1) (pos 0)

-- the number of an index into the pool of uints; of index 0 it is 0
abbrev pub uint_at : Abc → ℕ → ℕ
uint_at v n = if nat_eq n 0 then 0 else get_or v.uints (n - 1) 0

-- a namespace of index 0 is null
abbrev pub space_value : ℕ → Raw
space_value n = if nat_eq n 0 then raws.Null else raws.Space n

abbrev pub raw_of_option : Abc → ValueKind → ℕ → Raw
raw_of_option v kinds.Undefined n = raws.Undefined
raw_of_option v kinds.Utf8 n = raws.Text n
raw_of_option v kinds.Int n = raws.Int (int_at v n)
raw_of_option v kinds.UInt n = raws.UInt (uint_at v n)
raw_of_option v kinds.Double n = raws.Double
raw_of_option v kinds.False n = raws.Bool false
raw_of_option v kinds.True n = raws.Bool true
raw_of_option v kinds.Null n = raws.Null
raw_of_option v kinds.Private n = space_value n
raw_of_option v kinds.Namespace n = space_value n
raw_of_option v kinds.Package n = space_value n
raw_of_option v kinds.PackageInternal n = space_value n
raw_of_option v kinds.Protected n = space_value n
raw_of_option v kinds.Explicit n = space_value n
raw_of_option v kinds.StaticProtected n = space_value n

-- ---- coercion: nothing where it faults, throws or makes a new text; a double is never read

abbrev pub number_of_truth : Bool → ℤ
number_of_truth true = pos 1
number_of_truth false = pos 0

abbrev pub to_any : Raw → Option Start
to_any raws.Undefined = Some starts.Undefined
to_any raws.Null = Some starts.Null
to_any (raws.Int z) = Some (starts.Num z)
to_any (raws.UInt n) = Some (starts.Num (pos n))
to_any raws.Double = None
to_any (raws.Bool b) = Some (starts.Bool b)
to_any (raws.Text i) = Some (starts.Text i)
to_any (raws.Space i) = Some (starts.Space i)

abbrev pub to_void : Raw → Option Start
to_void raws.Undefined = Some starts.Undefined
to_void raws.Null = Some starts.Undefined
to_void (raws.Int z) = Some starts.Undefined
to_void (raws.UInt n) = Some starts.Undefined
to_void raws.Double = None
to_void (raws.Bool b) = Some starts.Undefined
to_void (raws.Text i) = Some starts.Undefined
to_void (raws.Space i) = Some starts.Undefined

abbrev pub to_object : Raw → Option Start
to_object raws.Undefined = Some starts.Null
to_object raws.Null = Some starts.Null
to_object (raws.Int z) = Some (starts.Num z)
to_object (raws.UInt n) = Some (starts.Num (pos n))
to_object raws.Double = None
to_object (raws.Bool b) = Some (starts.Bool b)
to_object (raws.Text i) = Some (starts.Text i)
to_object (raws.Space i) = Some (starts.Space i)

abbrev pub to_int : Raw → Option Start
to_int raws.Undefined = Some (starts.Num (pos 0))
to_int raws.Null = Some (starts.Num (pos 0))
to_int (raws.Int z) = Some (starts.Num z)
to_int (raws.UInt n) = Some (starts.Num (cast_signed w32 n))
to_int raws.Double = None
to_int (raws.Bool b) = Some (starts.Num (number_of_truth b))
to_int (raws.Text i) = None
to_int (raws.Space i) = None

abbrev pub to_uint : Raw → Option Start
to_uint raws.Undefined = Some (starts.Num (pos 0))
to_uint raws.Null = Some (starts.Num (pos 0))
to_uint (raws.Int z) = Some (starts.Num (pos (cast_unsigned w32 z)))
to_uint (raws.UInt n) = Some (starts.Num (pos n))
to_uint raws.Double = None
to_uint (raws.Bool b) = Some (starts.Num (number_of_truth b))
to_uint (raws.Text i) = None
to_uint (raws.Space i) = None

abbrev pub to_number : Raw → Option Start
to_number raws.Undefined = None
to_number raws.Null = Some (starts.Num (pos 0))
to_number (raws.Int z) = Some (starts.Num z)
to_number (raws.UInt n) = Some (starts.Num (pos n))
to_number raws.Double = None
to_number (raws.Bool b) = Some (starts.Num (number_of_truth b))
to_number (raws.Text i) = None
to_number (raws.Space i) = None

abbrev pub is_empty_text : List ℕ → Bool
is_empty_text [] = true
is_empty_text (b ∷ bs) = false

abbrev pub to_boolean : Abc → Raw → Option Start
to_boolean v raws.Undefined = Some (starts.Bool false)
to_boolean v raws.Null = Some (starts.Bool false)
to_boolean v (raws.Int z) = Some (starts.Bool (not (int_eq z (pos 0))))
to_boolean v (raws.UInt n) = Some (starts.Bool (not (nat_eq n 0)))
to_boolean v raws.Double = None
to_boolean v (raws.Bool b) = Some (starts.Bool b)
to_boolean v (raws.Text i) = Some (starts.Bool (not (is_empty_text (text v i))))
to_boolean v (raws.Space i) = Some (starts.Bool true)

-- a namespace becomes its name; a number would make a new text
abbrev pub to_text : Abc → Raw → Option Start
to_text v raws.Undefined = Some starts.Null
to_text v raws.Null = Some starts.Null
to_text v (raws.Int z) = None
to_text v (raws.UInt n) = None
to_text v raws.Double = None
to_text v (raws.Bool b) = Some (starts.BoolText b)
to_text v (raws.Text i) = Some (starts.Text i)
to_text v (raws.Space i) = Some (starts.Text (space v i).name)

abbrev pub to_namespace : Raw → Option Start
to_namespace raws.Undefined = Some starts.Null
to_namespace raws.Null = Some starts.Null
to_namespace (raws.Int z) = None
to_namespace (raws.UInt n) = None
to_namespace raws.Double = None
to_namespace (raws.Bool b) = None
to_namespace (raws.Text i) = None
to_namespace (raws.Space i) = Some (starts.Space i)

-- no value of a trait is of a class whose instances are objects
abbrev pub to_class : Raw → Option Start
to_class raws.Undefined = Some starts.Null
to_class raws.Null = Some starts.Null
to_class (raws.Int z) = None
to_class (raws.UInt n) = None
to_class raws.Double = None
to_class (raws.Bool b) = None
to_class (raws.Text i) = None
to_class (raws.Space i) = None

abbrev pub to_host : Abc → HostClass → Raw → Option Start
to_host v hosts.Object r = to_object r
to_host v hosts.Namespace r = to_namespace r
to_host v hosts.Str r = to_text v r
to_host v hosts.Int r = to_int r
to_host v hosts.UInt r = to_uint r
to_host v hosts.Number r = to_number r
to_host v hosts.Boolean r = to_boolean v r
to_host v hosts.Class r = to_class r
to_host v hosts.Function r = to_class r
to_host v hosts.Error r = to_class r
to_host v hosts.TypeError r = to_class r
to_host v hosts.ReferenceError r = to_class r
to_host v hosts.ArgumentError r = to_class r
to_host v hosts.Array r = to_class r

abbrev pub start_as : Abc → Named → Raw → Option Start
start_as v named.Any r = to_any r
start_as v named.Void r = to_void r
start_as v (named.Host h) r = to_host v h r
start_as v (named.Class k) r = to_class r

-- ---- without a value

abbrev pub host_default : HostClass → Start
host_default hosts.Int = starts.Num (pos 0)
host_default hosts.UInt = starts.Num (pos 0)
host_default hosts.Number = starts.Num (pos 0)
host_default hosts.Boolean = starts.Bool false
host_default other = starts.Null

abbrev pub default_of : Named → Start
default_of named.Any = starts.Undefined
default_of named.Void = starts.Undefined
default_of (named.Host h) = host_default h
default_of (named.Class k) = starts.Null

-- the value at which a slot of a type starts, if there is one
abbrev pub start_of : Abc → Named → Option OptionValue → Option Start
start_of v t None = Some (default_of t)
start_of v t (Some o) = start_as v t (raw_of_option v o.kind o.value)

-- The values with which slots start exist, since some bytes spell a linked file: its numbers are in their ranges, its strings are
-- short, and its indices are in their pools.
use Rattle.std.proofs.Common.{◌≡◌, ◌≢◌, ℕ, ℤ, zero, suc, ◌+◌, ◌-◌, ◌%◌, ◌^◌, ◌<◌, ◌≤◌, Bool, true, false, List, [], ◌∷◌, ◌++◌, Option, Some, None, length, get_or, refl, sym, subst, arith, inl, inr}
use Rattle.std.specs.Prelude.{All, if◌then◌else◌, nat_eq, nat_le, negsuc, pos, unwrap_or}
use Rattle.std.specs.Int.{cast_signed, cast_unsigned, w32}
use Rattle.std.specs.List.{flat_map}
use Rattle.std.proofs.lemmas.Bool.Decides.{nat_tests}
use Rattle.std.proofs.lemmas.Int.{ints}
use Rattle.std.proofs.lemmas.List.Elements.{All-head, All-tail}
use Rattle.abc_base.specs.Ranges.{IsNumber}
use Rattle.abc_base.specs.declared.names.HostClass.{HostClass}
use Rattle.abc_base.specs.declared.names.HostClass.TheVariants as hosts
use Rattle.abc_tables.specs.Fitting.{FitTraits, FitUints, FitsInt, FitsNamespace, FitsSlotValue, FitsText, FitsTrait, FitsTraitFields, Spelled}
use Rattle.abc_tables.proofs.BodiesFit.{bodies_fit, body_fits}
use Rattle.abc_tables.proofs.ClassesFit.{class_fits, instance_fits, script_fits}
use Rattle.abc_tables.proofs.Combined.{number_fits, pool_index_fits, pool_spelled, text_fits}
use Rattle.abc_tables.proofs.DefinitionsFit.{definitions_fit}
use Rattle.abc_tables.proofs.FileFits.{file_fits, tables_fit}
use Rattle.abc_tables.proofs.MethodsFit.{option_fits, value_fits}
use Rattle.abc_tables.proofs.PoolsFit.{ints_fit, namespace_fits, namespaces_fit, pools_fit, texts_fit}
use Rattle.abc_tables.proofs.TraitsFit.{fields_fit, trait_fits, traits_fit}
use Rattle.abc_file_types.specs.Numbers.{s32, u32}
use Rattle.abc_base_graphs.specs.Heirs.{heritage}
use Rattle.abc_base_graphs.proofs.Laid.{heritage_none, heritage_some}
use Rattle.abc_link_names.specs.Instances.{instance_at, no_instance}
use Rattle.abc_link_names.specs.Meaning.{type_named}
use Rattle.abc_link_names.specs.Pool.{no_space, space}
use Rattle.abc_link_names.specs.declared.named.Named.{Named}
use Rattle.abc_link_names.specs.declared.named.Named.TheVariants as named
use Rattle.abc_link_names.proofs.Finding.{falling}
use Rattle.abc_link_names.specs.Linked.{IsLinkedFile, LinkedFile, base_layout, layout_of}
use Rattle.abc_link_names.specs.Numbering.{part_at}
use Rattle.abc_link_names.specs.Parts.{HasLayout}
use Rattle.abc_link_names.specs.Slots.{HasFewSlots, handler_at, own_slots, slots_in, slots_of}
use Rattle.abc_link_names.specs.Types.{type_in}
use Rattle.abc_link_names.specs.declared.part.Part.{Part}
use Rattle.abc_link_names.specs.declared.part.Part.TheVariants as parts
use Rattle.abc_link_names.specs.declared.types.SlotInfo.{SlotInfo}
use Rattle.abc_link_names.specs.declared.types.Ty.TheVariants as types
use Rattle.abc_link_names.specs.PartsByNumber.{body_at, class_at, no_body, no_class, no_script, script_at}
use Rattle.abc_link_names.specs.Starts.{start_as, default_of, host_default, int_at, number_of_truth, raw_of_option, space_value, start_of, to_any, to_boolean, to_class, to_host, to_int, to_namespace, to_number, to_object, to_text, to_uint, to_void, uint_at}
use Rattle.abc_link_names.specs.ItemTypes.{type_or_any}
use Rattle.abc_link_names.specs.declared.start.Raw.{Raw}
use Rattle.abc_link_names.specs.declared.start.Raw.TheVariants as raws
use Rattle.abc_link_names.specs.declared.start.Start.{Start}
use Rattle.abc_link_names.specs.declared.start.Start.TheVariants as starts
use Rattle.abc_file_types.specs.Classes.{sizes_of}
use Rattle.abc_file_types.specs.Files.{Fits}
use Rattle.abc_file_types.specs.Methods.{has_value}
use Rattle.abc_file_types.specs.declared.methods.OptionValue.{OptionValue}
use Rattle.abc_file_types.specs.declared.methods.ValueKind.{ValueKind}
use Rattle.abc_file_types.specs.declared.methods.ValueKind.TheVariants as kinds
use Rattle.abc_file_types.specs.declared.names.Namespace.{Namespace}
use Rattle.abc_file_types.specs.declared.tables.Abc.{Abc}
use Rattle.abc_file_types.specs.declared.traits.TraitBody.{TraitBody}
use Rattle.abc_file_types.specs.declared.traits.TraitBody.TheVariants as traits
use Rattle.abc_file_types.specs.declared.traits.TraitInfo.{TraitInfo}
use Rattle.abc_objects.specs.Stands.{EachAt}
use Rattle.abc_objects.specs.Starts.{IsShort, StartExists, StartsExist}
use Rattle.abc_objects.specs.Values.{IsSpace}
use Rattle.abc_objects.proofs.Kept.{in_either}

-- ---- lists

each_none : {X : Type 0} (P : X → Type 0) → EachAt P []
each_none P = λ k x q. absurd cc

each_one : {X : Type 0} (P : X → Type 0) (x : X) → P x → EachAt P (x ∷ [])
each_one P x p zero y q = let w : x ≡ y = cc in subst P w p
each_one P x p (suc k) y q = absurd cc

each_both : {X : Type 0} (P : X → Type 0) (xs ys : List X) → EachAt P xs → EachAt P ys → EachAt P (xs ++ ys)
each_both P xs ys a b = λ k x q. elim (in_either xs ys k x q) [ inl r ↦ a k x r.1 | inr r ↦ b r.0 x r.2 ]

each_flat : {X Y : Type 0} (P : Y → Type 0) (Q : X → Type 0) (f : X → List Y) (xs : List X) → ((x : X) → Q x → EachAt P (f x)) → All Q xs → EachAt P (flat_map f xs)
each_flat P Q f [] g a = each_none P
each_flat P Q f (x ∷ xs) g a = each_both P (f x) (flat_map f xs) (g x (All-head Q x xs a)) (each_flat P Q f xs g (All-tail Q x xs a))

-- what holds of each entry and of the default holds of what is read
entry : {X : Type 0} (P : X → Type 0) (xs : List X) (k : ℕ) (d : X) → P d → All P xs → P (get_or xs k d)
entry P [] k d p a = p
entry P (x ∷ xs) zero d p a = All-head P x xs a
entry P (x ∷ xs) (suc k) d p a = entry P xs k d p (All-tail P x xs a)

-- ---- numbers

signed_number : (n : ℕ) → n < 2 ^ 32 → IsNumber (cast_signed w32 n)
signed_number n b = (omega (arith, ints), omega (arith, ints))

int_number : (z : ℤ) → FitsInt z → IsNumber z
unfolding FitsInt s32
int_number z s = subst IsNumber (sym s.is.2) (signed_number (s.is.0 % 2 ^ 32) (omega arith))

uint_low : (n : ℕ) → Spelled u32 n → n < 2 ^ 32
unfolding u32
uint_low n s = let e = s.is.2 in omega (arith, e)

uints_low : (xs : List ℕ) → FitUints xs → All (Spelled u32) xs
unfolding FitUints
uints_low xs s = ((pool_spelled u32 xs).0 s).1

-- ---- the pools

-- what start values ask of the pools
pub record Stored (v : Abc) : Type 0 where
  pub ints : All FitsInt v.ints
  pub uints : All (Spelled u32) v.uints
  pub count : length v.strings < 2 ^ 30
  pub strings : All FitsText v.strings
  pub namespaces : All (FitsNamespace (length v.strings)) v.namespaces

pub stored : (v : Abc) → Fits v → Stored v
stored v f =
    let p = (pools_fit v).0 ((tables_fit v).0 ((file_fits v).0 f).1).0 in
    let strings = (texts_fit v.strings).0 p.strings in
    record {
      ints = ((ints_fit v.ints).0 p.ints).1;
      uints = uints_low v.uints p.uints;
      count = omega (arith, strings.0);
      strings = strings.1;
      namespaces = ((namespaces_fit (length v.strings) v.namespaces).0 p.namespaces).1;
    }

int_there : (v : Abc) (n : ℕ) → Stored v → IsNumber (int_at v n)
int_there v n s = go (nat_eq n 0)
  where
    zero_number : IsNumber (pos 0)
    zero_number = (omega (arith, ints), omega (arith, ints))

    go : (b : Bool) → IsNumber (if b then pos 0 else get_or v.ints (n - 1) (pos 0))
    go true = zero_number
    go false = entry IsNumber v.ints (n - 1) (pos 0) zero_number (λ k d b. int_number (get_or v.ints k d) (s.ints k d b))

uint_there : (v : Abc) (n : ℕ) → Stored v → uint_at v n < 2 ^ 32
uint_there v n s = go (nat_eq n 0)
  where
    go : (b : Bool) → (if b then 0 else get_or v.uints (n - 1) 0) < 2 ^ 32
    go true = omega arith
    go false = entry (λ (m : ℕ). m < 2 ^ 32) v.uints (n - 1) 0 (omega arith) (λ k d b. uint_low (get_or v.uints k d) (s.uints k d b))

-- a string of a low index fits a span
pub string_short : (v : Abc) (i : ℕ) → Stored v → i < 2 ^ 30 → IsShort v.strings i
string_short v zero s b = (omega arith, omega arith)
string_short v (suc i) s b = (omega arith, entry (λ (t : List ℕ). length t < 2 ^ 32) v.strings i [] (omega arith) short)
  where
    short : All (λ (t : List ℕ). length t < 2 ^ 32) v.strings
    short = λ k d low. let e = (text_fits (get_or v.strings k d)).0 (s.strings k d low) in omega (arith, e)

-- the name of a namespace is such an index
name_low : (v : Abc) (n : ℕ) → Stored v → (space v n).name < 2 ^ 30
name_low v n s = go (nat_eq n 0)
  where
    go : (b : Bool) → (if b then no_space else get_or v.namespaces (n - 1) no_space).name < 2 ^ 30
    go true = omega arith
    go false = entry (λ (m : Namespace). m.name < 2 ^ 30) v.namespaces (n - 1) no_space (omega arith) (λ k d b. let m = get_or v.namespaces k d in ((pool_index_fits (length v.strings) m.name).0 ((namespace_fits (length v.strings) m).0 (s.namespaces k d b))).1)

pub name_short : (v : Abc) (n : ℕ) → Stored v → IsShort v.strings (space v n).name
name_short v n s = string_short v (space v n).name s (name_low v n s)

-- ---- a value of a trait, before and after it is coerced

-- it is in its range, or names what is there
abbrev RawExists : LinkedFile → Raw → Type 0
RawExists l (raws.Int z) = IsNumber z
RawExists l (raws.UInt n) = n < 2 ^ 32
RawExists l (raws.Text i) = i < 2 ^ 30
RawExists l (raws.Space n) = IsSpace l n
RawExists l other = Unit {0}

-- there is no start, or it exists
abbrev OrExists : LinkedFile → Option Start → Type 0
OrExists l None = Unit {0}
OrExists l (Some x) = StartExists l x

space_there : (l : LinkedFile) (n : ℕ) → n ≢ 0 → nat_le n (length l.file.namespaces) ≡ true → RawExists l (space_value n)
space_there l n some low = go (nat_eq n 0)
  where
    within : n ≤ length l.file.namespaces
    within = grind (arith, nat_tests)

    go : (b : Bool) → RawExists l (if b then raws.Null else raws.Space n)
    go true = tt
    go false = (omega arith, within)

raw_there : (l : LinkedFile) (kind : ValueKind) (n : ℕ) → Stored l.file → n ≢ 0 → n < 2 ^ 30 → has_value (sizes_of l.file) n kind ≡ true → RawExists l (raw_of_option l.file kind n)
raw_there l kinds.Undefined n s some b e = tt
raw_there l kinds.Utf8 n s some b e = b
raw_there l kinds.Int n s some b e = int_there l.file n s
raw_there l kinds.UInt n s some b e = uint_there l.file n s
raw_there l kinds.Double n s some b e = tt
raw_there l kinds.False n s some b e = tt
raw_there l kinds.True n s some b e = tt
raw_there l kinds.Null n s some b e = tt
raw_there l kinds.Private n s some b e = space_there l n some e
raw_there l kinds.Namespace n s some b e = space_there l n some e
raw_there l kinds.Package n s some b e = space_there l n some e
raw_there l kinds.PackageInternal n s some b e = space_there l n some e
raw_there l kinds.Protected n s some b e = space_there l n some e
raw_there l kinds.Explicit n s some b e = space_there l n some e
raw_there l kinds.StaticProtected n s some b e = space_there l n some e

truth_number : (b : Bool) → IsNumber (number_of_truth b)
truth_number true = (omega (arith, ints), omega (arith, ints))
truth_number false = (omega (arith, ints), omega (arith, ints))

none_number : IsNumber (pos 0)
none_number = (omega (arith, ints), omega (arith, ints))

low_number : (n : ℕ) → n < 2 ^ 32 → IsNumber (pos n)
low_number n b = (omega (arith, ints), omega (arith, ints))

bits_number : (z : ℤ) → IsNumber z → IsNumber (pos (cast_unsigned w32 z))
bits_number (pos n) h = h
bits_number (negsuc n) h = low_number (2 ^ 32 - suc n) (omega arith)

any_there : (l : LinkedFile) (r : Raw) → Stored l.file → RawExists l r → OrExists l (to_any r)
any_there l (raws.Int z) s e = e
any_there l (raws.UInt n) s e = low_number n e
any_there l (raws.Text i) s e = string_short l.file i s e
any_there l (raws.Space n) s e = e
any_there l other s e = tt

void_there : (l : LinkedFile) (r : Raw) → OrExists l (to_void r)
void_there l raws.Undefined = tt
void_there l other = tt

object_there : (l : LinkedFile) (r : Raw) → Stored l.file → RawExists l r → OrExists l (to_object r)
object_there l (raws.Int z) s e = e
object_there l (raws.UInt n) s e = low_number n e
object_there l (raws.Text i) s e = string_short l.file i s e
object_there l (raws.Space n) s e = e
object_there l other s e = tt

to_int_there : (l : LinkedFile) (r : Raw) → RawExists l r → OrExists l (to_int r)
to_int_there l raws.Undefined e = none_number
to_int_there l raws.Null e = none_number
to_int_there l (raws.Int z) e = e
to_int_there l (raws.UInt n) e = signed_number n e
to_int_there l (raws.Bool b) e = truth_number b
to_int_there l other e = tt

to_uint_there : (l : LinkedFile) (r : Raw) → RawExists l r → OrExists l (to_uint r)
to_uint_there l raws.Undefined e = none_number
to_uint_there l raws.Null e = none_number
to_uint_there l (raws.Int z) e = bits_number z e
to_uint_there l (raws.UInt n) e = low_number n e
to_uint_there l (raws.Bool b) e = truth_number b
to_uint_there l other e = tt

to_number_there : (l : LinkedFile) (r : Raw) → RawExists l r → OrExists l (to_number r)
to_number_there l raws.Null e = none_number
to_number_there l (raws.Int z) e = e
to_number_there l (raws.UInt n) e = low_number n e
to_number_there l (raws.Bool b) e = truth_number b
to_number_there l other e = tt

boolean_there : (l : LinkedFile) (r : Raw) → OrExists l (to_boolean l.file r)
boolean_there l raws.Undefined = tt
boolean_there l other = tt

text_there : (l : LinkedFile) (r : Raw) → Stored l.file → RawExists l r → OrExists l (to_text l.file r)
text_there l (raws.Text i) s e = string_short l.file i s e
text_there l (raws.Space n) s e = name_short l.file n s
text_there l other s e = tt

namespace_there : (l : LinkedFile) (r : Raw) → RawExists l r → OrExists l (to_namespace r)
namespace_there l (raws.Space n) e = e
namespace_there l other e = tt

class_there : (l : LinkedFile) (r : Raw) → OrExists l (to_class r)
class_there l raws.Undefined = tt
class_there l other = tt

host_there : (l : LinkedFile) (h : HostClass) (r : Raw) → Stored l.file → RawExists l r → OrExists l (to_host l.file h r)
host_there l hosts.Object r s e = object_there l r s e
host_there l hosts.Namespace r s e = namespace_there l r e
host_there l hosts.Str r s e = text_there l r s e
host_there l hosts.Int r s e = to_int_there l r e
host_there l hosts.UInt r s e = to_uint_there l r e
host_there l hosts.Number r s e = to_number_there l r e
host_there l hosts.Boolean r s e = boolean_there l r
host_there l other r s e = class_there l r

coerced_there : (l : LinkedFile) (t : Named) (r : Raw) → Stored l.file → RawExists l r → OrExists l (start_as l.file t r)
coerced_there l named.Any r s e = any_there l r s e
coerced_there l named.Void r s e = void_there l r
coerced_there l (named.Host h) r s e = host_there l h r s e
coerced_there l (named.Class k) r s e = class_there l r

host_default_there : (l : LinkedFile) (h : HostClass) → StartExists l (host_default h)
host_default_there l hosts.Int = none_number
host_default_there l hosts.UInt = none_number
host_default_there l hosts.Number = none_number
host_default_there l other = tt

default_there : (l : LinkedFile) (t : Named) → StartExists l (default_of t)
default_there l named.Any = tt
default_there l named.Void = tt
default_there l (named.Host h) = host_default_there l h
default_there l (named.Class k) = tt

-- ---- slots

abbrev Starts : LinkedFile → SlotInfo → Type 0
Starts l i = StartExists l i.start

start_there : (l : LinkedFile) (t : Named) (value : Option OptionValue) → Stored l.file → FitsSlotValue (sizes_of l.file) value → OrExists l (start_of l.file t value)
start_there l t None s f = default_there l t
start_there l t (Some o) s f =
    let w = (value_fits (sizes_of l.file) o).0 f in
    let fits = (option_fits (sizes_of l.file) o).0 w.1 in
    coerced_there l t (raw_of_option l.file o.kind o.value) s (raw_there l o.kind o.value s w.0 ((number_fits o.value).0 fits.0) fits.1)

or_undefined : (l : LinkedFile) (o : Option Start) → OrExists l o → StartExists l (unwrap_or o starts.Undefined)
or_undefined l None e = tt
or_undefined l (Some x) e = e

body_there : (l : LinkedFile) (t : TraitBody) → Stored l.file → FitsTraitFields (sizes_of l.file) t → EachAt (Starts l) (slots_in l t)
body_there l (traits.Slot id ty value constant) s f =
    let fields = (fields_fit (sizes_of l.file) (traits.Slot id ty value constant)).0 f in
    let t = type_or_any (type_named l.file ty) in
    let i : SlotInfo = record { ty = type_in l t; constant = constant; start = unwrap_or (start_of l.file t value) starts.Undefined } in
    each_one (Starts l) i (or_undefined l (start_of l.file t value) (start_there l t value s fields.2))
body_there l (traits.Class id k) s f = let i : SlotInfo = record { ty = types.Of (layout_of l (parts.ClassObject k)); constant = true; start = starts.Null } in each_one (Starts l) i tt
body_there l other s f = each_none (Starts l)

traits_there : (l : LinkedFile) (ts : List TraitInfo) → Stored l.file → FitTraits (sizes_of l.file) ts → EachAt (Starts l) (flat_map (λ (t : TraitInfo). slots_in l t.body) ts)
traits_there l ts s f =
    each_flat (Starts l) (FitsTrait (sizes_of l.file)) (λ (t : TraitInfo). slots_in l t.body) ts
    (λ t fits. body_there l t.body s ((trait_fits (sizes_of l.file) t).0 fits).2) ((traits_fit (sizes_of l.file) ts).0 f).1

-- the own slots of a part
own_there : (l : LinkedFile) (p : Part) → Fits l.file → HasLayout l.file p → EachAt (Starts l) (own_slots l p)
own_there l (parts.Host hosts.Class) f has = let i : SlotInfo = record { ty = types.Object; constant = true; start = starts.Null } in each_one (Starts l) i tt
own_there l (parts.Host other) f has = each_none (Starts l)
own_there l (parts.HostClassObject h) f has = each_none (Starts l)
own_there l (parts.Instance k) f has =
    let d = (definitions_fit l.file).0 ((tables_fit l.file).0 ((file_fits l.file).0 f).1).1 in
    let i = instance_at l.file k in
    traits_there l i.traits (stored l.file f) ((instance_fits (sizes_of l.file) i).0 (d.instances k no_instance has)).6
own_there l (parts.ClassObject k) f has =
    let d = (definitions_fit l.file).0 ((tables_fit l.file).0 ((file_fits l.file).0 f).1).1 in
    let c = class_at l.file k in
    traits_there l c.traits (stored l.file f) ((class_fits (sizes_of l.file) c).0 (d.classes k no_class (omega (arith, has, d.instance_count)))).1
own_there l (parts.Global k) f has =
    let d = (definitions_fit l.file).0 ((tables_fit l.file).0 ((file_fits l.file).0 f).1).1 in
    let c = script_at l.file k in
    traits_there l c.traits (stored l.file f) ((script_fits (sizes_of l.file) c).0 (d.scripts k no_script has)).1
own_there l (parts.Activation k) f has =
    let b = (bodies_fit l.file).0 ((tables_fit l.file).0 ((file_fits l.file).0 f).1).2 in
    let c = body_at l.file k in
    traits_there l c.traits (stored l.file f) ((body_fits (sizes_of l.file) c).0 (b.1 k no_body has.0)).5
own_there l (parts.Catch k e) f has =
    let t = type_or_any (type_named l.file (handler_at l.file k e).exc_type) in
    let i : SlotInfo = record { ty = type_in l t; constant = false; start = default_of t } in
    each_one (Starts l) i (default_there l t)

pub part_has : (l : LinkedFile) (x : ℕ) → IsLinkedFile l → HasLayout l.file (part_at l.parts x)
part_has l x t = entry (HasLayout l.file) l.parts x (parts.Host hosts.Object) tt t.numbering.only

-- with what is inherited, which has a lower number
above_there : (l : LinkedFile) (b : Option ℕ) → ((y : ℕ) → b ≡ Some y → EachAt (Starts l) (slots_of l y)) → EachAt (Starts l) (heritage (base_layout l) (λ y. own_slots l (part_at l.parts y)) b)
above_there l None g = subst (EachAt (Starts l)) (sym (heritage_none (base_layout l) (λ y. own_slots l (part_at l.parts y)))) (each_none (Starts l))
above_there l (Some y) g = g y refl

slots_there : (l : LinkedFile) (n x : ℕ) → IsLinkedFile l → x < n → EachAt (Starts l) (slots_of l x)
slots_there l zero x t b = absurd (omega arith)
slots_there l (suc n) x t b =
    let own = λ (y : ℕ). own_slots l (part_at l.parts y) in
    let f = falling l.file l.parts t.numbering in
    subst (EachAt (Starts l)) (sym (heritage_some (base_layout l) own f x))
    (each_both (Starts l) (heritage (base_layout l) own (base_layout l x)) (own x)
    (above_there l (base_layout l x) (λ y e. let low = f.falls x y e in slots_there l n y t (omega (arith, low))))
    (own_there l (part_at l.parts x) t.fits (part_has l x t)))

pub starts_exist : (l : LinkedFile) → IsLinkedFile l → HasFewSlots l → StartsExist l
starts_exist l t few = λ x b. record { each = slots_there l (suc x) x t (omega arith); few = few x b }

pub linked_name : (l : LinkedFile) (n : ℕ) → IsLinkedFile l → IsShort l.file.strings (space l.file n).name
linked_name l n t = name_short l.file n (stored l.file t.fits)

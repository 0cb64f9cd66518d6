-- The values of options exist: their indices are in the pools of the file, and what stands there is in its range.
use Rattle.std.proofs.Common.{◌≡◌, ℕ, zero, suc, ◌≤◌, pos, length, refl, subst, arith}
use Rattle.std.proofs.lemmas.Bool.{leb-true}
use Rattle.std.proofs.lemmas.Option.{get_or_from_slice_get, slice_get_within}
use Rattle.std.specs.Prelude.{Bool, true, false, nat_eq, nat_le, slice_get, Some, if◌then◌else◌}
use Rattle.abc_base.specs.Ranges.{IsNumber}
use Rattle.abc_heap_values.specs.declared.values.Value.{Value}
use Rattle.abc_heap_values.specs.declared.values.Value.TheVariants as values
use Rattle.abc_tables.specs.Fitting.{FitOptions, FitsMethod, FitsOption}
use Rattle.abc_tables.proofs.Combined.{number_fits}
use Rattle.abc_tables.proofs.MethodsFit.{method_fits, option_fits, options_asked, options_unasked}
use Rattle.abc_heap_store.specs.Heap.{Heap}
use Rattle.abc_link_names.specs.PartsByNumber.{no_method}
use Rattle.abc_objects.specs.Values.{Exists, IsSpace}
use Rattle.abc_objects.proofs.Started.{stored}
use Rattle.abc_ops.proofs.Staying.{string_there}
use Rattle.abc_machine.specs.OptionLaws.{OptionsAreThere}
use Rattle.abc_link_names.specs.Linked.{IsLinkedFile, LinkedFile}
use Rattle.abc_link_names.specs.Starts.{raw_of_option, space_value}
use Rattle.abc_link_names.specs.declared.start.Raw.{Raw}
use Rattle.abc_link_names.specs.declared.start.Raw.TheVariants as raws
use Rattle.abc_meaning.specs.Setting.{Setting, value_of_raw, string_of}
use Rattle.abc_file_types.specs.Classes.{sizes_of}
use Rattle.abc_file_types.specs.Methods.{has_flag, has_value}
use Rattle.abc_file_types.specs.declared.methods.Method.{Method}
use Rattle.abc_file_types.specs.declared.methods.OptionValue.{OptionValue}
use Rattle.abc_file_types.specs.declared.methods.ValueKind.{ValueKind}
use Rattle.abc_file_types.specs.declared.methods.ValueKind.TheVariants as kinds
use Rattle.abc_meaning_sound.proofs.Filed.{definitions, int_there, uint_there}
use Rattle.abc_meaning_sound.proofs.Indexed.{all_at}

-- ---- the value of an option, as far as it may not exist

abbrev RawThere : LinkedFile → Raw → Type 0
RawThere l (raws.Int z) = IsNumber z
RawThere l (raws.UInt n) = IsNumber (pos n)
RawThere l (raws.Space n) = IsSpace l n
RawThere l other = Unit {0}

space_there : (l : LinkedFile) (n : ℕ) → nat_le n (length l.file.namespaces) ≡ true → RawThere l (space_value n)
space_there l n e = go (nat_eq n 0) refl
  where
    positive : (m : ℕ) → nat_eq m 0 ≡ false → 1 ≤ m
    positive zero q = absurd cc
    positive (suc m) q = omega arith

    go : (b : Bool) → nat_eq n 0 ≡ b → RawThere l (if b then raws.Null else raws.Space n)
    go true q = tt
    go false q = (positive n q, leb-true n _ e)

raw_there : (l : LinkedFile) → IsLinkedFile l → (kind : ValueKind) (n : ℕ) → has_value (sizes_of l.file) n kind ≡ true → RawThere l (raw_of_option l.file kind n)
raw_there l k kinds.Undefined n e = tt
raw_there l k kinds.Utf8 n e = tt
raw_there l k kinds.Int n e = int_there l.file (stored l.file k.fits) n
raw_there l k kinds.UInt n e = uint_there l.file (stored l.file k.fits) n
raw_there l k kinds.Double n e = tt
raw_there l k kinds.False n e = tt
raw_there l k kinds.True n e = tt
raw_there l k kinds.Null n e = tt
raw_there l k kinds.Private n e = space_there l n e
raw_there l k kinds.Namespace n e = space_there l n e
raw_there l k kinds.Package n e = space_there l n e
raw_there l k kinds.PackageInternal n e = space_there l n e
raw_there l k kinds.Protected n e = space_there l n e
raw_there l k kinds.Explicit n e = space_there l n e
raw_there l k kinds.StaticProtected n e = space_there l n e

value_there : (p : Setting) (h : Heap) (r : Raw) (v : Value) → RawThere p.linked r → value_of_raw p r ≡ Some v → Exists p.linked h v
value_there p h raws.Undefined v t e = let same : values.Undefined ≡ v = cc in subst (Exists p.linked h) same tt
value_there p h raws.Null v t e = let same : values.Null ≡ v = cc in subst (Exists p.linked h) same tt
value_there p h (raws.Int z) v t e = let same : values.Num z ≡ v = cc in subst (Exists p.linked h) same t
value_there p h (raws.UInt n) v t e = let same : values.Num (pos n) ≡ v = cc in subst (Exists p.linked h) same t
value_there p h raws.Double v t e = absurd cc
value_there p h (raws.Bool b) v t e = let same : values.Bool b ≡ v = cc in subst (Exists p.linked h) same tt
value_there p h (raws.Text i) v t e = let same : values.Text (string_of p i) ≡ v = cc in subst (Exists p.linked h) same (string_there p.linked.file.strings h i)
value_there p h (raws.Space n) v t e = let same : values.Space n ≡ v = cc in subst (Exists p.linked h) same t

-- ---- the options of a method

fits_at : (l : LinkedFile) (m : Method) (k : ℕ) (o : OptionValue) → FitOptions (sizes_of l.file) m → slice_get m.options k ≡ Some o → FitsOption (sizes_of l.file) o
fits_at l m k o f e = go (has_flag m.flags 0x08) refl
  where
    go : (b : Bool) → has_flag m.flags 0x08 ≡ b → FitsOption (sizes_of l.file) o
    go true q = all_at (FitsOption (sizes_of l.file)) m.options k o ((options_asked (sizes_of l.file) m q).0 f).2 e
    go false q =
        let none = (options_unasked (sizes_of l.file) m q).0 f in
        let within = slice_get_within m.options k o e in
        absurd (omega (arith, none, within))

pub there : OptionsAreThere
there l linked n m e =
    let low = slice_get_within l.file.methods n m e in
    let same = get_or_from_slice_get l.file.methods n m no_method e in
    let fits = (method_fits (sizes_of l.file) m).0 (subst (FitsMethod (sizes_of l.file)) same ((definitions l linked).methods n no_method low)) in
    record {
      each = λ k o at.
          let fit = (option_fits (sizes_of l.file) o).0 (fits_at l m k o fits.4 at) in
          record {
            low = (number_fits o.value).0 fit.0;
            there = λ formulas h v s is. value_there (record { linked = l; formulas = formulas }) h (raw_of_option l.file o.kind o.value) v (raw_there l linked o.kind o.value fit.1) is;
          };
    }

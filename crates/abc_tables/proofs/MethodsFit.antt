-- Which methods, values and metadata some bytes spell.
use Rattle.std.proofs.Common.{◌≡◌, ◌≢◌, ℕ, ◌*◌, ◌/◌, ◌%◌, ◌^◌, ◌<◌, ◌≤◌, Bool, true, false, cond, List, [], ◌∷◌, ◌++◌, length, Some, None, refl, sym, subst, arith}
use Rattle.std.specs.Prelude.{◌↔◌, All, nat_eq, nat_le, not}
use Rattle.std.proofs.lemmas.Bool.Decides.{nat_tests}
use Rattle.abc_file_types.specs.declared.reason.Reason.TheVariants as reasons
use Rattle.abc_file_types.specs.Lists.{times}
use Rattle.abc_file_types.specs.Numbers.{pool_index, u30, u8}
use Rattle.abc_file_types.specs.Part.{both, with_test, then_by, when}
use Rattle.abc_file_types.specs.declared.methods.Metadata.{Metadata}
use Rattle.abc_file_types.specs.declared.methods.Method.{Method}
use Rattle.abc_file_types.specs.declared.methods.OptionValue.{OptionValue}
use Rattle.abc_file_types.specs.declared.methods.ValueKind.{ValueKind}
use Rattle.abc_file_types.specs.declared.methods.ValueKind.TheVariants as kinds
use Rattle.abc_file_types.specs.declared.tables.Sizes.{Sizes}
use Rattle.abc_file_types.specs.Methods.{has_flag, has_value, is_value_kind, metadata, method, option_value, options, value_code, value_kind, value_kind_of}
use Rattle.abc_file_types.specs.Traits.{slot_value, slot_value_of}
use Rattle.abc_tables.specs.Fitting.{FitOptions, FitParamNames, FitsMetadata, FitsMethod, FitsOption, FitsSlotValue, FitsNumber, IsPoolIndex, Spelled}
use Rattle.abc_tables.proofs.Combined.{asked, byte_spelled, checked_parts, checked_spelled, image_spelled, listed_spelled, number_fits, then_spelled, times_spelled, unasked}

spelled_number : (x : ℕ) → Spelled u30 x → FitsNumber x
unfolding FitsNumber
spelled_number x s = s

number_spelled : (x : ℕ) → FitsNumber x → Spelled u30 x
unfolding FitsNumber
number_spelled x s = s

-- ---- values

-- the byte of each kind is accepted, and means it
record IsKnown (k : ValueKind) : Type 0 where
  again : k ≡ value_kind_of (value_code k)
  accepted : is_value_kind (value_code k) ≡ true

known : (k : ValueKind) → IsKnown k
known kinds.Undefined = record { again = refl; accepted = refl }
known kinds.Utf8 = record { again = refl; accepted = refl }
known kinds.Int = record { again = refl; accepted = refl }
known kinds.UInt = record { again = refl; accepted = refl }
known kinds.Double = record { again = refl; accepted = refl }
known kinds.False = record { again = refl; accepted = refl }
known kinds.True = record { again = refl; accepted = refl }
known kinds.Null = record { again = refl; accepted = refl }
known kinds.Private = record { again = refl; accepted = refl }
known kinds.Namespace = record { again = refl; accepted = refl }
known kinds.Package = record { again = refl; accepted = refl }
known kinds.PackageInternal = record { again = refl; accepted = refl }
known kinds.Protected = record { again = refl; accepted = refl }
known kinds.Explicit = record { again = refl; accepted = refl }
known kinds.StaticProtected = record { again = refl; accepted = refl }

value_kind_spelled : (k : ValueKind) → Spelled value_kind k
unfolding value_kind
value_kind_spelled k =
    let is = known k in
    image_spelled value_kind_of _ (value_code k) k is.again (checked_spelled _ _ u8 (value_code k) (byte_spelled (value_code k)) is.accepted)

pub option_fits : (v : Sizes) (o : OptionValue) → FitsOption v o ↔ (FitsNumber o.value × (has_value v o.value o.kind ≡ true))
unfolding FitsOption FitsNumber option_value
option_fits v o = (
  λ s.
      let x = s.is.0 in
      let t = s.is.1 in
      let parts : Spelled u30 x.0 × (has_value v x.0 x.1 ≡ true) = (record { bytes = t.0.0; is = t.0.3 }, t.1) in
      subst (λ (p : OptionValue). Spelled u30 p.value × (has_value v p.value p.kind ≡ true)) (sym s.is.2) parts,
  λ h.
      image_spelled _ _ (o.value, o.kind) o refl
      (checked_spelled (λ x. has_value v x.0 x.1) _ (both u30 value_kind) (o.value, o.kind) (then_spelled u30 (λ _. value_kind) (o.value, o.kind) h.0 (value_kind_spelled o.kind)) h.1),
)

-- ---- slots

zero_spelled : Spelled u30 0
unfolding FitsNumber
zero_spelled = (number_fits 0).1 (omega arith)

pub no_value_fits : (v : Sizes) → FitsSlotValue v None
unfolding FitsSlotValue slot_value
no_value_fits v =
    let kind : Spelled (when false kinds.Undefined value_kind) kinds.Undefined = (unasked false kinds.Undefined kinds.Undefined value_kind refl).1 refl in
    image_spelled (λ x. slot_value_of x.0 x.1) _ (0, kinds.Undefined) None refl
    (checked_spelled (λ x. has_value v x.0 x.1) _ (then_by u30 (λ n. when (not (nat_eq n 0)) kinds.Undefined value_kind)) (0, kinds.Undefined)
    (then_spelled u30 (λ n. when (not (nat_eq n 0)) kinds.Undefined value_kind) (0, kinds.Undefined) zero_spelled kind) refl)

abbrev made : ℕ → ValueKind → OptionValue
made n kind = record { kind = kind; value = n }

value_is : (zero_test : Bool) (n : ℕ) (kind : ValueKind) (o : OptionValue) → Some o ≡ cond zero_test None (Some (made n kind)) → (zero_test ≡ false) × (o ≡ made n kind)
value_is true n kind o e = absurd cc
value_is false n kind o e = (refl, cc)

not_zero : (n : ℕ) → nat_eq n 0 ≡ false → n ≢ 0
not_zero n h = λ e. grind (arith, nat_tests)

zero_no : (n : ℕ) → n ≢ 0 → nat_eq n 0 ≡ false
zero_no n h = grind (arith, nat_tests)

abbrev with_value : Sizes → OptionValue → Type 0
with_value v o = (o.value ≢ 0) × FitsOption v o

pub value_fits : (v : Sizes) (o : OptionValue) → FitsSlotValue v (Some o) ↔ ((o.value ≢ 0) × FitsOption v o)
unfolding FitsSlotValue slot_value
value_fits v o = (
  λ s.
      let x = s.is.0 in
      let t = s.is.1 in
      let is = value_is (nat_eq x.0 0) x.0 x.1 o s.is.2 in
      let some : x.0 ≢ 0 = not_zero x.0 is.0 in
      let number : Spelled u30 x.0 = record { bytes = t.0.0; is = t.0.3 } in
      subst (with_value v) (sym is.1) (some, (option_fits v (made x.0 x.1)).1 (spelled_number x.0 number, t.1)),
  λ h.
      let fits = (option_fits v o).0 h.1 in
      let no = zero_no o.value h.0 in
      let same : Some o ≡ slot_value_of o.value o.kind = rw no refl in
      let kind : Spelled (when (not (nat_eq o.value 0)) kinds.Undefined value_kind) o.kind = rw no ((asked true kinds.Undefined o.kind value_kind refl).1 (value_kind_spelled o.kind)) in
      image_spelled (λ x. slot_value_of x.0 x.1) _ (o.value, o.kind) (Some o) same
      (checked_spelled (λ x. has_value v x.0 x.1) _ (then_by u30 (λ n. when (not (nat_eq n 0)) kinds.Undefined value_kind)) (o.value, o.kind)
      (then_spelled u30 (λ n. when (not (nat_eq n 0)) kinds.Undefined value_kind) (o.value, o.kind) (number_spelled o.value fits.0) kind) fits.1),
)

-- ---- what the flags of a method ask for

few : (c params : ℕ) → (nat_le c params ≡ true) ↔ (c ≤ params)
few c params = (λ e. grind (arith, nat_tests), λ le. grind (arith, nat_tests))

options_are : (v : Sizes) (params : ℕ) (os : List OptionValue) → Spelled (options v params) os ↔ ((length os ≤ params) × (length os < 2 ^ 30) × All (FitsOption v) os)
unfolding options FitsOption
options_are v params os =
    let listed = listed_spelled (with_test (λ c. nat_le c params) reasons.OptionCount u30) (option_value v) os in (
      λ s.
          let h = listed.0 s in
          let count = checked_parts (λ c. nat_le c params) reasons.OptionCount u30 (length os) h.0 in
          ((few (length os) params).0 count.1, (number_fits (length os)).0 (spelled_number (length os) count.0), h.1),
      λ h.
          let count = number_spelled (length os) ((number_fits (length os)).1 h.1) in
          listed.1 (checked_spelled (λ c. nat_le c params) reasons.OptionCount u30 (length os) count ((few (length os) params).1 h.0), h.2),
    )

pub no_items : {A : Type 0} (xs : List A) → (xs ≡ []) ↔ (length xs ≡ 0)
no_items [] = (λ e. refl, λ e. refl)
no_items (x ∷ xs) = (λ e. absurd cc, λ e. absurd (omega arith))

pub options_asked : (v : Sizes) (m : Method) → has_flag m.flags 0x08 ≡ true → FitOptions v m ↔ ((length m.options ≤ length m.params) × (length m.options < 2 ^ 30) × All (FitsOption v) m.options)
unfolding FitOptions
options_asked v m e =
    let a = asked (has_flag m.flags 0x08) [] m.options (options v (length m.params)) e in
    let o = options_are v (length m.params) m.options in
    (λ s. o.0 (a.0 s), λ h. a.1 (o.1 h))

pub options_unasked : (v : Sizes) (m : Method) → has_flag m.flags 0x08 ≡ false → FitOptions v m ↔ (length m.options ≡ 0)
unfolding FitOptions
options_unasked v m e =
    let a = unasked (has_flag m.flags 0x08) [] m.options (options v (length m.params)) e in
    let o = no_items m.options in
    (λ s. o.0 (a.0 s), λ h. a.1 (o.1 h))

pub names_asked : (m : Method) → has_flag m.flags 0x80 ≡ true → FitParamNames m ↔ ((length m.param_names ≡ length m.params) × All FitsNumber m.param_names)
unfolding FitParamNames FitsNumber
names_asked m e =
    let a = asked (has_flag m.flags 0x80) [] m.param_names (times (length m.params) u30) e in
    let t = times_spelled (length m.params) u30 m.param_names in
    (λ s. t.0 (a.0 s), λ h. a.1 (t.1 h))

pub names_unasked : (m : Method) → has_flag m.flags 0x80 ≡ false → FitParamNames m ↔ (length m.param_names ≡ 0)
unfolding FitParamNames
names_unasked m e =
    let a = unasked (has_flag m.flags 0x80) [] m.param_names (times (length m.params) u30) e in
    let o = no_items m.param_names in
    (λ s. o.0 (a.0 s), λ h. a.1 (o.1 h))

-- ---- methods

abbrev pub MethodFits : Sizes → Method → Type 0
MethodFits v m = (length m.params < 2 ^ 30) × IsPoolIndex v.names m.ret × All (IsPoolIndex v.names) m.params × IsPoolIndex v.strings m.name × FitOptions v m × FitParamNames m

pub method_fits : (v : Sizes) (m : Method) → FitsMethod v m ↔ MethodFits v m
unfolding FitsMethod FitOptions FitParamNames IsPoolIndex FitsNumber method u8
method_fits v m = (
  λ s.
      let x = s.is.0 in
      let count = s.is.1 in
      let ret = count.4 in
      let params = ret.4 in
      let name = params.4 in
      let flags = name.4 in
      let values = flags.4 in
      let listed = (times_spelled x.0 (pool_index v.names) x.1.1.0).0 (record { bytes = params.0; is = params.3 }) in
      let options_in : Spelled (when (has_flag x.1.1.1.1.0 0x08) [] (options v x.0)) x.1.1.1.1.1.0 = record { bytes = values.0; is = values.3 } in
      let names_in : Spelled (when (has_flag x.1.1.1.1.0 0x80) [] (times x.0 u30)) x.1.1.1.1.1.1 = record { bytes = values.1; is = values.4 } in
      let few : x.0 < 2 ^ 30 = (number_fits x.0).0 (record { bytes = count.0; is = count.3 }) in
      subst (MethodFits v) (sym s.is.2) (
        omega (arith, listed.0, few),
        record { bytes = ret.0; is = ret.3 },
        listed.1,
        record { bytes = name.0; is = name.3 },
        subst (λ (n : ℕ). Spelled (when (has_flag x.1.1.1.1.0 0x08) [] (options v n)) x.1.1.1.1.1.0) (sym listed.0) options_in,
        subst (λ (n : ℕ). Spelled (when (has_flag x.1.1.1.1.0 0x80) [] (times n u30)) x.1.1.1.1.1.1) (sym listed.0) names_in,
      ),
  λ h.
      let n = length m.params in
      let count = (number_fits n).1 h.0 in
      let params = (times_spelled n (pool_index v.names) m.params).1 (refl, h.2) in
      record {
        bytes = count.bytes ++ (h.1.bytes ++ (params.bytes ++ (h.3.bytes ++ (m.flags ∷ [] ++ (h.4.bytes ++ h.5.bytes)))));
        is = (
          (n, (m.ret, (m.params, (m.name, (m.flags, (m.options, m.param_names)))))),
          (count.bytes, _, refl, count.is, (h.1.bytes, _, refl, h.1.is, (params.bytes, _, refl, params.is, (h.3.bytes, _, refl, h.3.is, (m.flags ∷ [], _, refl, refl, (h.4.bytes, h.5.bytes, refl, h.4.is, h.5.is)))))),
          refl,
        );
      },
)

-- ---- metadata

abbrev pub MetadataFits : Sizes → Metadata → Type 0
MetadataFits v m = IsPoolIndex v.strings m.name × (length m.items % 2 ≡ 0) × (length m.items / 2 < 2 ^ 30) × All (IsPoolIndex v.strings) m.items

pub metadata_fits : (v : Sizes) (m : Metadata) → FitsMetadata v m ↔ MetadataFits v m
unfolding FitsMetadata IsPoolIndex FitsNumber metadata
metadata_fits v m = (
  λ s.
      let x = s.is.0 in
      let name = s.is.1 in
      let count = name.4 in
      let listed = (times_spelled (2 * x.1.0) (pool_index v.strings) x.1.1).0 (record { bytes = count.1; is = count.4 }) in
      let few : x.1.0 < 2 ^ 30 = (number_fits x.1.0).0 (record { bytes = count.0; is = count.3 }) in
      subst (MetadataFits v) (sym s.is.2) (record { bytes = name.0; is = name.3 }, omega (arith, listed.0), omega (arith, listed.0, few), listed.1),
  λ h.
      let n = length m.items / 2 in
      let count = (number_fits n).1 h.2 in
      let even : length m.items ≡ 2 * n = omega (arith, h.1) in
      let items = (times_spelled (2 * n) (pool_index v.strings) m.items).1 (even, h.3) in
      record { bytes = h.0.bytes ++ (count.bytes ++ items.bytes); is = ((m.name, (n, m.items)), (h.0.bytes, _, refl, h.0.is, (count.bytes, items.bytes, refl, count.is, items.is)), refl) },
)

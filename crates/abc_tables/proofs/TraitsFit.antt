-- Which traits some bytes spell.
use Rattle.std.proofs.Common.{◌≡◌, ℕ, ◌%◌, ◌^◌, ◌<◌, Bool, true, false, List, [], ◌++◌, length, refl, sym, ap, subst, arith}
use Rattle.std.specs.Prelude.{◌↔◌, All, nat_le}
use Rattle.std.specs.declared.option.Option.{Option}
use Rattle.abc_file_types.specs.Lists.{count_and_items}
use Rattle.abc_file_types.specs.Numbers.{index_below, pool_index, u30, u8}
use Rattle.abc_file_types.specs.Part.{both, image}
use Rattle.abc_file_types.specs.declared.methods.OptionValue.{OptionValue}
use Rattle.abc_file_types.specs.declared.tables.Sizes.{Sizes}
use Rattle.abc_file_types.specs.declared.traits.TraitBody.{TraitBody}
use Rattle.abc_file_types.specs.declared.traits.TraitBody.TheVariants as bodies
use Rattle.abc_file_types.specs.declared.traits.TraitInfo.{TraitInfo}
use Rattle.abc_file_types.specs.declared.traits.TraitKind.{TraitKind}
use Rattle.abc_file_types.specs.declared.traits.TraitKind.TheVariants as traits
use Rattle.abc_file_types.specs.Methods.{has_flag}
use Rattle.abc_file_types.specs.Traits.{slot_value, trait_fields, trait_info, trait_kind, trait_kind_in}
use Rattle.abc_file_types.proofs.Shortest.{kind_and_attributes, kind_byte, kind_byte_back, kind_byte_low, trait_code_low}
use Rattle.abc_tables.specs.Fitting.{FitTraits, FitsSlotValue, FitsTrait, FitsTraitFields, FitsTraitMetadata, IsEntryIndex, FitsNumber, IsPoolIndex, IsPosition, Spelled}
use Rattle.abc_tables.proofs.Combined.{asked, byte_spelled, checked_spelled, counted_spelled, image_spelled, then_spelled, unasked}
use Rattle.abc_tables.proofs.MethodsFit.{no_items}

-- ---- the kind byte

trait_kind_spelled : (kind : TraitKind) (a : ℕ) → a < 16 → Spelled trait_kind (kind, a)
unfolding trait_kind
trait_kind_spelled kind a lt =
    let b = kind_byte (kind, a) in
    let low : nat_le (b % 16) 6 ≡ true = rw (kind_byte_low (a % 16) kind) (trait_code_low kind) in
    image_spelled kind_and_attributes _ b (kind, a) (kind_byte_back kind a lt) (checked_spelled (λ b. nat_le (b % 16) 6) _ u8 b (byte_spelled b) low)

few_attributes : (k : TraitKind × ℕ) → Spelled trait_kind k → k.1 < 16
unfolding trait_kind
few_attributes k s = let e = ap (λ (y : TraitKind × ℕ). y.1) s.is.2 in omega (arith, e)

-- ---- the fields of each kind

abbrev pub HasFields : Sizes → TraitBody → Type 0
HasFields v (bodies.Slot id ty value constant) = FitsNumber id × IsPoolIndex v.names ty × FitsSlotValue v value
HasFields v (bodies.Method disp method) = FitsNumber disp × IsPosition v.methods method
HasFields v (bodies.Getter disp method) = FitsNumber disp × IsPosition v.methods method
HasFields v (bodies.Setter disp method) = FitsNumber disp × IsPosition v.methods method
HasFields v (bodies.Class id class) = FitsNumber id × IsPosition v.classes class
HasFields v (bodies.Function id method) = FitsNumber id × IsPosition v.methods method

slot_in : (v : Sizes) (constant : Bool) (t : TraitBody) → Spelled (image (λ x. bodies.Slot x.0 x.1.0 x.1.1 constant) (both u30 (both (pool_index v.names) (slot_value v)))) t → HasFields v t
unfolding FitsSlotValue FitsNumber IsPoolIndex
slot_in v constant t s =
    let p = s.is.1 in
    let q = p.4 in
    subst (HasFields v) (sym s.is.2) (record { bytes = p.0; is = p.3 }, record { bytes = q.0; is = q.3 }, record { bytes = q.1; is = q.4 })

slot_from : (v : Sizes) (id ty : ℕ) (value : Option OptionValue) (constant : Bool) → HasFields v (bodies.Slot id ty value constant)
    → Spelled (image (λ x. bodies.Slot x.0 x.1.0 x.1.1 constant) (both u30 (both (pool_index v.names) (slot_value v)))) (bodies.Slot id ty value constant)
unfolding FitsSlotValue FitsNumber IsPoolIndex
slot_from v id ty value constant h =
    record { bytes = h.0.bytes ++ (h.1.bytes ++ h.2.bytes); is = ((id, (ty, value)), (h.0.bytes, _, refl, h.0.is, (h.1.bytes, h.2.bytes, refl, h.1.is, h.2.is)), refl) }

-- two numbers, the second of which is a position
pair_in : (f : ℕ × ℕ → TraitBody) (n : ℕ) (P : TraitBody → Type 0) (t : TraitBody) → ((x : ℕ × ℕ) → FitsNumber x.0 × IsPosition n x.1 → P (f x)) → Spelled (image f (both u30 (index_below n))) t → P t
unfolding FitsNumber IsPosition
pair_in f n P t each s = let p = s.is.1 in subst P (sym s.is.2) (each s.is.0 (record { bytes = p.0; is = p.3 }, record { bytes = p.1; is = p.4 }))

pair_from : (f : ℕ × ℕ → TraitBody) (n x y : ℕ) → FitsNumber x × IsPosition n y → Spelled (image f (both u30 (index_below n))) (f (x, y))
unfolding FitsNumber IsPosition
pair_from f n x y h = image_spelled f (both u30 (index_below n)) (x, y) (f (x, y)) refl (then_spelled u30 (λ _. index_below n) (x, y) h.0 h.1)

fields_in : (v : Sizes) (kind : TraitKind) (t : TraitBody) → Spelled (trait_fields v kind) t → HasFields v t
fields_in v traits.Slot t s = slot_in v false t s
fields_in v traits.Const t s = slot_in v true t s
fields_in v traits.Method t s = pair_in _ v.methods (HasFields v) t (λ x h. h) s
fields_in v traits.Getter t s = pair_in _ v.methods (HasFields v) t (λ x h. h) s
fields_in v traits.Setter t s = pair_in _ v.methods (HasFields v) t (λ x h. h) s
fields_in v traits.Class t s = pair_in _ v.classes (HasFields v) t (λ x h. h) s
fields_in v traits.Function t s = pair_in _ v.methods (HasFields v) t (λ x h. h) s

with_fields : (v : Sizes) (t : TraitBody) → HasFields v t → Spelled (trait_fields v (trait_kind_in t)) t
with_fields v (bodies.Slot id ty value false) h = slot_from v id ty value false h
with_fields v (bodies.Slot id ty value true) h = slot_from v id ty value true h
with_fields v (bodies.Method disp method) h = pair_from (λ x. bodies.Method x.0 x.1) v.methods disp method h
with_fields v (bodies.Getter disp method) h = pair_from (λ x. bodies.Getter x.0 x.1) v.methods disp method h
with_fields v (bodies.Setter disp method) h = pair_from (λ x. bodies.Setter x.0 x.1) v.methods disp method h
with_fields v (bodies.Class id class) h = pair_from (λ x. bodies.Class x.0 x.1) v.classes id class h
with_fields v (bodies.Function id method) h = pair_from (λ x. bodies.Function x.0 x.1) v.methods id method h

pub fields_fit : (v : Sizes) (t : TraitBody) → FitsTraitFields v t ↔ HasFields v t
unfolding FitsTraitFields
fields_fit v t = (fields_in v (trait_kind_in t) t, with_fields v t)

-- ---- metadata

pub metadata_asked : (v : Sizes) (t : TraitInfo) → has_flag t.attrs 4 ≡ true → FitsTraitMetadata v t ↔ ((length t.metadata < 2 ^ 30) × All (IsPosition v.metadata) t.metadata)
unfolding FitsTraitMetadata IsPosition
metadata_asked v t e =
    let a = asked (has_flag t.attrs 4) [] t.metadata (count_and_items (index_below v.metadata)) e in
    let c = counted_spelled (index_below v.metadata) t.metadata in
    (λ s. c.0 (a.0 s), λ h. a.1 (c.1 h))

pub metadata_unasked : (v : Sizes) (t : TraitInfo) → has_flag t.attrs 4 ≡ false → FitsTraitMetadata v t ↔ (length t.metadata ≡ 0)
unfolding FitsTraitMetadata
metadata_unasked v t e =
    let a = unasked (has_flag t.attrs 4) [] t.metadata (count_and_items (index_below v.metadata)) e in
    let o = no_items t.metadata in
    (λ s. o.0 (a.0 s), λ h. a.1 (o.1 h))

-- ---- a trait

abbrev pub TraitFits : Sizes → TraitInfo → Type 0
TraitFits v t = IsEntryIndex v.names t.name × (t.attrs < 16) × FitsTraitFields v t.body × FitsTraitMetadata v t

pub trait_fits : (v : Sizes) (t : TraitInfo) → FitsTrait v t ↔ TraitFits v t
unfolding FitsTrait FitsTraitMetadata IsEntryIndex FitsTraitFields trait_info
trait_fits v t = (
  λ s.
      let x = s.is.0 in
      let name = s.is.1 in
      let kind = name.4 in
      let fields = kind.4 in
      let few = few_attributes x.1.0 (record { bytes = kind.0; is = kind.3 }) in
      let body = (fields_fit v x.1.1.0).1 (fields_in v x.1.0.0 x.1.1.0 (record { bytes = fields.0; is = fields.3 })) in
      subst (TraitFits v) (sym s.is.2) (record { bytes = name.0; is = name.3 }, few, body, record { bytes = fields.1; is = fields.4 }),
  λ h.
      let kind = trait_kind_spelled (trait_kind_in t.body) t.attrs h.1 in
      record {
        bytes = h.0.bytes ++ (kind.bytes ++ (h.2.bytes ++ h.3.bytes));
        is = (
          (t.name, ((trait_kind_in t.body, t.attrs), (t.body, t.metadata))),
          (h.0.bytes, _, refl, h.0.is, (kind.bytes, _, refl, kind.is, (h.2.bytes, h.3.bytes, refl, h.2.is, h.3.is))),
          refl,
        );
      },
)

pub traits_fit : (v : Sizes) (ts : List TraitInfo) → FitTraits v ts ↔ ((length ts < 2 ^ 30) × All (FitsTrait v) ts)
unfolding FitTraits FitsTrait
traits_fit v ts = counted_spelled (trait_info v) ts

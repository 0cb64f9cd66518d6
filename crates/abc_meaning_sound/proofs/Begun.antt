-- The values with which slots start are of the kinds of their types.
use Rattle.std.proofs.Common.{◌≡◌, ℕ, zero, suc, ◌<◌, List, [], ◌∷◌, length, map, refl, sym, subst, arith}
use Rattle.std.specs.Prelude.{Bool, true, false, not, ◌||◌, ◌&&◌, is_some, slice_get, unwrap_or, Some, None, if◌then◌else◌}
use Rattle.std.specs.List.{flat_map, list_any}
use Rattle.std.specs.declared.option.Option.{Option}
use Rattle.abc_base.specs.declared.names.HostClass.{HostClass}
use Rattle.abc_base.specs.declared.names.HostClass.TheVariants as hosts
use Rattle.abc_heap_store.specs.Heap.{Heap}
use Rattle.abc_base_graphs.specs.Heirs.{heritage}
use Rattle.abc_base_graphs.proofs.Laid.{heritage_none, heritage_some}
use Rattle.abc_link_names.specs.Meaning.{type_named}
use Rattle.abc_link_names.specs.declared.named.Named.{Named}
use Rattle.abc_link_names.specs.declared.named.Named.TheVariants as named
use Rattle.abc_objects.specs.Stands.{StandsOver}
use Rattle.abc_objects.specs.Starts.{StartExists, start_value, start_values}
use Rattle.abc_objects.specs.Values.{Exists, IsValueOf}
use Rattle.abc_objects.specs.declared.fixed.FixedText.TheVariants as fixed
use Rattle.abc_objects.proofs.Started.{part_has}
use Rattle.abc_ops.proofs.Staying.{fixed_there, string_there}
use Rattle.abc_link_names.specs.Linked.{IsLinkedFile, LinkedFile, base_layout, layout_of}
use Rattle.abc_link_names.specs.Numbering.{part_at}
use Rattle.abc_link_names.specs.Parts.{HasLayout}
use Rattle.abc_link_names.specs.Slots.{handler_at, own_slots, slots_in, slots_of}
use Rattle.abc_link_names.specs.Types.{host_type, kind_of_type, type_in}
use Rattle.abc_link_names.specs.declared.part.LayoutId.{LayoutId}
use Rattle.abc_link_names.specs.declared.part.Part.{Part}
use Rattle.abc_link_names.specs.declared.part.Part.TheVariants as parts
use Rattle.abc_link_names.specs.declared.types.Kind.{Kind}
use Rattle.abc_link_names.specs.declared.types.Kind.TheVariants as kinds
use Rattle.abc_link_names.specs.declared.types.SlotInfo.{SlotInfo}
use Rattle.abc_link_names.specs.declared.types.Ty.TheVariants as types
use Rattle.abc_link_names.proofs.Finding.{falling}
use Rattle.abc_link_names.specs.Bases.{is_interface}
use Rattle.abc_link_names.specs.Starts.{start_as, default_of, host_default, raw_of_option, start_of, to_any, to_boolean, to_class, to_host, to_int, to_namespace, to_number, to_object, to_text, to_uint, to_void}
use Rattle.abc_link_names.specs.ItemTypes.{is_body, is_no_slot, is_not_run, type_or_any}
use Rattle.abc_link_names.specs.declared.items.ItemKind.{ItemKind}
use Rattle.abc_link_names.specs.declared.items.ItemKind.TheVariants as items
use Rattle.abc_link_names.specs.declared.start.Raw.{Raw}
use Rattle.abc_link_names.specs.declared.start.Raw.TheVariants as raws
use Rattle.abc_link_names.specs.declared.start.Start.{Start}
use Rattle.abc_link_names.specs.declared.start.Start.TheVariants as starts
use Rattle.abc_link_names.specs.PartsByNumber.{instance_table, own_table}
use Rattle.abc_file_types.specs.declared.methods.OptionValue.{OptionValue}
use Rattle.abc_file_types.specs.declared.traits.TraitBody.{TraitBody}
use Rattle.abc_file_types.specs.declared.traits.TraitBody.TheVariants as traits
use Rattle.abc_file_types.specs.declared.traits.TraitInfo.{TraitInfo}
use Rattle.abc_verify_typing.specs.Lists.{Each, Each2}
use Rattle.abc_verify_typing.proofs.Lists.{Each-append}
use Rattle.abc_meaning.specs.Sound.{SlotHolds}
use Rattle.abc_meaning_sound.proofs.Lists.{each_at}
use Rattle.abc_meaning_sound.proofs.Indexed.{none_passes, or_left, or_right}
use Rattle.abc_meaning_sound.proofs.Filed.{traits_run}

each_from : {X : Type 0} (P : X → Type 0) (xs : List X) → ((k : ℕ) (x : X) → slice_get xs k ≡ Some x → P x) → Each P xs
each_from P [] g = tt
each_from P (x ∷ xs) g = (g 0 x refl, each_from P xs (λ k y e. g (suc k) y e))

each2_map : {X Y : Type 0} (R : X → Y → Type 0) (f : X → Y) (xs : List X) → Each (λ (x : X). R x (f x)) xs → Each2 R xs (map f xs)
each2_map R f [] a = tt
each2_map R f (x ∷ xs) a = (a.0, each2_map R f xs a.1)

module _ (l : LinkedFile) (h : Heap) where
  -- the value at which a slot starts is of a kind
  abbrev StartHolds : Kind → Start → Type 0
  StartHolds k s = IsValueOf l h k (start_value l.file.strings s)

  abbrev OrHolds : Kind → Option Start → Type 0
  OrHolds k None = Unit {0}
  OrHolds k (Some s) = StartHolds k s

  int_holds : (r : Raw) → OrHolds kinds.Num (to_int r)
  int_holds raws.Undefined = tt
  int_holds raws.Null = tt
  int_holds (raws.Int z) = tt
  int_holds (raws.UInt n) = tt
  int_holds raws.Double = tt
  int_holds (raws.Bool b) = tt
  int_holds (raws.Text i) = tt
  int_holds (raws.Space i) = tt

  uint_holds : (r : Raw) → OrHolds kinds.Num (to_uint r)
  uint_holds raws.Undefined = tt
  uint_holds raws.Null = tt
  uint_holds (raws.Int z) = tt
  uint_holds (raws.UInt n) = tt
  uint_holds raws.Double = tt
  uint_holds (raws.Bool b) = tt
  uint_holds (raws.Text i) = tt
  uint_holds (raws.Space i) = tt

  number_holds : (r : Raw) → OrHolds kinds.Num (to_number r)
  number_holds raws.Undefined = tt
  number_holds raws.Null = tt
  number_holds (raws.Int z) = tt
  number_holds (raws.UInt n) = tt
  number_holds raws.Double = tt
  number_holds (raws.Bool b) = tt
  number_holds (raws.Text i) = tt
  number_holds (raws.Space i) = tt

  boolean_holds : (r : Raw) → OrHolds kinds.Bool (to_boolean l.file r)
  boolean_holds raws.Undefined = tt
  boolean_holds raws.Null = tt
  boolean_holds (raws.Int z) = tt
  boolean_holds (raws.UInt n) = tt
  boolean_holds raws.Double = tt
  boolean_holds (raws.Bool b) = tt
  boolean_holds (raws.Text i) = tt
  boolean_holds (raws.Space i) = tt

  text_holds : (r : Raw) → OrHolds kinds.Text (to_text l.file r)
  text_holds raws.Undefined = tt
  text_holds raws.Null = tt
  text_holds (raws.Int z) = tt
  text_holds (raws.UInt n) = tt
  text_holds raws.Double = tt
  text_holds (raws.Bool true) = tt
  text_holds (raws.Bool false) = tt
  text_holds (raws.Text i) = tt
  text_holds (raws.Space i) = tt

  namespace_holds : (r : Raw) → OrHolds kinds.Space (to_namespace r)
  namespace_holds raws.Undefined = tt
  namespace_holds raws.Null = tt
  namespace_holds (raws.Int z) = tt
  namespace_holds (raws.UInt n) = tt
  namespace_holds raws.Double = tt
  namespace_holds (raws.Bool b) = tt
  namespace_holds (raws.Text i) = tt
  namespace_holds (raws.Space i) = tt

  object_holds : (r : Raw) → OrHolds kinds.Any (to_object r)
  object_holds raws.Undefined = tt
  object_holds raws.Null = tt
  object_holds (raws.Int z) = tt
  object_holds (raws.UInt n) = tt
  object_holds raws.Double = tt
  object_holds (raws.Bool b) = tt
  object_holds (raws.Text i) = tt
  object_holds (raws.Space i) = tt

  void_holds : (r : Raw) → OrHolds kinds.Undef (to_void r)
  void_holds raws.Undefined = tt
  void_holds raws.Null = tt
  void_holds (raws.Int z) = tt
  void_holds (raws.UInt n) = tt
  void_holds raws.Double = tt
  void_holds (raws.Bool b) = tt
  void_holds (raws.Text i) = tt
  void_holds (raws.Space i) = tt

  any_holds : (r : Raw) → OrHolds kinds.Any (to_any r)
  any_holds raws.Undefined = tt
  any_holds raws.Null = tt
  any_holds (raws.Int z) = tt
  any_holds (raws.UInt n) = tt
  any_holds raws.Double = tt
  any_holds (raws.Bool b) = tt
  any_holds (raws.Text i) = tt
  any_holds (raws.Space i) = tt

  class_holds : (x : LayoutId) (r : Raw) → OrHolds (kinds.Obj x) (to_class r)
  class_holds x raws.Undefined = tt
  class_holds x raws.Null = tt
  class_holds x (raws.Int z) = tt
  class_holds x (raws.UInt n) = tt
  class_holds x raws.Double = tt
  class_holds x (raws.Bool b) = tt
  class_holds x (raws.Text i) = tt
  class_holds x (raws.Space i) = tt

  host_holds : (c : HostClass) (r : Raw) → OrHolds (kind_of_type l (host_type l c)) (to_host l.file c r)
  host_holds hosts.Object r = object_holds r
  host_holds hosts.Class r = class_holds (layout_of l (parts.Host hosts.Class)) r
  host_holds hosts.Function r = class_holds (layout_of l (parts.Host hosts.Function)) r
  host_holds hosts.Namespace r = namespace_holds r
  host_holds hosts.Str r = text_holds r
  host_holds hosts.Int r = int_holds r
  host_holds hosts.UInt r = uint_holds r
  host_holds hosts.Number r = number_holds r
  host_holds hosts.Boolean r = boolean_holds r
  host_holds hosts.Error r = class_holds (layout_of l (parts.Host hosts.Error)) r
  host_holds hosts.TypeError r = class_holds (layout_of l (parts.Host hosts.TypeError)) r
  host_holds hosts.ReferenceError r = class_holds (layout_of l (parts.Host hosts.ReferenceError)) r
  host_holds hosts.ArgumentError r = class_holds (layout_of l (parts.Host hosts.ArgumentError)) r
  host_holds hosts.Array r = class_holds (layout_of l (parts.Host hosts.Array)) r

  coerced_holds : (t : Named) (r : Raw) → OrHolds (kind_of_type l (type_in l t)) (start_as l.file t r)
  coerced_holds named.Any r = any_holds r
  coerced_holds named.Void r = void_holds r
  coerced_holds (named.Host c) r = host_holds c r
  coerced_holds (named.Class k) r = go (is_interface l.file k)
    where
      go : (b : Bool) → OrHolds (kind_of_type l (if b then types.Interface k else types.Of (layout_of l (parts.Instance k)))) (to_class r)
      go true = class_holds (layout_of l (parts.Host hosts.Object)) r
      go false = class_holds (layout_of l (parts.Instance k)) r

  host_default_holds : (c : HostClass) → StartHolds (kind_of_type l (host_type l c)) (host_default c)
  host_default_holds hosts.Object = tt
  host_default_holds hosts.Class = tt
  host_default_holds hosts.Function = tt
  host_default_holds hosts.Namespace = tt
  host_default_holds hosts.Str = tt
  host_default_holds hosts.Int = tt
  host_default_holds hosts.UInt = tt
  host_default_holds hosts.Number = tt
  host_default_holds hosts.Boolean = tt
  host_default_holds hosts.Error = tt
  host_default_holds hosts.TypeError = tt
  host_default_holds hosts.ReferenceError = tt
  host_default_holds hosts.ArgumentError = tt
  host_default_holds hosts.Array = tt

  default_holds : (t : Named) → StartHolds (kind_of_type l (type_in l t)) (default_of t)
  default_holds named.Any = tt
  default_holds named.Void = tt
  default_holds (named.Host c) = host_default_holds c
  default_holds (named.Class k) = go (is_interface l.file k)
    where
      go : (b : Bool) → StartHolds (kind_of_type l (if b then types.Interface k else types.Of (layout_of l (parts.Instance k)))) starts.Null
      go true = tt
      go false = tt

  start_holds : (t : Named) (value : Option OptionValue) → OrHolds (kind_of_type l (type_in l t)) (start_of l.file t value)
  start_holds t None = default_holds t
  start_holds t (Some o) = coerced_holds t (raw_of_option l.file o.kind o.value)

  unwrapped : (k : Kind) (o : Option Start) → OrHolds k o → not (is_some o) ≡ false → StartHolds k (unwrap_or o starts.Undefined)
  unwrapped k None a e = absurd cc
  unwrapped k (Some s) a e = a

  abbrev SlotStarts : SlotInfo → Type 0
  SlotStarts s = StartHolds (kind_of_type l s.ty) s.start

  slots_start : (t : TraitBody) → is_not_run l.file t ≡ false → Each SlotStarts (slots_in l t)
  slots_start (traits.Slot id ty value constant) e = let t = type_or_any (type_named l.file ty) in (unwrapped (kind_of_type l (type_in l t)) (start_of l.file t value) (start_holds t value) e, tt)
  slots_start (traits.Class id k) e = (tt, tt)
  slots_start (traits.Method disp m) e = tt
  slots_start (traits.Getter disp m) e = tt
  slots_start (traits.Setter disp m) e = tt
  slots_start (traits.Function id m) e = tt

  table_starts : (kind : ItemKind) (ts : List TraitInfo) → Each (λ (t : TraitInfo). (is_not_run l.file t.body || (is_body kind && is_no_slot t.body)) ≡ false) ts → Each SlotStarts (flat_map (λ (t : TraitInfo). slots_in l t.body) ts)
  table_starts kind [] a = tt
  table_starts kind (t ∷ ts) a = Each-append SlotStarts (slots_in l t.body) (flat_map (λ (t : TraitInfo). slots_in l t.body) ts) (slots_start t.body (or_left (is_not_run l.file t.body) (is_body kind && is_no_slot t.body) a.0)) (table_starts kind ts a.1)

  module _ (linked : IsLinkedFile l) where
    abbrev fails : ItemKind → List TraitInfo → Bool
    fails kind ts = list_any (λ (t : TraitInfo). is_not_run l.file t.body || (is_body kind && is_no_slot t.body)) ts

    of_table : (kind : ItemKind) (ts : List TraitInfo) → fails kind ts ≡ false → Each SlotStarts (flat_map (λ (t : TraitInfo). slots_in l t.body) ts)
    of_table kind ts e = table_starts kind ts (none_passes (λ (t : TraitInfo). is_not_run l.file t.body || (is_body kind && is_no_slot t.body)) ts e)

    own_starts : (x : Part) → HasLayout l.file x → Each SlotStarts (own_slots l x)
    own_starts (parts.Host hosts.Class) has = (tt, tt)
    own_starts (parts.Host hosts.Object) has = tt
    own_starts (parts.Host hosts.Function) has = tt
    own_starts (parts.Host hosts.Namespace) has = tt
    own_starts (parts.Host hosts.Str) has = tt
    own_starts (parts.Host hosts.Int) has = tt
    own_starts (parts.Host hosts.UInt) has = tt
    own_starts (parts.Host hosts.Number) has = tt
    own_starts (parts.Host hosts.Boolean) has = tt
    own_starts (parts.Host hosts.Error) has = tt
    own_starts (parts.Host hosts.TypeError) has = tt
    own_starts (parts.Host hosts.ReferenceError) has = tt
    own_starts (parts.Host hosts.ArgumentError) has = tt
    own_starts (parts.Host hosts.Array) has = tt
    own_starts (parts.HostClassObject c) has = tt
    own_starts (parts.Instance k) has = of_table items.Class (instance_table l.file items.Class k) (or_left (fails items.Class (instance_table l.file items.Class k)) (fails items.Class (own_table l.file items.Class k)) (traits_run l linked items.Class k has))
    own_starts (parts.ClassObject k) has = of_table items.Class (own_table l.file items.Class k) (or_right (fails items.Class (instance_table l.file items.Class k)) (fails items.Class (own_table l.file items.Class k)) (traits_run l linked items.Class k has))
    own_starts (parts.Global s) has = of_table items.Script (own_table l.file items.Script s) (or_right (fails items.Script []) (fails items.Script (own_table l.file items.Script s)) (traits_run l linked items.Script s has))
    own_starts (parts.Activation b) has = of_table items.Body (own_table l.file items.Body b) (or_right (fails items.Body []) (fails items.Body (own_table l.file items.Body b)) (traits_run l linked items.Body b has.0))
    own_starts (parts.Catch b e) has = (default_holds (type_or_any (type_named l.file (handler_at l.file b e).exc_type)), tt)

    all_start : (n x : ℕ) → x < n → Each SlotStarts (slots_of l x)
    all_start zero x b = absurd (omega arith)
    all_start (suc n) x b =
        let own = λ (y : ℕ). own_slots l (part_at l.parts y) in
        let f = falling l.file l.parts linked.numbering in
        subst (Each SlotStarts) (sym (heritage_some (base_layout l) own f x)) (Each-append SlotStarts (heritage (base_layout l) own (base_layout l x)) (own x) (go (λ y low. all_start n y (omega (arith, low, b))) (base_layout l x) (λ y e. f.falls x y e)) (own_starts (part_at l.parts x) (part_has l x linked)))
      where
        go : ((y : ℕ) → y < x → Each SlotStarts (slots_of l y)) → (o : Option ℕ) → ((y : ℕ) → o ≡ Some y → y < x) → Each SlotStarts (heritage (base_layout l) (λ (y : ℕ). own_slots l (part_at l.parts y)) o)
        go more None g = subst (Each SlotStarts) (sym (heritage_none (base_layout l) (λ (y : ℕ). own_slots l (part_at l.parts y)))) tt
        go more (Some y) g = more y (g y refl)

    start_there : StandsOver l h → (s : Start) → StartExists l s → Exists l h (start_value l.file.strings s)
    start_there z starts.Undefined e = tt
    start_there z starts.Null e = tt
    start_there z (starts.Num n) e = e
    start_there z (starts.Bool b) e = tt
    start_there z (starts.BoolText true) e = fixed_there l h fixed.True z
    start_there z (starts.BoolText false) e = fixed_there l h fixed.False z
    start_there z (starts.Text i) e = string_there l.file.strings h i
    start_there z (starts.Space n) e = e

    pub starts_hold : (x : ℕ) → StandsOver l h → x < length l.parts → Each2 (SlotHolds l h) (slots_of l x) (start_values l x)
    starts_hold x z low =
        let kinds = each_at SlotStarts (slots_of l x) (all_start (suc x) x (omega arith)) in
        each2_map (SlotHolds l h) (λ (s : SlotInfo). start_value l.file.strings s.start) (slots_of l x)
        (each_from (λ (s : SlotInfo). SlotHolds l h s (start_value l.file.strings s.start)) (slots_of l x) (λ k s e. record { exists = start_there z s.start ((z.starts x low).each k s e); kind = kinds k s e }))

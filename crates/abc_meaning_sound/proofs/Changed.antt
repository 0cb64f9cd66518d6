-- An object that is changed: slots, properties and elements that are written.
use Rattle.std.proofs.Common.{◌≡◌, ℕ, ◌+◌, ◌≤◌, List, [], ◌∷◌, length, refl, sym, ap, ◌∙◌, arith, length-append, length-set}
use Rattle.std.specs.Prelude.{true, nat_eq, nat_lt, slice_get, Some, None}
use Rattle.std.specs.declared.option.Option.{Option}
use Rattle.abc_base.specs.declared.names.Fault.TheVariants as faults
use Rattle.abc_heap_values.specs.declared.values.ObjId.{ObjId}
use Rattle.abc_heap_values.specs.declared.values.Span.{Span}
use Rattle.abc_heap_values.specs.declared.values.Value.{Value}
use Rattle.abc_heap_store.specs.Changes.{with_element, with_new_element, with_object, with_slot}
use Rattle.abc_heap_store.specs.Heap.{Object, cells_used, object_at}
use Rattle.abc_heap_store.specs.Properties.{cells_to_put, delete_at, present_property, place_named, put_at, with_value, with_delete, with_put}
use Rattle.abc_heap_store.specs.Texts.{IsText, text_of}
use Rattle.abc_heap_store.specs.What.{is_array}
use Rattle.abc_objects.specs.Values.{Exists, IsObject}
use Rattle.abc_objects.proofs.Reshaped.{delete_reshapes, element_reshapes, new_element_reshapes, object_there, put_reshapes, slot_reshapes}
use Rattle.abc_link_names.specs.Slots.{slots_of}
use Rattle.abc_link_names.specs.Types.{kind_of_type}
use Rattle.abc_link_names.specs.declared.types.SlotInfo.{SlotInfo}
use Rattle.abc_meaning.specs.Members.{slot_info, write_element, write_slot}
use Rattle.abc_meaning.specs.Objects.{own_place, set_property, without_property}
use Rattle.abc_meaning.specs.Setting.{Setting}
use Rattle.abc_meaning.specs.World.{Faults, World, changes, object_named}
use Rattle.abc_meaning.specs.Sound.{IsOfKind, SlotHolds, WorldSound}
use Rattle.abc_meaning_sound.specs.Given.{OpsGiven}
use Rattle.abc_meaning_sound.specs.Keeping.{Fares, LeavesSound}
use Rattle.abc_meaning_sound.proofs.Faring.{cells_then, if_fares, some_then, stop_fares, then_fares, went_fares}
use Rattle.abc_meaning_sound.proofs.Growing.{kind_on}
use Rattle.abc_meaning_sound.proofs.Lists.{each2_put, there}
use Rattle.abc_meaning_sound.proofs.Made.{changed_evolves, changed_leaves}

module _ (p : Setting) where
  -- a slot takes a value of its kind
  pub slot_leaves : (w : World) (o k : ℕ) (v : Value) → WorldSound p w → ((x : Object) → slice_get w.heap.objects o ≡ Some x → (info : SlotInfo) × (slice_get (slots_of p.linked x.layout) k ≡ Some info) × IsOfKind p.linked w.heap (kind_of_type p.linked info.ty) v) → Exists p.linked w.heap v → LeavesSound p w (record w { heap = with_object (with_slot k v) o w.heap })
  slot_leaves w o k v s h e =
      let f = with_slot k v in
      let r = slot_reshapes p.linked w.heap o k v e in
      let g = changed_evolves p w.heap f o r in
      changed_leaves p w f o 0 s r (λ x at. let l = length-set x.slots k v in omega (arith, l)) (let c = s.within.cells in omega (arith, c))
      (λ x at os. let i = h x at in record { slots = each2_put (SlotHolds p.linked (with_object f o w.heap)) (slots_of p.linked x.layout) x.slots k i.0 v os.slots i.1 (kind_on p w.heap (with_object f o w.heap) g (kind_of_type p.linked i.0.ty) v i.2); what = os.what; part = os.part; first_of = os.first_of })

  -- an element is replaced
  pub element_leaves : (w : World) (o k : ℕ) (v : Value) → WorldSound p w → Exists p.linked w.heap v → LeavesSound p w (record w { heap = with_object (with_element k v) o w.heap })
  element_leaves w o k v s e =
      changed_leaves p w (with_element k v) o 0 s (element_reshapes p.linked w.heap o k v e) (λ x at. let l = length-set x.elements k v in omega (arith, l)) (let c = s.within.cells in omega (arith, c))
      (λ x at os. record { slots = os.slots; what = os.what; part = os.part; first_of = os.first_of })

  pub new_element_leaves : (w : World) (o : ℕ) (v : Value) → WorldSound p w → is_array (object_at w.heap.objects o).what ≡ true → Exists p.linked w.heap v → cells_used w.heap + 1 ≤ w.heap.limits.cells → LeavesSound p w (record w { heap = with_object (with_new_element v) o w.heap })
  new_element_leaves w o v s a e b =
      changed_leaves p w (with_new_element v) o 1 s (new_element_reshapes p.linked w.heap o v a e) (λ x at. let l = length-append x.elements (v ∷ []) in omega (arith, l)) b
      (λ x at os. record { slots = os.slots; what = os.what; part = os.part; first_of = os.first_of })

  -- ---- properties

  put_long : (n : Span) (v : Value) (ps : List (Option (Span × Value))) (place : Option ℕ) → length (put_at n v ps place) ≤ length ps + cells_to_put place
  put_long n v ps None = let l = length-append ps (Some (n, v) ∷ []) in omega (arith, l)
  put_long n v ps (Some k) = let l = length-set ps k (with_value v (present_property (slice_get ps k))) in omega (arith, l)

  delete_long : (ps : List (Option (Span × Value))) (place : Option ℕ) → length (delete_at ps place) ≡ length ps
  delete_long ps None = refl
  delete_long ps (Some k) = length-set ps k None

  pub set_property_fares : (w : World) (o : ObjId) (name : Span) (v : Value) → WorldSound p w → IsText p.linked.file.strings w.heap name → Exists p.linked w.heap v → Fares p w (set_property p o name v w) (λ n u. Unit {0})
  set_property_fares w o name v s hn hv =
      let text = text_of p.linked.file.strings w.heap in
      let f = with_put text (text name) name v in
      let place = own_place p o name w in
      cells_then p w (cells_to_put place) _ _ s (λ b. went_fares p w _ _ _
      (changed_leaves p w f o.0 (cells_to_put place) s (put_reshapes p.linked w.heap o.0 text (text name) name v hn hv)
      (λ x at. let same = object_there w.heap.objects o.0 x at in let l = put_long name v x.properties (place_named text (text name) x.properties) in let e : cells_to_put (place_named text (text name) x.properties) ≡ cells_to_put place = ap (λ (y : Object). cells_to_put (place_named text (text name) y.properties)) (sym same) in omega (arith, l, e))
      b (λ x at os. record { slots = os.slots; what = os.what; part = os.part; first_of = os.first_of })) tt)

  pub without_property_fares : (w : World) (o : ObjId) (name : Span) → WorldSound p w → Fares p w (changes {X = Unit {0}} (without_property p o name) (λ h. tt) w) (λ n u. Unit {0})
  without_property_fares w o name s =
      let text = text_of p.linked.file.strings w.heap in
      let f = with_delete text (text name) in
      went_fares p w _ _ _ (changed_leaves p w f o.0 0 s (delete_reshapes p.linked w.heap o.0 text (text name)) (λ x at. let l = delete_long x.properties (place_named text (text name) x.properties) in omega (arith, l)) (let c = s.within.cells in omega (arith, c)) (λ x at os. record { slots = os.slots; what = os.what; part = os.part; first_of = os.first_of })) tt

  -- ---- writes

  pub write_element_fares : (w : World) (o : ObjId) (n k : ℕ) (v : Value) → WorldSound p w → is_array (object_at w.heap.objects o.0).what ≡ true → Exists p.linked w.heap v → Fares p w (write_element o n k v w) (λ m u. Unit {0})
  write_element_fares w o n k v s a e =
      if_fares p w (nat_lt k n) _ _ _ (λ q. went_fares p w _ _ _ (element_leaves w o.0 k v s e) tt) (λ q.
      if_fares p w (nat_eq k n) _ _ _ (λ q'. cells_then p w 1 _ _ s (λ b. went_fares p w _ _ _ (new_element_leaves w o.0 v s a e b) tt)) (λ q'. stop_fares p w (Faults faults.ArrayIndex) _ s tt))

  module _ (ops : OpsGiven p) where
    -- a write coerces to the slot's type
    pub write_slot_fares : (w : World) (o : ObjId) (k : ℕ) (x : Value) (info : SlotInfo) → WorldSound p w → IsObject w.heap o → slice_get (slots_of p.linked (object_at w.heap.objects o.0).layout) k ≡ Some info → Exists p.linked w.heap x → Fares p w (write_slot p o k x w) (λ n u. Unit {0})
    write_slot_fares w o k x info s h is e =
        some_then p w (object_named o w) (object_at w.heap.objects o.0) _ _ (there w.heap.objects o.0 h)
        (some_then p w (slot_info p (object_at w.heap.objects o.0).layout k) info _ _ is
        (then_fares p w _ _ _ _ (ops.coerce w info.ty x s e) (λ n v l hv.
        went_fares p n _ _ _ (slot_leaves n o.0 k v l.sound (λ y at.
        let now = object_there n.heap.objects o.0 y at in
        let kept = (l.grows.grows.objects o.0 h).1.layout in
        let same : y.layout ≡ (object_at w.heap.objects o.0).layout = ap (λ (z : Object). z.layout) (sym now) ∙ kept in
        (info, ap (λ q. slice_get (slots_of p.linked q) k) same ∙ is, hv)) hv.exists) tt)))

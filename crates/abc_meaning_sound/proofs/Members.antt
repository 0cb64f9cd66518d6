-- What is done to values by names: read, write, call and delete.
use Rattle.std.proofs.Common.{◌≡◌, ℕ, zero, suc, ◌≤◌, ◌<◌, List, [], ◌∷◌, length, refl, sym, subst, arith}
use Rattle.std.specs.Prelude.{Bool, true, false, not, ◌&&◌, pos, nat_eq, slice_get, Some, None, if◌then◌else◌}
use Rattle.std.specs.declared.option.Option.{Option}
use Rattle.std.proofs.lemmas.Int.{ints}
use Rattle.abc_base.specs.Ranges.{IsNumber}
use Rattle.abc_base.specs.declared.names.Fault.TheVariants as faults
use Rattle.abc_base.specs.declared.names.HostClass.TheVariants as hosts
use Rattle.abc_heap_values.specs.declared.values.ObjId.{ObjId}
use Rattle.abc_heap_values.specs.declared.values.Span.{Span}
use Rattle.abc_heap_values.specs.declared.values.Value.{Value}
use Rattle.abc_heap_values.specs.declared.values.Value.TheVariants.{Undefined, Null, Num, Bool as Truth, Text, Space, Obj}
use Rattle.abc_heap_store.specs.Heap.{Object, all_cells, object_at}
use Rattle.abc_heap_store.specs.Texts.{IsText}
use Rattle.abc_heap_store.specs.What.{is_array}
use Rattle.abc_heap_store.specs.declared.records.What.TheVariants as whats
use Rattle.abc_objects.specs.Values.{Exists, IsObject}
use Rattle.abc_link_names.specs.Owners.{owner_of}
use Rattle.abc_heap_store.specs.Changes.{with_element, with_object}
use Rattle.abc_link_names.specs.Slots.{slots_of}
use Rattle.abc_link_names.proofs.Tree.{below_self}
use Rattle.abc_objects.specs.ElementNames.{ElementName, IsLength, IsNumber as IsElement}
use Rattle.abc_objects.specs.Spaces.{name_holds_public}
use Rattle.abc_objects.specs.declared.found.Found.{Found}
use Rattle.abc_objects.specs.declared.found.Found.TheVariants.{Slot, Method, Getter, Setter, Property, Element, Length, WrongSide, Missing}
use Rattle.abc_objects.specs.declared.found.Want.TheVariants as wants
use Rattle.abc_objects.specs.declared.name.Name.{Name}
use Rattle.abc_verify_typing.specs.Lists.{Each}
use Rattle.abc_verify_typing.proofs.Lists.{slice_get-some}
use Rattle.abc_meaning.specs.Calling.{Came, Calls, Got, Makes, calls, got}
use Rattle.abc_meaning.specs.Members.{bound_function, call_found, calls_name, delete_found, deletes, deletes_own, element_of, find_on, is_dynamic, may_hold, read_found, reads, undefined_if, value_found, write_found, write_own, write_property, writes_to}
use Rattle.abc_meaning.specs.Objects.{new_of_host, own_place, without_property}
use Rattle.abc_meaning.specs.Setting.{Setting, is_dynamic_layout}
use Rattle.abc_meaning.specs.World.{Errs, Faults, Run, Went, World, and_then, changes, object_named}
use Rattle.abc_meaning.specs.Sound.{AreTypings, FrameSound, SlotHolds, Typings, WorldSound}
use Rattle.abc_meaning_sound.specs.Given.{FileGiven, FoundSound, OpsGiven, OwnedSound, SearchGiven}
use Rattle.abc_meaning_sound.specs.Keeping.{CameSound, Fares}
use Rattle.abc_meaning_sound.proofs.Calls.{calls_fares, object_sound}
use Rattle.abc_meaning_sound.proofs.Changed.{element_leaves, set_property_fares, without_property_fares, write_element_fares, write_slot_fares}
use Rattle.abc_meaning_sound.proofs.Entered.{owned_fares}
use Rattle.abc_meaning_sound.proofs.Faring.{done_fares, if_fares, some_fares, some_then, stop_fares, then_fares, went_fares}
use Rattle.abc_meaning_sound.proofs.Growing.{value_on, values_on}
use Rattle.abc_meaning_sound.proofs.Lists.{each2_some, inside, there}
use Rattle.abc_meaning_sound.proofs.Made.{new_of_host_fares}

-- an object's elements are cells
elements_counted : (obs : List Object) (o : ℕ) → o < length obs → length (object_at obs o).elements ≤ all_cells obs
elements_counted [] o h = absurd (omega (arith, h))
elements_counted (x ∷ obs) zero h = omega arith
elements_counted (x ∷ obs) (suc o) h = let r = elements_counted obs o (omega (arith, h)) in omega (arith, r)

module _ (p : Setting) (file : FileGiven p) (ops : OpsGiven p) (typings : Typings) (typed : AreTypings p typings) where
  abbrev pub Comes : World → Came → Type 0
  Comes n c = CameSound p typings n c

  -- a read never makes an object
  abbrev pub Reads : World → Came → Type 0
  Reads n (Got v) = Exists p.linked n.heap v
  Reads n (Calls f) = FrameSound p typings n.heap f
  Reads n (Makes f v) = ⊥

  pub read_comes : (n : World) (c : Came) → Reads n c → Comes n c
  read_comes n (Got v) h = h
  read_comes n (Calls f) h = h
  read_comes n (Makes f v) h = absurd h

  abbrev pub There : World → Value → Type 0
  There n v = Exists p.linked n.heap v

  -- ---- read

  slot_there : (w : World) (o : ObjId) (k : ℕ) → WorldSound p w → IsObject w.heap o → k < length (slots_of p.linked (object_at w.heap.objects o.0).layout) → (v : Value) × (slice_get (object_at w.heap.objects o.0).slots k ≡ Some v) × Exists p.linked w.heap v
  slot_there w o k z h b =
      let info = slice_get-some (slots_of p.linked (object_at w.heap.objects o.0).layout) k b in
      let s = each2_some (SlotHolds p.linked w.heap) (slots_of p.linked (object_at w.heap.objects o.0).layout) (object_at w.heap.objects o.0).slots k info.0 (object_sound p file ops typings typed w o z h).slots info.1 in
      (s.0, s.1, s.2.exists)

  count_there : (w : World) (o : ObjId) → WorldSound p w → IsObject w.heap o → IsNumber (pos (length (object_at w.heap.objects o.0).elements))
  count_there w o z h =
      let c = elements_counted w.heap.objects o.0 h in
      let a = z.within.cells in
      let b = z.within.counted in
      (omega (arith, ints), omega (arith, ints, a, b, c))

  bound_fares : (w : World) (n : ℕ) (o : ObjId) → WorldSound p w → OwnedSound p w n o → Fares p w (bound_function p (owner_of p.linked.file n) n o w) There
  bound_fares w n o z h =
      subst (λ q. Fares p w (and_then q (λ at w'. and_then (new_of_host p hosts.Function (whats.Closure n at.home at.saved (Some o)) w') (λ f w''. Went w'' (Obj f)))) There) (sym h.kept)
      (then_fares p w _ _ _ _ (new_of_host_fares p file w hosts.Function (whats.Closure n h.place.home h.place.saved (Some o)) z (λ q. cc) tt (inside p.linked.file.methods n _ (file.methods n h.body.routine h.body.body).at, h.home, h.saved, h.this.exists) (record { routine = h.body.routine; body = h.body.body; bound_to = h.this }))
      (λ m f l k. done_fares p m (Obj f) _ l.sound k.0))

  missing_fares : (w : World) (b : Bool) → WorldSound p w → Fares p w (undefined_if b w) There
  missing_fares w true z = done_fares p w _ _ z tt
  missing_fares w false z = stop_fares p w (Errs hosts.ReferenceError) _ z tt

  -- what is no method is a value
  abbrev pub IsValue : Found → Type 0
  IsValue (Method owner n) = ⊥
  IsValue (Getter n) = ⊥
  IsValue (Setter n) = ⊥
  IsValue x = Unit {0}

  pub value_fares : (w : World) (x : Found) (v : Value) → WorldSound p w → IsValue x → FoundSound p w wants.Read x v → Fares p w (value_found p x v w) There
  value_fares w (Slot k constant) (Obj o) z i h =
      let s = slot_there w o k z h.0 h.1 in
      some_then p w (object_named o w) (object_at w.heap.objects o.0) _ _ (there w.heap.objects o.0 h.0) (some_fares p w _ s.0 _ s.1 z s.2)
  value_fares w (Property holder x) v z i h = done_fares p w _ _ z h
  value_fares w (Element holder k) v z i h =
      some_then p w (object_named holder w) (object_at w.heap.objects holder.0) _ _ (there w.heap.objects holder.0 h.2) (some_fares p w _ h.0 _ h.1 z ((z.stands.objects holder.0 (object_at w.heap.objects holder.0) (there w.heap.objects holder.0 h.2)).element_values k h.0 h.1))
  value_fares w (Length holder) v z i h = some_then p w (object_named holder w) (object_at w.heap.objects holder.0) _ _ (there w.heap.objects holder.0 h) (done_fares p w _ _ z (count_there w holder z h))
  value_fares w WrongSide v z i h = stop_fares p w (Errs hosts.ReferenceError) _ z tt
  value_fares w Missing v z i h = missing_fares w (is_dynamic p v w) z
  value_fares w (Method owner n) v z i h = absurd i
  value_fares w (Getter n) v z i h = absurd i
  value_fares w (Setter n) v z i h = absurd i
  value_fares w (Slot k constant) Undefined z i h = absurd h
  value_fares w (Slot k constant) Null z i h = absurd h
  value_fares w (Slot k constant) (Num n) z i h = absurd h
  value_fares w (Slot k constant) (Truth b) z i h = absurd h
  value_fares w (Slot k constant) (Text t) z i h = absurd h
  value_fares w (Slot k constant) (Space n) z i h = absurd h

  by_value : (w : World) (x : Found) (v : Value) → WorldSound p w → IsValue x → FoundSound p w wants.Read x v → Fares p w (and_then (value_found p x v w) got) Reads
  by_value w x v z i h = then_fares p w _ _ _ _ (value_fares w x v z i h) (λ n y l k. done_fares p n _ _ l.sound k)

  pub read_found_fares : (w : World) (x : Found) (v : Value) → WorldSound p w → FoundSound p w wants.Read x v → Fares p w (read_found p x v w) Reads
  read_found_fares w (Method owner n) (Obj o) z h = then_fares p w _ _ _ _ (subst (λ q. Fares p w (bound_function p q n o w) There) (sym h.1) (bound_fares w n o z h.0)) (λ i g l k. done_fares p i _ _ l.sound k)
  read_found_fares w (Getter n) (Obj o) z h = then_fares p w _ _ _ _ (owned_fares p file ops typings typed w n o [] z h tt) (λ i g l k. done_fares p i _ _ l.sound k)
  read_found_fares w (Method owner n) Undefined z h = absurd h
  read_found_fares w (Method owner n) Null z h = absurd h
  read_found_fares w (Method owner n) (Num x) z h = absurd h
  read_found_fares w (Method owner n) (Truth x) z h = absurd h
  read_found_fares w (Method owner n) (Text x) z h = absurd h
  read_found_fares w (Method owner n) (Space x) z h = absurd h
  read_found_fares w (Getter n) Undefined z h = absurd h
  read_found_fares w (Getter n) Null z h = absurd h
  read_found_fares w (Getter n) (Num x) z h = absurd h
  read_found_fares w (Getter n) (Truth x) z h = absurd h
  read_found_fares w (Getter n) (Text x) z h = absurd h
  read_found_fares w (Getter n) (Space x) z h = absurd h
  read_found_fares w (Setter n) Undefined z h = absurd h
  read_found_fares w (Setter n) Null z h = absurd h
  read_found_fares w (Setter n) (Num x) z h = absurd h
  read_found_fares w (Setter n) (Truth x) z h = absurd h
  read_found_fares w (Setter n) (Text x) z h = absurd h
  read_found_fares w (Setter n) (Space x) z h = absurd h
  read_found_fares w (Setter n) (Obj x) z h = absurd h
  read_found_fares w (Slot k b) v z h = by_value w (Slot k b) v z tt h
  read_found_fares w (Property holder x) v z h = by_value w (Property holder x) v z tt h
  read_found_fares w (Element holder k) v z h = by_value w (Element holder k) v z tt h
  read_found_fares w (Length holder) v z h = by_value w (Length holder) v z tt h
  read_found_fares w WrongSide v z h = by_value w WrongSide v z tt h
  read_found_fares w Missing v z h = by_value w Missing v z tt h

  -- ---- call

  by_call : (w : World) (x : Found) (v receiver : Value) (args : List Value) → WorldSound p w → IsValue x → FoundSound p w wants.Read x v → Exists p.linked w.heap receiver → Each (Exists p.linked w.heap) args → Fares p w (and_then (value_found p x v w) (λ f. calls p f receiver args)) Comes
  by_call w x v receiver args z i h e es = then_fares p w _ _ There _ (value_fares w x v z i h) (λ n f l hf. calls_fares p file ops typings typed n f receiver args l.sound hf (value_on p w.heap n.heap l.grows receiver e) (values_on p w.heap n.heap l.grows args es))

  pub call_found_fares : (w : World) (x : Found) (v receiver : Value) (args : List Value) → WorldSound p w → FoundSound p w wants.Read x v → Exists p.linked w.heap receiver → Each (Exists p.linked w.heap) args → Fares p w (call_found p x v receiver args w) Comes
  call_found_fares w (Method owner n) (Obj o) receiver args z h e es = then_fares p w _ _ _ _ (owned_fares p file ops typings typed w n o args z h.0 es) (λ i g l k. done_fares p i _ _ l.sound k)
  call_found_fares w (Getter n) (Obj o) receiver args z h e es = stop_fares p w (Faults faults.GetterCall) _ z tt
  call_found_fares w (Method owner n) Undefined receiver args z h e es = absurd h
  call_found_fares w (Method owner n) Null receiver args z h e es = absurd h
  call_found_fares w (Method owner n) (Num x) receiver args z h e es = absurd h
  call_found_fares w (Method owner n) (Truth x) receiver args z h e es = absurd h
  call_found_fares w (Method owner n) (Text x) receiver args z h e es = absurd h
  call_found_fares w (Method owner n) (Space x) receiver args z h e es = absurd h
  call_found_fares w (Getter n) Undefined receiver args z h e es = absurd h
  call_found_fares w (Getter n) Null receiver args z h e es = absurd h
  call_found_fares w (Getter n) (Num x) receiver args z h e es = absurd h
  call_found_fares w (Getter n) (Truth x) receiver args z h e es = absurd h
  call_found_fares w (Getter n) (Text x) receiver args z h e es = absurd h
  call_found_fares w (Getter n) (Space x) receiver args z h e es = absurd h
  call_found_fares w (Setter n) Undefined receiver args z h e es = absurd h
  call_found_fares w (Setter n) Null receiver args z h e es = absurd h
  call_found_fares w (Setter n) (Num x) receiver args z h e es = absurd h
  call_found_fares w (Setter n) (Truth x) receiver args z h e es = absurd h
  call_found_fares w (Setter n) (Text x) receiver args z h e es = absurd h
  call_found_fares w (Setter n) (Space x) receiver args z h e es = absurd h
  call_found_fares w (Setter n) (Obj x) receiver args z h e es = absurd h
  call_found_fares w (Slot k b) v receiver args z h e es = by_call w (Slot k b) v receiver args z tt h e es
  call_found_fares w (Property o x) v receiver args z h e es = by_call w (Property o x) v receiver args z tt h e es
  call_found_fares w (Element o k) v receiver args z h e es = by_call w (Element o k) v receiver args z tt h e es
  call_found_fares w (Length o) v receiver args z h e es = by_call w (Length o) v receiver args z tt h e es
  call_found_fares w WrongSide v receiver args z h e es = by_call w WrongSide v receiver args z tt h e es
  call_found_fares w Missing v receiver args z h e es = by_call w Missing v receiver args z tt h e es

  -- ---- write

  write_own_fares : (w : World) (o : ObjId) (text : Span) (x : Value) (element : Option ElementName) → WorldSound p w → ((e : ElementName) → element ≡ Some e → is_array (object_at w.heap.objects o.0).what ≡ true) → IsText p.linked.file.strings w.heap text → Exists p.linked w.heap x → Fares p w (write_own p o (object_at w.heap.objects o.0) text x element w) (λ n u. Unit {0})
  write_own_fares w o text x (Some IsLength) z a ht e = stop_fares p w (Errs hosts.ReferenceError) _ z tt
  write_own_fares w o text x (Some (IsElement k)) z a ht e = write_element_fares p w o (length (object_at w.heap.objects o.0).elements) k x z (a (IsElement k) refl) e
  write_own_fares w o text x None z a ht e = if_fares p w (may_hold (own_place p o text w) (is_dynamic_layout p (object_at w.heap.objects o.0).layout)) _ _ _ (λ q. set_property_fares p w o text x z ht e) (λ q. stop_fares p w (Errs hosts.ReferenceError) _ z tt)

  -- an array alone has element names
  arrays_alone : (w : World) (ob : Object) (text : Span) (e : ElementName) → element_of p ob text w ≡ Some e → is_array ob.what ≡ true
  arrays_alone w ob text e q = go (is_array ob.what) refl q
    where
      go : (b : Bool) → is_array ob.what ≡ b → (if b then Rattle.abc_objects.specs.ElementNames.element_name (Rattle.abc_heap_store.specs.Texts.text_of p.linked.file.strings w.heap text) else None) ≡ Some e → is_array ob.what ≡ true
      go true is q = is
      go false is q = absurd cc

  write_property_fares : (w : World) (o : ObjId) (text : Span) (x : Value) → WorldSound p w → IsObject w.heap o → IsText p.linked.file.strings w.heap text → Exists p.linked w.heap x → Fares p w (write_property p o text x w) (λ n u. Unit {0})
  write_property_fares w o text x z h ht e = some_then p w (object_named o w) (object_at w.heap.objects o.0) _ _ (there w.heap.objects o.0 h) (write_own_fares w o text x (element_of p (object_at w.heap.objects o.0) text w) z (λ n q. arrays_alone w (object_at w.heap.objects o.0) text n q) ht e)

  pub write_found_fares : (w : World) (o : ObjId) (name : Name) (x : Value) (initial : Bool) (found : Found) → WorldSound p w → IsObject w.heap o → FoundSound p w wants.Write found (Obj o) → IsText p.linked.file.strings w.heap name.text → Exists p.linked w.heap x → Fares p w (write_found p o name x initial found w) Comes
  write_found_fares w o name x initial (Slot k constant) z ho h ht e =
      let info = slice_get-some (slots_of p.linked (object_at w.heap.objects o.0).layout) k h.1 in
      if_fares p w (constant && not initial) _ _ _ (λ q. stop_fares p w (Errs hosts.ReferenceError) _ z tt) (λ q. then_fares p w _ _ _ _ (write_slot_fares p ops w o k x info.0 z h.0 info.1 e) (λ n u l t. done_fares p n _ _ l.sound tt))
  write_found_fares w o name x initial (Setter n) z ho h ht e = then_fares p w _ _ _ _ (owned_fares p file ops typings typed w n o (x ∷ []) z h (e, tt)) (λ i g l k. done_fares p i _ _ l.sound k)
  write_found_fares w o name x initial (Method owner n) z ho h ht e = stop_fares p w (Errs hosts.ReferenceError) _ z tt
  write_found_fares w o name x initial WrongSide z ho h ht e = stop_fares p w (Errs hosts.ReferenceError) _ z tt
  write_found_fares w o name x initial Missing z ho h ht e = if_fares p w (name_holds_public p.linked name.spaces) _ _ _ (λ q. then_fares p w _ _ _ _ (write_property_fares w o name.text x z ho ht e) (λ n u l t. done_fares p n _ _ l.sound tt)) (λ q. stop_fares p w (Errs hosts.ReferenceError) _ z tt)
  write_found_fares w o name x initial (Getter n) z ho h ht e = absurd h
  write_found_fares w o name x initial (Property holder v) z ho h ht e = absurd h
  write_found_fares w o name x initial (Element holder k) z ho h ht e = absurd h
  write_found_fares w o name x initial (Length holder) z ho h ht e = absurd h

  -- ---- delete

  deletes_own_fares : (w : World) (holder o : ObjId) (m : Run (Unit {0})) → WorldSound p w → Fares p w (m w) (λ n u. Unit {0}) → Fares p w (deletes_own holder o m w) (λ n b. Unit {0})
  deletes_own_fares w holder o m z k = if_fares p w (nat_eq holder.0 o.0) _ _ _ (λ q. then_fares p w _ _ _ _ k (λ n u l t. done_fares p n _ _ l.sound tt)) (λ q. done_fares p w _ _ z tt)

  delete_found_fares : (w : World) (o : ObjId) (text : Span) (found : Found) → WorldSound p w → Fares p w (delete_found p o text found w) (λ n b. Unit {0})
  delete_found_fares w o text (Property holder x) z = deletes_own_fares w holder o (changes (without_property p o text) (λ h. tt)) z (without_property_fares p w o text z)
  delete_found_fares w o text (Element holder k) z = deletes_own_fares w holder o (changes (with_object (with_element k Undefined) o.0) (λ h. tt)) z (went_fares p w _ _ _ (element_leaves p w o.0 k Undefined z tt) tt)
  delete_found_fares w o text (Length holder) z = done_fares p w _ _ z tt
  delete_found_fares w o text Missing z = done_fares p w _ _ z tt
  delete_found_fares w o text (Slot k b) z = done_fares p w _ _ z tt
  delete_found_fares w o text (Method owner n) z = done_fares p w _ _ z tt
  delete_found_fares w o text (Getter n) z = done_fares p w _ _ z tt
  delete_found_fares w o text (Setter n) z = done_fares p w _ _ z tt
  delete_found_fares w o text WrongSide z = done_fares p w _ _ z tt

  pub deletes_fares : (w : World) (v : Value) (name : Name) → WorldSound p w → Fares p w (deletes p v name w) (λ n b. Unit {0})
  deletes_fares w (Obj o) name z = if_fares p w (is_dynamic p (Obj o) w) _ _ _ (λ q. delete_found_fares w o name.text (find_on p (Obj o) name w) z) (λ q. done_fares p w _ _ z tt)
  deletes_fares w Undefined name z = stop_fares p w (Errs hosts.TypeError) _ z tt
  deletes_fares w Null name z = stop_fares p w (Errs hosts.TypeError) _ z tt
  deletes_fares w (Num n) name z = done_fares p w _ _ z tt
  deletes_fares w (Truth n) name z = done_fares p w _ _ z tt
  deletes_fares w (Text n) name z = done_fares p w _ _ z tt
  deletes_fares w (Space n) name z = done_fares p w _ _ z tt

  -- ---- by a name

  module _ (search : SearchGiven p) where
    pub reads_fares : (w : World) (v : Value) (name : Name) → WorldSound p w → Exists p.linked w.heap v → Fares p w (reads p v name w) Reads
    reads_fares w Undefined name z e = stop_fares p w (Errs hosts.TypeError) _ z tt
    reads_fares w Null name z e = stop_fares p w (Errs hosts.TypeError) _ z tt
    reads_fares w (Obj o) name z e = read_found_fares w _ (Obj o) z (search.on w (Obj o) name z e)
    reads_fares w (Num x) name z e = read_found_fares w _ (Num x) z (search.on w (Num x) name z e)
    reads_fares w (Truth x) name z e = read_found_fares w _ (Truth x) z (search.on w (Truth x) name z e)
    reads_fares w (Text x) name z e = read_found_fares w _ (Text x) z (search.on w (Text x) name z e)
    reads_fares w (Space x) name z e = read_found_fares w _ (Space x) z (search.on w (Space x) name z e)

    pub calls_name_fares : (w : World) (v receiver : Value) (name : Name) (args : List Value) → WorldSound p w → Exists p.linked w.heap v → Exists p.linked w.heap receiver → Each (Exists p.linked w.heap) args → Fares p w (calls_name p v receiver name args w) Comes
    calls_name_fares w Undefined receiver name args z h e es = stop_fares p w (Errs hosts.TypeError) _ z tt
    calls_name_fares w Null receiver name args z h e es = stop_fares p w (Errs hosts.TypeError) _ z tt
    calls_name_fares w (Obj x) receiver name args z h e es = call_found_fares w _ (Obj x) receiver args z (search.on w (Obj x) name z h) e es
    calls_name_fares w (Num x) receiver name args z h e es = call_found_fares w _ (Num x) receiver args z (search.on w (Num x) name z h) e es
    calls_name_fares w (Truth x) receiver name args z h e es = call_found_fares w _ (Truth x) receiver args z (search.on w (Truth x) name z h) e es
    calls_name_fares w (Text x) receiver name args z h e es = call_found_fares w _ (Text x) receiver args z (search.on w (Text x) name z h) e es
    calls_name_fares w (Space x) receiver name args z h e es = call_found_fares w _ (Space x) receiver args z (search.on w (Space x) name z h) e es

    pub writes_fares : (w : World) (v : Value) (name : Name) (x : Value) (initial : Bool) → WorldSound p w → Exists p.linked w.heap v → IsText p.linked.file.strings w.heap name.text → Exists p.linked w.heap x → Fares p w (writes_to p v name x initial w) Comes
    writes_fares w (Obj o) name x initial z h ht e =
        some_then p w (object_named o w) (object_at w.heap.objects o.0) _ _ (there w.heap.objects o.0 h)
        (write_found_fares w o name x initial _ z h (search.declared w o (object_at w.heap.objects o.0).layout name wants.Write z h (below_self p.linked (object_at w.heap.objects o.0).layout)) ht e)
    writes_fares w Undefined name x initial z h ht e = stop_fares p w (Errs hosts.TypeError) _ z tt
    writes_fares w Null name x initial z h ht e = stop_fares p w (Errs hosts.TypeError) _ z tt
    writes_fares w (Num n) name x initial z h ht e = stop_fares p w (Errs hosts.ReferenceError) _ z tt
    writes_fares w (Truth n) name x initial z h ht e = stop_fares p w (Errs hosts.ReferenceError) _ z tt
    writes_fares w (Text n) name x initial z h ht e = stop_fares p w (Errs hosts.ReferenceError) _ z tt
    writes_fares w (Space n) name x initial z h ht e = stop_fares p w (Errs hosts.ReferenceError) _ z tt

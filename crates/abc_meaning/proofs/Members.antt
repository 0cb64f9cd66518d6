-- What is done to values by names.
use Rattle.std.proofs.Common.{ℕ, List, [], ◌∷◌, length}
use Rattle.std.specs.Prelude.{Bool, true, false, not, ◌&&◌, nat_eq, nat_lt, pos, slice_get, Some, None}
use Rattle.std.specs.declared.option.Option.{Option}
use Rattle.abc_base.specs.declared.names.Fault.TheVariants as faults
use Rattle.abc_base.specs.declared.names.HostClass.TheVariants as hosts
use Rattle.abc_heap_values.specs.declared.values.ObjId.{ObjId}
use Rattle.abc_heap_values.specs.declared.values.Span.{Span}
use Rattle.abc_heap_values.specs.declared.values.Value.{Value}
use Rattle.abc_heap_values.specs.declared.values.Value.TheVariants as values
use Rattle.abc_heap_store.specs.Changes.{with_element, with_object}
use Rattle.abc_heap_store.specs.Heap.{Object}
use Rattle.abc_link_names.specs.declared.types.Owner.{Owner}
use Rattle.abc_link_names.specs.declared.types.SlotInfo.{SlotInfo}
use Rattle.abc_objects.specs.ElementNames.{ElementName, IsLength, IsNumber}
use Rattle.abc_objects.specs.Searches.{declared_found}
use Rattle.abc_objects.specs.Spaces.{name_holds_public}
use Rattle.abc_objects.specs.declared.found.Found.{Found}
use Rattle.abc_objects.specs.declared.found.Found.TheVariants.{Slot, Method, Getter, Setter, Property, Element, Length, WrongSide, Missing}
use Rattle.abc_objects.specs.declared.found.Want.TheVariants.{Write}
use Rattle.abc_objects.specs.declared.name.Name.{Name}
use Rattle.abc_meaning.specs.Members.{value_at_place, bound_function, call_found, calls_name, delete_found, deletes, deletes_own, element_of, find_on, is_dynamic, may_hold, read_found, reads, slot_info, undefined_if, value_found, with_holder, write_element, write_found, write_own, write_property, write_slot, writes_to}
use Rattle.abc_meaning.specs.Calling.{calls, got}
use Rattle.abc_meaning.specs.Objects.{own_place, set_property, without_property}
use Rattle.abc_meaning.specs.Setting.{Setting, is_dynamic_layout}
use Rattle.abc_meaning.specs.World.{Errs, Faults, Run, Sticks, World, and_then, changes, pure, object_named, throws}
use Rattle.abc_meaning.proofs.Adding.{Once, Quiet, cells_quiet, done_quiet, heap_quiet, if_quiet, once, some_quiet, stop_quiet, then_once, then_quiet}
use Rattle.abc_meaning.proofs.Entering.{coerces_quiet, new_of_host_quiet, owned_quiet, place_quiet, set_property_quiet}
use Rattle.abc_meaning.proofs.Values.{calls_once}

pub holder_quiet : {X : Type 0} (w : World) (v : Value) (m : Run X) → Quiet w (m w) → Quiet w (with_holder v m w)
holder_quiet w values.Undefined m a = stop_quiet w (Errs hosts.TypeError)
holder_quiet w values.Null m a = stop_quiet w (Errs hosts.TypeError)
holder_quiet w (values.Num n) m a = a
holder_quiet w (values.Bool b) m a = a
holder_quiet w (values.Text t) m a = a
holder_quiet w (values.Space n) m a = a
holder_quiet w (values.Obj o) m a = a

holder_once : {X : Type 0} (w : World) (v : Value) (m : Run X) → Once w (m w) → Once w (with_holder v m w)
holder_once w values.Undefined m a = once w _ (stop_quiet w (Errs hosts.TypeError))
holder_once w values.Null m a = once w _ (stop_quiet w (Errs hosts.TypeError))
holder_once w (values.Num n) m a = a
holder_once w (values.Bool b) m a = a
holder_once w (values.Text t) m a = a
holder_once w (values.Space n) m a = a
holder_once w (values.Obj o) m a = a

at_place_quiet : (w : World) (which : Object → List Value) (o : ObjId) (k : ℕ) → Quiet w (value_at_place which o k w)
at_place_quiet w which o k = then_quiet w _ _ (some_quiet w (object_named o w)) (λ (n : World) (ob : Object). some_quiet n (slice_get (which ob) k))

undefined_quiet : (w : World) (b : Bool) → Quiet w (undefined_if b w)
undefined_quiet w true = done_quiet w values.Undefined
undefined_quiet w false = stop_quiet w (Errs hosts.ReferenceError)

module _ (p : Setting) where
  -- ---- read

  bound_quiet : (w : World) (owner : Owner) (m : ℕ) (o : ObjId) → Quiet w (bound_function p owner m o w)
  bound_quiet w owner m o = then_quiet w _ _ (place_quiet p w owner) (λ n at. then_quiet n _ _ (new_of_host_quiet p n hosts.Function _) (λ i f. done_quiet i _))

  value_quiet : (w : World) (found : Found) (v : Value) → Quiet w (value_found p found v w)
  value_quiet w (Slot k constant) (values.Obj o) = at_place_quiet w (λ ob. ob.slots) o k
  value_quiet w (Slot k constant) values.Undefined = stop_quiet w Sticks
  value_quiet w (Slot k constant) values.Null = stop_quiet w Sticks
  value_quiet w (Slot k constant) (values.Num n) = stop_quiet w Sticks
  value_quiet w (Slot k constant) (values.Bool b) = stop_quiet w Sticks
  value_quiet w (Slot k constant) (values.Text t) = stop_quiet w Sticks
  value_quiet w (Slot k constant) (values.Space n) = stop_quiet w Sticks
  value_quiet w (Property holder x) v = done_quiet w x
  value_quiet w (Element holder k) v = at_place_quiet w (λ ob. ob.elements) holder k
  value_quiet w (Length holder) v = then_quiet w _ _ (some_quiet w (object_named holder w)) (λ (n : World) (ob : Object). done_quiet n (values.Num (pos (length ob.elements))))
  value_quiet w WrongSide v = stop_quiet w (Errs hosts.ReferenceError)
  value_quiet w Missing v = undefined_quiet w (is_dynamic p v w)
  value_quiet w (Method owner m) v = stop_quiet w Sticks
  value_quiet w (Getter m) v = stop_quiet w Sticks
  value_quiet w (Setter m) v = stop_quiet w Sticks

  plain_quiet : (w : World) (found : Found) (v : Value) → Quiet w (and_then (value_found p found v w) got)
  plain_quiet w found v = then_quiet w _ _ (value_quiet w found v) (λ n x. done_quiet n _)

  pub read_quiet : (w : World) (found : Found) (v : Value) → Quiet w (read_found p found v w)
  read_quiet w (Method owner m) (values.Obj o) = then_quiet w _ _ (bound_quiet w owner m o) (λ n x. done_quiet n _)
  read_quiet w (Method owner m) values.Undefined = plain_quiet w (Method owner m) values.Undefined
  read_quiet w (Method owner m) values.Null = plain_quiet w (Method owner m) values.Null
  read_quiet w (Method owner m) (values.Num n) = plain_quiet w (Method owner m) (values.Num n)
  read_quiet w (Method owner m) (values.Bool b) = plain_quiet w (Method owner m) (values.Bool b)
  read_quiet w (Method owner m) (values.Text t) = plain_quiet w (Method owner m) (values.Text t)
  read_quiet w (Method owner m) (values.Space n) = plain_quiet w (Method owner m) (values.Space n)
  read_quiet w (Getter m) (values.Obj o) = then_quiet w _ _ (owned_quiet p w m (values.Obj o) []) (λ n g. done_quiet n _)
  read_quiet w (Getter m) values.Undefined = plain_quiet w (Getter m) values.Undefined
  read_quiet w (Getter m) values.Null = plain_quiet w (Getter m) values.Null
  read_quiet w (Getter m) (values.Num n) = plain_quiet w (Getter m) (values.Num n)
  read_quiet w (Getter m) (values.Bool b) = plain_quiet w (Getter m) (values.Bool b)
  read_quiet w (Getter m) (values.Text t) = plain_quiet w (Getter m) (values.Text t)
  read_quiet w (Getter m) (values.Space n) = plain_quiet w (Getter m) (values.Space n)
  read_quiet w (Slot k constant) v = plain_quiet w (Slot k constant) v
  read_quiet w (Setter m) v = plain_quiet w (Setter m) v
  read_quiet w (Property holder x) v = plain_quiet w (Property holder x) v
  read_quiet w (Element holder k) v = plain_quiet w (Element holder k) v
  read_quiet w (Length holder) v = plain_quiet w (Length holder) v
  read_quiet w WrongSide v = plain_quiet w WrongSide v
  read_quiet w Missing v = plain_quiet w Missing v

  pub reads_quiet : (w : World) (v : Value) (name : Name) → Quiet w (reads p v name w)
  reads_quiet w v name = holder_quiet w v _ (read_quiet w (find_on p v name w) v)

  -- ---- write

  pub write_slot_quiet : (w : World) (o : ObjId) (k : ℕ) (x : Value) → Quiet w (write_slot p o k x w)
  write_slot_quiet w o k x =
      then_quiet w _ _ (some_quiet w (object_named o w)) (λ (n : World) (ob : Object).
      then_quiet n _ _ (some_quiet n (slot_info p ob.layout k)) (λ (i : World) (slot : SlotInfo).
      then_quiet i _ _ (coerces_quiet p i slot.ty x) (λ j v. heap_quiet j _ _)))

  element_quiet : (w : World) (o : ObjId) (length k : ℕ) (x : Value) → Quiet w (write_element o length k x w)
  element_quiet w o length k x =
      if_quiet w (nat_lt k length) _ _ (heap_quiet w _ _)
      (if_quiet w (nat_eq k length) _ _ (then_quiet w _ _ (cells_quiet w 1) (λ n u. heap_quiet n _ _)) (stop_quiet w (Faults faults.ArrayIndex)))

  own_quiet : (w : World) (o : ObjId) (ob : Object) (text : Span) (x : Value) (e : Option ElementName) → Quiet w (write_own p o ob text x e w)
  own_quiet w o ob text x (Some IsLength) = stop_quiet w (Errs hosts.ReferenceError)
  own_quiet w o ob text x (Some (IsNumber k)) = element_quiet w o (length ob.elements) k x
  own_quiet w o ob text x None = if_quiet w (may_hold (own_place p o text w) (is_dynamic_layout p ob.layout)) (set_property p o text x) (throws hosts.ReferenceError) (set_property_quiet p w o text x) (stop_quiet w (Errs hosts.ReferenceError))

  property_quiet : (w : World) (o : ObjId) (text : Span) (x : Value) → Quiet w (write_property p o text x w)
  property_quiet w o text x = then_quiet w _ _ (some_quiet w (object_named o w)) (λ (n : World) (ob : Object). own_quiet n o ob text x (element_of p ob text n))

  pub write_quiet : (w : World) (o : ObjId) (name : Name) (x : Value) (initial : Bool) (found : Found) → Quiet w (write_found p o name x initial found w)
  write_quiet w o name x initial (Slot k constant) = if_quiet w (constant && not initial) _ _ (stop_quiet w (Errs hosts.ReferenceError)) (then_quiet w _ _ (write_slot_quiet w o k x) (λ n u. done_quiet n _))
  write_quiet w o name x initial (Setter m) = then_quiet w _ _ (owned_quiet p w m (values.Obj o) (x ∷ [])) (λ n g. done_quiet n _)
  write_quiet w o name x initial (Method owner m) = stop_quiet w (Errs hosts.ReferenceError)
  write_quiet w o name x initial WrongSide = stop_quiet w (Errs hosts.ReferenceError)
  write_quiet w o name x initial Missing = if_quiet w (name_holds_public p.linked name.spaces) _ _ (then_quiet w _ _ (property_quiet w o name.text x) (λ n u. done_quiet n _)) (stop_quiet w (Errs hosts.ReferenceError))
  write_quiet w o name x initial (Getter m) = stop_quiet w Sticks
  write_quiet w o name x initial (Property holder v) = stop_quiet w Sticks
  write_quiet w o name x initial (Element holder k) = stop_quiet w Sticks
  write_quiet w o name x initial (Length holder) = stop_quiet w Sticks

  pub writes_to_quiet : (w : World) (v : Value) (name : Name) (x : Value) (initial : Bool) → Quiet w (writes_to p v name x initial w)
  writes_to_quiet w (values.Obj o) name x initial = then_quiet w _ _ (some_quiet w (object_named o w)) (λ (n : World) (ob : Object). write_quiet n o name x initial (declared_found p.linked n.heap ob.layout ob.layout name Write))
  writes_to_quiet w values.Undefined name x initial = holder_quiet w values.Undefined (throws hosts.ReferenceError) (stop_quiet w (Errs hosts.ReferenceError))
  writes_to_quiet w values.Null name x initial = holder_quiet w values.Null (throws hosts.ReferenceError) (stop_quiet w (Errs hosts.ReferenceError))
  writes_to_quiet w (values.Num n) name x initial = holder_quiet w (values.Num n) (throws hosts.ReferenceError) (stop_quiet w (Errs hosts.ReferenceError))
  writes_to_quiet w (values.Bool b) name x initial = holder_quiet w (values.Bool b) (throws hosts.ReferenceError) (stop_quiet w (Errs hosts.ReferenceError))
  writes_to_quiet w (values.Text t) name x initial = holder_quiet w (values.Text t) (throws hosts.ReferenceError) (stop_quiet w (Errs hosts.ReferenceError))
  writes_to_quiet w (values.Space n) name x initial = holder_quiet w (values.Space n) (throws hosts.ReferenceError) (stop_quiet w (Errs hosts.ReferenceError))

  -- ---- call

  called_once : (w : World) (found : Found) (v receiver : Value) (args : List Value) → Once w (and_then (value_found p found v w) (λ f. calls p f receiver args))
  called_once w found v receiver args = then_once w _ _ (value_quiet w found v) (λ n f. calls_once p n f receiver args)

  pub call_once : (w : World) (found : Found) (v receiver : Value) (args : List Value) → Once w (call_found p found v receiver args w)
  call_once w (Method owner m) (values.Obj o) receiver args = once w _ (then_quiet w _ _ (owned_quiet p w m (values.Obj o) args) (λ n g. done_quiet n _))
  call_once w (Method owner m) values.Undefined receiver args = called_once w (Method owner m) values.Undefined receiver args
  call_once w (Method owner m) values.Null receiver args = called_once w (Method owner m) values.Null receiver args
  call_once w (Method owner m) (values.Num n) receiver args = called_once w (Method owner m) (values.Num n) receiver args
  call_once w (Method owner m) (values.Bool b) receiver args = called_once w (Method owner m) (values.Bool b) receiver args
  call_once w (Method owner m) (values.Text t) receiver args = called_once w (Method owner m) (values.Text t) receiver args
  call_once w (Method owner m) (values.Space n) receiver args = called_once w (Method owner m) (values.Space n) receiver args
  call_once w (Getter m) (values.Obj o) receiver args = once w _ (stop_quiet w (Faults faults.GetterCall))
  call_once w (Getter m) values.Undefined receiver args = called_once w (Getter m) values.Undefined receiver args
  call_once w (Getter m) values.Null receiver args = called_once w (Getter m) values.Null receiver args
  call_once w (Getter m) (values.Num n) receiver args = called_once w (Getter m) (values.Num n) receiver args
  call_once w (Getter m) (values.Bool b) receiver args = called_once w (Getter m) (values.Bool b) receiver args
  call_once w (Getter m) (values.Text t) receiver args = called_once w (Getter m) (values.Text t) receiver args
  call_once w (Getter m) (values.Space n) receiver args = called_once w (Getter m) (values.Space n) receiver args
  call_once w (Slot k constant) v receiver args = called_once w (Slot k constant) v receiver args
  call_once w (Setter m) v receiver args = called_once w (Setter m) v receiver args
  call_once w (Property holder x) v receiver args = called_once w (Property holder x) v receiver args
  call_once w (Element holder k) v receiver args = called_once w (Element holder k) v receiver args
  call_once w (Length holder) v receiver args = called_once w (Length holder) v receiver args
  call_once w WrongSide v receiver args = called_once w WrongSide v receiver args
  call_once w Missing v receiver args = called_once w Missing v receiver args

  pub calls_name_once : (w : World) (v receiver : Value) (name : Name) (args : List Value) → Once w (calls_name p v receiver name args w)
  calls_name_once w v receiver name args = holder_once w v _ (call_once w (find_on p v name w) v receiver args)

  -- ---- delete

  deletes_own_quiet : (w : World) (holder o : ObjId) (m : Run (Unit {0})) → Quiet w (m w) → Quiet w (deletes_own holder o m w)
  deletes_own_quiet w holder o m a = if_quiet w (nat_eq holder.0 o.0) _ _ (then_quiet w _ _ a (λ n u. done_quiet n true)) (done_quiet w true)

  delete_quiet : (w : World) (o : ObjId) (text : Span) (found : Found) → Quiet w (delete_found p o text found w)
  delete_quiet w o text (Property holder x) = deletes_own_quiet w holder o (changes (without_property p o text) (λ h. tt)) (heap_quiet w (without_property p o text w.heap) tt)
  delete_quiet w o text (Element holder k) = deletes_own_quiet w holder o (changes (with_object (with_element k values.Undefined) o.0) (λ h. tt)) (heap_quiet w (with_object (with_element k values.Undefined) o.0 w.heap) tt)
  delete_quiet w o text (Length holder) = done_quiet w _
  delete_quiet w o text Missing = done_quiet w true
  delete_quiet w o text (Slot k constant) = done_quiet w false
  delete_quiet w o text (Method owner m) = done_quiet w false
  delete_quiet w o text (Getter m) = done_quiet w false
  delete_quiet w o text (Setter m) = done_quiet w false
  delete_quiet w o text WrongSide = done_quiet w false

  pub deletes_quiet : (w : World) (v : Value) (name : Name) → Quiet w (deletes p v name w)
  deletes_quiet w (values.Obj o) name = if_quiet w (is_dynamic p (values.Obj o) w) _ _ (delete_quiet w o name.text (find_on p (values.Obj o) name w)) (done_quiet w false)
  deletes_quiet w values.Undefined name = holder_quiet w values.Undefined (pure false) (done_quiet w false)
  deletes_quiet w values.Null name = holder_quiet w values.Null (pure false) (done_quiet w false)
  deletes_quiet w (values.Num n) name = holder_quiet w (values.Num n) (pure false) (done_quiet w false)
  deletes_quiet w (values.Bool b) name = holder_quiet w (values.Bool b) (pure false) (done_quiet w false)
  deletes_quiet w (values.Text t) name = holder_quiet w (values.Text t) (pure false) (done_quiet w false)
  deletes_quiet w (values.Space n) name = holder_quiet w (values.Space n) (pure false) (done_quiet w false)

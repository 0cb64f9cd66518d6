-- Values that stand at places of objects.
use Rattle.std.proofs.Common.{◌≡◌, ℕ, ◌<◌, List, length, refl, sym, ap, ◌∙◌, subst}
use Rattle.std.proofs.lemmas.Option.{slice_get_within}
use Rattle.std.specs.Prelude.{pos, slice_get, Some, None}
use Rattle.std.specs.declared.option.Option.{Option}
use Rattle.abc_heap_values.specs.declared.values.ObjId.{ObjId}
use Rattle.abc_heap_values.specs.declared.values.Value.{Value}
use Rattle.abc_heap_values.specs.declared.values.Value.TheVariants.{Num, Obj}
use Rattle.abc_base.specs.declared.names.HostClass.TheVariants as hosts
use Rattle.abc_heap_store.specs.Heap.{Object, object_at}
use Rattle.abc_heap_store.specs.declared.records.What.TheVariants as whats
use Rattle.abc_objects.specs.Stands.{ObjectStands, StandsOver}
use Rattle.abc_objects.specs.Values.{Exists}
use Rattle.abc_objects.proofs.Reshaped.{object_there}
use Rattle.abc_link_names.specs.Linked.{LinkedFile}
use Rattle.abc_link_names.specs.declared.types.Owner.{Owner}
use Rattle.abc_run_state.specs.Stops.{IsOpen}
use Rattle.abc_meaning.specs.Members.{value_at_place, bound_function}
use Rattle.abc_meaning.specs.Objects.{Place, new_of_host, place_of_owner}
use Rattle.abc_meaning.specs.Setting.{Setting}
use Rattle.abc_meaning.specs.World.{Outcome, Run, Stopped, Went, World, and_then, pure, object_named, some, the, ◌>>=◌}
use Rattle.abc_run_members.specs.Members.{length_on}

-- an object that is asked is there
pub object_open : {X : Type 0} (o : ObjId) (f : Object → Run X) (w : World) → IsOpen (and_then (the (object_named o) w) f) → slice_get w.heap.objects o.0 ≡ Some (object_at w.heap.objects o.0)
object_open {X = X} o f w h = go (slice_get w.heap.objects o.0) refl h
  where
    go : (r : Option Object) → slice_get w.heap.objects o.0 ≡ r → IsOpen (and_then (some r w) f) → slice_get w.heap.objects o.0 ≡ Some (object_at w.heap.objects o.0)
    go None e g = absurd g
    go (Some ob) e g = e ∙ ap Some (sym (object_there w.heap.objects o.0 ob e))

pub object_inner : {X : Type 0} (o : ObjId) (f : Object → Run X) (w : World) → IsOpen (and_then (the (object_named o) w) f) → o.0 < length w.heap.objects
object_inner o f w h = slice_get_within w.heap.objects o.0 (object_at w.heap.objects o.0) (object_open o f w h)

pub place_open : (which : Object → List Value) (o : ObjId) (k : ℕ) (w : World) → IsOpen (value_at_place which o k w) → k < length (which (object_at w.heap.objects o.0))
place_open which o k w h =
    let is = object_open o (λ ob. some (slice_get (which ob) k)) w h in
    go (slice_get (which (object_at w.heap.objects o.0)) k) refl (subst (λ (r : Option Object). IsOpen (and_then (some r w) (λ ob. some (slice_get (which ob) k)))) is h)
  where
    go : (r : Option Value) → slice_get (which (object_at w.heap.objects o.0)) k ≡ r → IsOpen (some r w) → k < length (which (object_at w.heap.objects o.0))
    go None e g = absurd g
    go (Some x) e g = slice_get_within (which (object_at w.heap.objects o.0)) k x e

pub place_is : (which : Object → List Value) (o : ObjId) (k : ℕ) (x : Value) (w : World) → IsOpen (value_at_place which o k w) → slice_get (which (object_at w.heap.objects o.0)) k ≡ Some x → value_at_place which o k w ≡ Went w x
place_is which o k x w h e =
    ap (λ (r : Option Object). and_then (some r w) (λ ob. some (slice_get (which ob) k))) (object_open o (λ ob. some (slice_get (which ob) k)) w h)
    ∙ ap (λ (r : Option Value). some r w) e

stands : (l : LinkedFile) (o : ObjId) (w : World) (which : Object → List Value) (k : ℕ) → StandsOver l w.heap → IsOpen (value_at_place which o k w) → ObjectStands l w.heap o.0 (object_at w.heap.objects o.0)
stands l o w which k over h = over.objects o.0 (object_at w.heap.objects o.0) (object_open o (λ ob. some (slice_get (which ob) k)) w h)

pub slot_there : (l : LinkedFile) (o : ObjId) (k : ℕ) (x : Value) (w : World) → StandsOver l w.heap → IsOpen (value_at_place (λ ob. ob.slots) o k w) → slice_get (object_at w.heap.objects o.0).slots k ≡ Some x → Exists l w.heap x
slot_there l o k x w over h e = (stands l o w (λ ob. ob.slots) k over h).slot_values k x e

pub element_there : (l : LinkedFile) (o : ObjId) (k : ℕ) (x : Value) (w : World) → StandsOver l w.heap → IsOpen (value_at_place (λ ob. ob.elements) o k w) → slice_get (object_at w.heap.objects o.0).elements k ≡ Some x → Exists l w.heap x
element_there l o k x w over h e = (stands l o w (λ ob. ob.elements) k over h).element_values k x e

pub length_is : (o : ObjId) (w : World) → IsOpen (length_on o w) → length_on o w ≡ Went w (Num (pos (length (object_at w.heap.objects o.0).elements)))
length_is o w h = ap (λ (r : Option Object). and_then (some r w) (λ ob. pure (Num (pos (length ob.elements))))) (object_open o (λ ob. pure (Num (pos (length ob.elements)))) w h)

-- ---- a function that is bound

pub bound_open : (p : Setting) (owner : Owner) (m : ℕ) (o : ObjId) (w : World) → IsOpen (bound_function p owner m o w) → IsOpen (place_of_owner owner w)
bound_open p owner m o w h = go (place_of_owner owner w) h
  where
    go : (r : Outcome Place) → IsOpen (and_then r (λ at. new_of_host p hosts.Function (whats.Closure m at.home at.saved (Some o)) >>= λ f. pure (Obj f))) → IsOpen r
    go (Went n at) g = tt
    go (Stopped n why) g = g

pub bound_is : (p : Setting) (owner : Owner) (m : ℕ) (at : Place) (o : ObjId) (w : World) (r : Outcome ObjId) → place_of_owner owner w ≡ Went w at → new_of_host p hosts.Function (whats.Closure m at.home at.saved (Some o)) w ≡ r
    → bound_function p owner m o w ≡ and_then r (λ f. pure (Obj f))
bound_is p owner m at o w r e made =
    ap (λ (q : Outcome Place). and_then q (λ at. new_of_host p hosts.Function (whats.Closure m at.home at.saved (Some o)) >>= λ f. pure (Obj f))) e
    ∙ ap (λ (q : Outcome ObjId). and_then q (λ f. pure (Obj f))) made

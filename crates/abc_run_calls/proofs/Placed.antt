-- Where a class object keeps that its methods run.
use Rattle.std.proofs.Common.{◌≡◌, ℕ, zero, suc, ◌<◌, ◌≤◌, List, [], ◌∷◌, inl, inr, length, get_or, refl, sym, ap, ◌∙◌, subst}
use Rattle.std.specs.Prelude.{None, Some, slice_get}
use Rattle.std.specs.declared.option.Option.{Option}
use Rattle.std.proofs.lemmas.Bool.{cases_lt}
use Rattle.std.proofs.lemmas.Option.{slice_get_past}
use Rattle.abc_heap_values.proofs.Parts.{slice_get_some}
use Rattle.abc_heap_values.specs.declared.values.ObjId.{ObjId}
use Rattle.abc_heap_store.specs.Heap.{Object, object_at}
use Rattle.abc_heap_store.specs.declared.records.ScopeId.{ScopeId}
use Rattle.abc_heap_store.specs.declared.records.What.{What}
use Rattle.abc_heap_store.specs.declared.records.What.TheVariants as whats
use Rattle.abc_objects.proofs.Reshaped.{object_there}
use Rattle.abc_run_state.specs.Stops.{IsOpen}
use Rattle.abc_meaning.specs.Objects.{Place, class_object, flat_value, instances_of, place_kept_by, statics_of}
use Rattle.abc_meaning.specs.World.{Outcome, Run, World, and_then, object_named, some, the, ◌>>=◌}
use Rattle.abc_run_calls.proofs.Opened.{some_is}

abbrev Keeps : Type 0
Keeps = What → Option Place

-- of an object
abbrev kept_in : Keeps → Object → Run Place
kept_in which ob = some (which ob.what)

abbrev kept_at : Keeps → ObjId → Run Place
kept_at which o = the (object_named o) >>= kept_in which

-- ---- the class object is there

pub class_counted : (which : Keeps) (k : ℕ) (w : World) → IsOpen (place_kept_by which k w) → k < length w.heap.classes
class_counted which k w h = elim (cases_lt k (length w.heap.classes)) [ inl lt ↦ lt | inr ge ↦ absurd (past ge) ]
  where
    past : length w.heap.classes ≤ k → ⊥
    past ge = subst (λ (x : Option (Option ObjId)). IsOpen (and_then (some (flat_value x) w) (kept_at which))) (slice_get_past w.heap.classes k ge) h

flat_is : (os : List (Option ObjId)) (k : ℕ) → flat_value (slice_get os k) ≡ get_or os k None
flat_is [] k = refl
flat_is (o ∷ os) zero = refl
flat_is (o ∷ os) (suc k) = flat_is os k

class_found : (which : Keeps) (k : ℕ) (w : World) (o : ObjId) → Some o ≡ get_or w.heap.classes k None → place_kept_by which k w ≡ kept_at which o w
class_found which k w o e = some_is (class_object k w) o (kept_at which) w (flat_is w.heap.classes k ∙ sym e)

-- ---- and is an object

pub class_inside : (which : Keeps) (k : ℕ) (w : World) (o : ObjId) → Some o ≡ get_or w.heap.classes k None → IsOpen (place_kept_by which k w) → o.0 < length w.heap.objects
class_inside which k w o e h = elim (cases_lt o.0 (length w.heap.objects)) [ inl lt ↦ lt | inr ge ↦ absurd (past ge) ]
  where
    past : length w.heap.objects ≤ o.0 → ⊥
    past ge =
        subst (λ (x : Option Object). IsOpen (and_then (some x w) (kept_in which))) (slice_get_past w.heap.objects o.0 ge)
        (subst (λ (r : Outcome Place). IsOpen r) (class_found which k w o e) h)

pub kept_is : (which : Keeps) (k : ℕ) (w : World) (o : ObjId) (what : What) → Some o ≡ get_or w.heap.classes k None → o.0 < length w.heap.objects → what ≡ (object_at w.heap.objects o.0).what → place_kept_by which k w ≡ some (which what) w
kept_is which k w o what e lt is =
    let there = slice_get_some w.heap.objects o.0 lt in
    let same : what ≡ there.0.what = is ∙ ap (λ (ob : Object). ob.what) (object_there w.heap.objects o.0 there.0 there.1) in
    class_found which k w o e ∙ some_is (object_named o w) there.0 (kept_in which) w there.1 ∙ ap (λ x. some (which x) w) (sym same)

-- ---- it is a class object

-- an object that is none of these keeps nothing
abbrev pub IsOther : What → Type 0
IsOther what = (class home : ℕ) (statics : Option ScopeId) (instances : ScopeId) → what ≡ whats.ClassObject class home statics instances → ⊥

pub no_statics : (what : What) (w : World) → IsOther what → IsOpen (some (statics_of what) w) → ⊥
no_statics (whats.ClassObject class home statics instances) w other h = other class home statics instances refl
no_statics whats.Plain w other h = h
no_statics (whats.Closure m s c o) w other h = h
no_statics (whats.HostClass c) w other h = h
no_statics whats.Trace w other h = h
no_statics (whats.Formula n) w other h = h
no_statics whats.HostObject w other h = h
no_statics (whats.Global s) w other h = h
no_statics whats.Activation w other h = h
no_statics whats.Catch w other h = h
no_statics whats.Array w other h = h

pub no_instances : (what : What) (w : World) → IsOther what → IsOpen (some (instances_of what) w) → ⊥
no_instances (whats.ClassObject class home statics instances) w other h = other class home statics instances refl
no_instances whats.Plain w other h = h
no_instances (whats.Closure m s c o) w other h = h
no_instances (whats.HostClass c) w other h = h
no_instances whats.Trace w other h = h
no_instances (whats.Formula n) w other h = h
no_instances whats.HostObject w other h = h
no_instances (whats.Global s) w other h = h
no_instances whats.Activation w other h = h
no_instances whats.Catch w other h = h
no_instances whats.Array w other h = h

-- What a value is that is called, or of which `new` makes something.
use Rattle.std.proofs.Common.{◌≡◌, ℕ, ◌<◌, List, length, sym, ap, ◌∙◌, subst}
use Rattle.std.specs.declared.option.Option.{Option}
use Rattle.abc_base.specs.declared.names.HostClass.{HostClass}
use Rattle.abc_heap_values.specs.declared.values.ObjId.{ObjId}
use Rattle.abc_heap_values.specs.declared.values.Value.{Value}
use Rattle.abc_heap_values.specs.declared.values.Value.TheVariants as values
use Rattle.abc_heap_store.specs.Heap.{Heap, object_at}
use Rattle.abc_heap_store.specs.declared.records.ScopeId.{ScopeId}
use Rattle.abc_heap_store.specs.declared.records.What.{What}
use Rattle.abc_heap_store.specs.declared.records.What.TheVariants as whats
use Rattle.abc_run_state.proofs.Things.{object_is}
use Rattle.abc_objects.specs.Stands.{NamesParts, StandsOver}
use Rattle.abc_link_names.specs.Linked.{LinkedFile}
use Rattle.abc_link_names.specs.declared.types.Ty.{Ty}
use Rattle.abc_frames.specs.Frame.{Frame}
use Rattle.abc_run_state.specs.declared.state.How.{How}
use Rattle.abc_meaning.specs.Calling.{calls, calls_what, this_of}
use Rattle.abc_meaning.specs.Making.{new, new_what}
use Rattle.abc_meaning.specs.Objects.{place}
use Rattle.abc_meaning.specs.Setting.{Setting, type_of_host}
use Rattle.abc_meaning.specs.World.{World, object_named}
use Rattle.abc_run_calls.proofs.Opened.{some_is}
use Rattle.abc_run_calls.specs.Calls.{calls_object, coerces_only, enters_settled}

-- ---- an object, by what it is

pub called_is : (p : Setting) (o : ObjId) (what : What) (v receiver : Value) (args : List Value) (w : World) → v ≡ values.Obj o → o.0 < length w.heap.objects → what ≡ (object_at w.heap.objects o.0).what → calls p v receiver args w ≡ calls_what p what receiver args w
called_is p o what v receiver args w e lt is =
    ap (λ x. calls p x receiver args w) e
    ∙ some_is (object_named o w) (object_at w.heap.objects o.0) (λ ob. calls_what p ob.what receiver args) w (object_is w.heap.objects o.0 lt)
    ∙ ap (λ x. calls_what p x receiver args w) (sym is)

pub made_of_is : (p : Setting) (o : ObjId) (what : What) (v : Value) (args : List Value) (w : World) → v ≡ values.Obj o → o.0 < length w.heap.objects → what ≡ (object_at w.heap.objects o.0).what → new p v args w ≡ new_what p o what args w
made_of_is p o what v args w e lt is =
    ap (λ x. new p x args w) e
    ∙ some_is (object_named o w) (object_at w.heap.objects o.0) (λ ob. new_what p o ob.what args) w (object_is w.heap.objects o.0 lt)
    ∙ ap (λ x. new_what p o x args w) (sym is)

-- what it names is there
pub what_names : (l : LinkedFile) (h : Heap) (o : ℕ) (what : What) → StandsOver l h → o < length h.objects → what ≡ (object_at h.objects o).what → NamesParts l h what
what_names l h o what s lt is = subst (λ (x : What). NamesParts l h x) (sym is) (s.objects o (object_at h.objects o) (object_is h.objects o lt)).what

-- ---- a function, or a class of the host

pub function_called : (p : Setting) (what : What) (receiver this : Value) (m home : ℕ) (scope : Option ScopeId) (bound : Option ObjId) (count : ℕ) (how : How) (f : Frame) (w : World) → what ≡ whats.Closure m home scope bound → this ≡ this_of bound home receiver w
    → calls_object p what receiver count how f w ≡ enters_settled p m this (place home scope) count how f w
function_called p what receiver this m home scope bound count how f w e t =
    ap (λ x. calls_object p x receiver count how f w) e ∙ ap (λ (v : Value). enters_settled p m v (place home scope) count how f w) (sym t)

pub host_called : (p : Setting) (what : What) (receiver : Value) (c : HostClass) (t : Ty) (count : ℕ) (how : How) (f : Frame) (w : World) → what ≡ whats.HostClass c → t ≡ type_of_host p c → calls_object p what receiver count how f w ≡ coerces_only p t count how f w
host_called p what receiver c t count how f w e is =
    ap (λ x. calls_object p x receiver count how f w) e ∙ ap (λ (x : Ty). coerces_only p x count how f w) (sym is)

-- What the calls answer that make a class object and that write a property.
use Rattle.std.specs.Prelude.{ℕ, ◌+◌, List, length, MatchResult}
use Rattle.std.specs.declared.option.Option.{Option}
use Rattle.std.specs.declared.result.Result.{Result}
use Rattle.abc_base.specs.declared.names.HostClass.TheVariants as hosts
use Rattle.abc_heap_values.specs.declared.values.ObjId.{ObjId}
use Rattle.abc_heap_values.specs.declared.values.Span.{Span}
use Rattle.abc_heap_values.specs.declared.values.Value.{Value}
use Rattle.abc_heap_store.specs.Changes.{IsClassMade, with_object}
use Rattle.abc_heap_store.specs.Heap.{FitsCells, Heap, IsFull, IsFullOf, cells_used}
use Rattle.abc_heap_store.specs.Properties.{cells_to_put, place_of_property, with_put}
use Rattle.abc_heap_store.specs.Texts.{text_of}
use Rattle.abc_heap_store.specs.declared.records.Full.{Full}
use Rattle.abc_heap_store.specs.declared.records.Limit.TheVariants.{Cells}
use Rattle.abc_heap_store.specs.declared.records.ScopeEntry.{ScopeEntry}
use Rattle.abc_heap_store.specs.declared.records.ScopeId.{ScopeId}
use Rattle.abc_link_names.specs.Linked.{LinkedFile}
use Rattle.abc_objects.specs.Stands.{class_object_layout, class_parts, host_layout}
use Rattle.abc_objects.specs.Starts.{start_values}

-- a class object and its prototype are made, or there is no room for both
abbrev pub MakesClass : LinkedFile → (class home : ℕ) → (base_prototype delegate : Option ObjId) → Option ScopeId → List ScopeEntry → (old new : Heap) → Result ObjId Full → Type 0
MakesClass l class home base_prototype delegate saved scopes old new result =
    let prototype = start_values l (host_layout l hosts.Object) in
    let own = start_values l (class_object_layout l class) in
    MatchResult result
    (λ o. IsClassMade old new o prototype own (class_parts l class home base_prototype delegate) saved scopes)
    (λ e. IsFullOf old new 2 (length prototype + length own + length scopes + 1) e)

-- an own property of this text takes the value, or one is made; or there is no cell for it
abbrev pub PutsProperty : {A : Type 0} → List (List ℕ) → ObjId → Span → Value → (old new : Heap) → Result A Full → Type 0
PutsProperty strings o name v old new result =
    let text = text_of strings old in
    let need = cells_to_put (place_of_property strings old o.0 name) in
    MatchResult result
    (λ _. FitsCells old new need (with_object (with_put text (text name) name v) o.0 old))
    (λ e. IsFull old new (cells_used old) need old.limits.cells Cells e)

-- The opening heap: what every run begins with (profile: docs/MACHINE.md, "Heap and room").
use Rattle.std.specs.Prelude.{◌≡◌, ℕ, ◌+◌, ◌<◌, ◌≤◌, List, [], ◌∷◌, ◌++◌, length, map, codes, replicate, Option, Some, None, option_map, false}
use Rattle.std.specs.List.{concat, range_with_len, sum}
use Rattle.abc_base.specs.Names.{class_name, host_classes}
use Rattle.abc_base.specs.declared.formula.Formula.{Formula}
use Rattle.abc_base.specs.declared.names.HostClass.{HostClass}
use Rattle.abc_base.specs.declared.names.HostClass.TheVariants as hosts
use Rattle.abc_heap_values.specs.declared.values.ObjId.{ObjId}
use Rattle.abc_heap_values.specs.declared.values.Span.{Span}
use Rattle.abc_heap_values.specs.declared.values.Value.{Value}
use Rattle.abc_heap_values.specs.declared.values.Value.TheVariants as values
use Rattle.abc_heap_store.specs.Changes.{bare_object, with_more_slots, with_slot}
use Rattle.abc_heap_store.specs.Heap.{Heap, Object, obj_id}
use Rattle.abc_heap_store.specs.declared.records.Limit.{Limit}
use Rattle.abc_heap_store.specs.declared.records.Limit.TheVariants.{Objects, Cells, Text, Frames, Stack}
use Rattle.abc_heap_store.specs.declared.records.Limits.{Limits}
use Rattle.abc_heap_store.specs.declared.records.ScopeNode.{ScopeNode}
use Rattle.abc_heap_store.specs.declared.records.What.{What}
use Rattle.abc_heap_store.specs.declared.records.What.TheVariants as whats
use Rattle.abc_objects.specs.Fixed.{fixed_bytes, in_fixed}
use Rattle.abc_objects.specs.Starts.{start_values}
use Rattle.abc_objects.specs.declared.error.OpenError.{OpenError}
use Rattle.abc_objects.specs.declared.error.OpenError.TheVariants as errors
use Rattle.abc_link_names.specs.Linked.{LinkedFile, layout_of}
use Rattle.abc_link_names.specs.Places.{host_number}
use Rattle.abc_link_names.specs.Slots.{slots_of}
use Rattle.abc_link_names.specs.declared.part.Part.{Part}
use Rattle.abc_link_names.specs.declared.part.Part.TheVariants as parts

-- the names of the host's formulas
abbrev pub formula_names : List Formula → List (List ℕ)
formula_names formulas = map (λ f. f.name) formulas

-- ---- part 0: the fixed texts, and then the names of the host object's properties

-- the names of the host object's properties: the classes of the host, trace, and the formulas, whose names are given
abbrev pub property_names : List (List ℕ) → List (List ℕ)
property_names formulas = map class_name host_classes ++ codes "trace" ∷ formulas

abbrev pub part_zero : List (List ℕ) → List ℕ
part_zero formulas = fixed_bytes ++ concat (property_names formulas)

-- the spans of texts that stand there one after the other, from a place on
abbrev pub spans_from : ℕ → List (List ℕ) → List Span
spans_from at [] = []
spans_from at (t ∷ ts) = in_fixed at (length t) ∷ spans_from (at + length t) ts

-- ---- ids

abbrev pub prototype_id : HostClass → ObjId
prototype_id c = obj_id (host_number c)

-- the number of the host object, where there are so many formulas
abbrev pub opening_host_object : ℕ → ℕ
opening_host_object formulas = 29 + formulas

-- the number of a script's global object, where there are so many formulas
abbrev pub opening_global_number : ℕ → ℕ → ℕ
opening_global_number formulas script = 30 + formulas + script

-- ---- objects

-- an object of a part, which has the prototype of a class of the host as its delegate
abbrev pub opening_object : LinkedFile → Part → Option HostClass → What → Object
opening_object l part parent what = with_more_slots (start_values l (layout_of l part).0) (bare_object (layout_of l part).0 (option_map prototype_id parent) what)

-- the class whose prototype is the delegate of a class's prototype
abbrev pub above_host : HostClass → Option HostClass
above_host hosts.Object = None
above_host hosts.TypeError = Some hosts.Error
above_host hosts.ReferenceError = Some hosts.Error
above_host hosts.ArgumentError = Some hosts.Error
above_host other = Some hosts.Object

abbrev pub prototype_object : LinkedFile → HostClass → Object
prototype_object l c = opening_object l (parts.Host hosts.Object) (above_host c) whats.Plain

-- a class object of the host, whose first slot holds the prototype
abbrev pub host_class_object : LinkedFile → HostClass → Object
host_class_object l c = with_slot 0 (values.Obj (prototype_id c)) (opening_object l (parts.HostClassObject c) (Some hosts.Class) (whats.HostClass c))

abbrev pub function_object : LinkedFile → What → Object
function_object l what = opening_object l (parts.Host hosts.Function) (Some hosts.Function) what

abbrev pub formula_objects : LinkedFile → ℕ → List Object
formula_objects l formulas = map (λ n. function_object l (whats.Formula n)) (range_with_len 0 formulas)

-- trace, and then the formulas
abbrev pub function_objects : LinkedFile → ℕ → List Object
function_objects l formulas = function_object l whats.Trace ∷ formula_objects l formulas

-- properties of some names that hold objects which stand one after the other
abbrev pub host_properties : ℕ → List Span → List (Option (Span × Value))
host_properties o [] = []
host_properties o (s ∷ ss) = Some (s, values.Obj (obj_id o)) ∷ host_properties (o + 1) ss

-- its properties are the class objects, trace and the formulas, which stand from number 14 on
abbrev pub host_object : LinkedFile → List (List ℕ) → Object
host_object l names =
    let plain = opening_object l (parts.Host hosts.Object) (Some hosts.Object) whats.HostObject in
    record plain { properties = host_properties 14 (spans_from (length fixed_bytes) names) }

-- the global object of script s, as it is at opening
abbrev pub global_object : LinkedFile → ℕ → Object
global_object l s = opening_object l (parts.Global s) (Some hosts.Object) (whats.Global s)

-- the entry of an object alone
abbrev pub entry_of : ℕ → ScopeNode
entry_of o = record { entry = record { object = obj_id o; with_flag = false }; parent = None }

-- ---- the heap

abbrev pub opening_objects : LinkedFile → List (List ℕ) → List Object
opening_objects l formulas =
    map (prototype_object l) host_classes
    ++ map (host_class_object l) host_classes
    ++ function_objects l (length formulas)
    ++ host_object l (property_names formulas) ∷ []
    ++ map (global_object l) (range_with_len 0 (length l.file.scripts))

-- one entry for each global object
abbrev pub opening_scopes : LinkedFile → ℕ → List ScopeNode
opening_scopes l formulas = map (λ s. entry_of (opening_global_number formulas s)) (range_with_len 0 (length l.file.scripts))

abbrev pub opening : LinkedFile → List (List ℕ) → Limits → Heap
opening l formulas limits = record {
  objects = opening_objects l formulas;
  scopes = opening_scopes l (length formulas);
  fixed = part_zero formulas;
  made = [];
  formulas = formulas;
  strings = l.file.strings;
  classes = replicate (length l.file.instances) None;
  frames = 0;
  stack = 0;
  limits = limits;
}

-- ---- how much there is at opening

-- the slots of the global object of a script
abbrev pub slot_count : LinkedFile → ℕ → ℕ
slot_count l s = length (slots_of l (layout_of l (parts.Global s)).0)

abbrev pub slot_counts : LinkedFile → ℕ → List ℕ
slot_counts l scripts = map (slot_count l) (range_with_len 0 scripts)

-- the slots of all global objects
abbrev pub global_slots : LinkedFile → ℕ
global_slots l = sum (slot_counts l (length l.file.scripts))

-- how many objects and cells there are at opening, where there are so many formulas
abbrev pub opening_counts : LinkedFile → ℕ → Limits
opening_counts l formulas = record {
  objects = 30 + formulas + length l.file.scripts;
  cells = 29 + formulas + length l.file.scripts + global_slots l;
  text = 0;
  frames = 0;
  stack = 0;
}

-- what there is at opening is within the limits
abbrev pub IsOpeningWithin : Limits → Limits → Type 0
IsOpeningWithin counts limits = (counts.objects ≤ limits.objects) × (counts.cells ≤ limits.cells)

-- it passes a limit: the objects are tested first
abbrev pub PassesAtOpening : Limits → Limits → Limit → Type 0
PassesAtOpening counts limits Objects = limits.objects < counts.objects
PassesAtOpening counts limits Cells = (counts.objects ≤ limits.objects) × (limits.cells < counts.cells)
PassesAtOpening counts limits Text = ⊥
PassesAtOpening counts limits Frames = ⊥
PassesAtOpening counts limits Stack = ⊥

-- why no heap is opened: for want of memory, or since what there is at opening passes a limit
abbrev pub IsUnopened : Limits → Limits → OpenError → Type 0
IsUnopened counts limits errors.NoMemory = Unit {0}
IsUnopened counts limits (errors.TooSmall which) = PassesAtOpening counts limits which

-- the heap is the opening one of a linked file, of formulas with these names and of limits, and it is within the limits
abbrev pub IsHeapOpened : LinkedFile → List (List ℕ) → Limits → Heap → Type 0
IsHeapOpened l formulas limits h = IsOpeningWithin (opening_counts l (length formulas)) limits × (h ≡ opening l formulas limits)

-- ---- steps of the opening

-- more objects at the end
abbrev pub with_objects : List Object → Heap → Heap
with_objects obs h = record h { objects = h.objects ++ obs }

abbrev pub with_more_properties : List (Option (Span × Value)) → Object → Object
with_more_properties ps ob = record ob { properties = ob.properties ++ ps }

-- global objects, each with its entry
abbrev pub with_globals : LinkedFile → ℕ → Heap → Heap
with_globals l scripts h = record h {
  objects = h.objects ++ map (global_object l) (range_with_len 0 scripts);
  scopes = h.scopes ++ map (λ s. entry_of (length h.objects + s)) (range_with_len 0 scripts);
}

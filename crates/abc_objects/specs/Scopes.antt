-- The places of a search in scopes, in order, and which of them have a name (Overview, chapter 3; profile: docs/MACHINE.md, "The search").
use Rattle.std.specs.Prelude.{ℕ, List, [], ◌∷◌, ◌++◌, Bool, false, map, reverse, Some, None, get_or, length, if◌then◌else◌}
use Rattle.std.specs.declared.option.Option.{Option}
use Rattle.std.specs.List.{list_any, range_with_len}
use Rattle.abc_base_graphs.specs.Ways.{way}
use Rattle.abc_heap_store.specs.Heap.{Heap, object_at, obj_id}
use Rattle.abc_heap_store.specs.declared.records.ScopeEntry.{ScopeEntry}
use Rattle.abc_heap_store.specs.declared.records.ScopeId.{ScopeId}
use Rattle.abc_heap_store.specs.declared.records.ScopeNode.{ScopeNode}
use Rattle.abc_heap_store.specs.declared.records.What.{What}
use Rattle.abc_heap_store.specs.declared.records.What.TheVariants as whats
use Rattle.abc_link_names.specs.Linked.{LinkedFile}
use Rattle.abc_objects.specs.Candidates.{Candidate, fits, own_things, property_candidates, things_along, traits_of_object, where_public}
use Rattle.abc_objects.specs.Objects.{global_number, host_object_number}
use Rattle.abc_objects.specs.declared.found.ScopeFound.{ScopeFound}
use Rattle.abc_objects.specs.declared.found.ScopeFound.TheVariants as results
use Rattle.abc_objects.specs.declared.name.Name.{Name}

pub data ScopePlace : Type 0 where
  InScope : ScopeEntry → ScopePlace
  InScript : (script : ℕ) → ScopePlace
  InHost : ScopePlace

-- ---- what is searched at a place

-- a global object's delegates are searched too
abbrev pub global_things : Heap → ℕ → What → List Candidate
global_things h o (whats.Global s) = things_along h (Some o)
global_things h o other = []

-- of a with scope the own things, of a global object those of its delegates too, of any other none
abbrev pub scope_things : Heap → ScopeEntry → List Candidate
scope_things h e = if e.with_flag then own_things h e.object.0 else global_things h e.object.0 (object_at h.objects e.object.0).what

-- the host object has dynamic properties alone
abbrev pub candidates_at : LinkedFile → Heap → Name → ScopePlace → List Candidate
candidates_at l h n (InScope e) = traits_of_object l h e.object.0 ++ where_public l n (scope_things h e)
candidates_at l h n (InScript s) = traits_of_object l h (global_number h s)
candidates_at l h n InHost = where_public l n (property_candidates (host_object_number h) (object_at h.objects (host_object_number h)))

-- nothing is passed over
abbrev pub has : LinkedFile → Heap → Name → ScopePlace → Bool
has l h n p = list_any (fits l h n) (candidates_at l h n p)

-- ---- the places in order

abbrev pub no_node : ScopeNode
no_node = record { entry = record { object = obj_id 0; with_flag = false }; parent = None }

abbrev pub node_at : Heap → ℕ → ScopeNode
node_at h s = get_or h.scopes s no_node

abbrev pub scope_number : Option ScopeId → Option ℕ
scope_number None = None
scope_number (Some s) = Some s.0

abbrev pub parent_at : Heap → ℕ → Option ℕ
parent_at h s = scope_number (node_at h s).parent

-- the saved scope and those below it
abbrev pub saved_places : Heap → Option ScopeId → List ScopePlace
saved_places h saved = map (λ s. InScope (node_at h s).entry) (way (parent_at h) (scope_number saved))

-- local scopes from the top down, saved ones down, the scripts in order, and the host object
abbrev pub scope_places : LinkedFile → Heap → List ScopeEntry → Option ScopeId → List ScopePlace
scope_places l h scopes saved = map InScope (reverse scopes) ++ (saved_places h saved ++ (map InScript (range_with_len 0 (length l.file.scripts)) ++ InHost ∷ []))

-- ---- what is found: the object of the first place that has the name; a script that was not started is to be started

abbrev pub scope_named : Heap → List Bool → Option ScopePlace → ScopeFound
scope_named h started (Some (InScope e)) = results.Object e.object
scope_named h started (Some (InScript s)) = if get_or started s false then results.Object (obj_id (global_number h s)) else results.Start s
scope_named h started (Some InHost) = results.Object (obj_id (host_object_number h))
scope_named h started None = results.Missing

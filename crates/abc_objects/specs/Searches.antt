-- The three searches. Each answers the first of its candidates that fits (Overview, chapters 2 and 3; profile: docs/MACHINE.md, "The search").
use Rattle.std.specs.Prelude.{ℕ, List, Bool}
use Rattle.std.specs.declared.option.Option.{Option}
use Rattle.std.specs.List.{find}
use Rattle.abc_heap_values.specs.declared.values.Value.{Value}
use Rattle.abc_heap_store.specs.Heap.{Heap}
use Rattle.abc_heap_store.specs.declared.records.ScopeEntry.{ScopeEntry}
use Rattle.abc_heap_store.specs.declared.records.ScopeId.{ScopeId}
use Rattle.abc_link_names.specs.Linked.{LinkedFile}
use Rattle.abc_objects.specs.Candidates.{answer_of_search, candidates_on, traits}
use Rattle.abc_objects.specs.Results.{skip_for}
use Rattle.abc_objects.specs.Scopes.{has, scope_places, scope_named}
use Rattle.abc_objects.specs.declared.found.Found.{Found}
use Rattle.abc_objects.specs.declared.found.ScopeFound.{ScopeFound}
use Rattle.abc_objects.specs.declared.found.Want.{Want}
use Rattle.abc_objects.specs.declared.name.Name.{Name}

-- among the declared traits of a layout and its bases, for an object of a layout that is this one or stands under it
unfoldable pub declared_found : LinkedFile → Heap → (object from : ℕ) → Name → Want → Found
declared_found l h object from n want = answer_of_search l h n (skip_for want) (traits l object from)

-- on a value that is not null or undefined
unfoldable pub found_on : LinkedFile → Heap → Value → Name → Want → Found
found_on l h v n want = answer_of_search l h n (skip_for want) (candidates_on l h n v)

-- in scopes; nothing is passed over
unfoldable pub found_in_scopes : LinkedFile → Heap → List ScopeEntry → Option ScopeId → List Bool → Name → ScopeFound
found_in_scopes l h scopes saved started n = scope_named h started (find (has l h n) (scope_places l h scopes saved))

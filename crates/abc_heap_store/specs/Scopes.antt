-- The nodes of a captured scope stack: each names the one below it (profile: docs/MACHINE.md, "Heap and room").
use Rattle.std.specs.Prelude.{ℕ, ◌+◌, List, [], ◌∷◌, Option, Some}
use Rattle.abc_heap_store.specs.declared.records.ScopeId.{ScopeId}
use Rattle.abc_heap_store.specs.declared.records.ScopeEntry.{ScopeEntry}
use Rattle.abc_heap_store.specs.declared.records.ScopeNode.{ScopeNode}

abbrev pub scope_id : ℕ → ScopeId
scope_id n = record { 0 = n }

-- the nodes of scope entries, bottom first; `at` is the number of the first of them, `below` the node under it
abbrev pub nodes : ℕ → Option ScopeId → List ScopeEntry → List ScopeNode
nodes at below [] = []
nodes at below (e ∷ es) = (record { entry = e; parent = below }) ∷ nodes (at + 1) (Some (scope_id at)) es

-- the number of the topmost of these nodes; `below` where there is none
abbrev pub top_of_scopes : ℕ → Option ScopeId → List ScopeEntry → Option ScopeId
top_of_scopes at below [] = below
top_of_scopes at below (e ∷ es) = top_of_scopes (at + 1) (Some (scope_id at)) es

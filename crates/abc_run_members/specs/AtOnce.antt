-- The element that a number names, and what becomes of the operands of a call.
use Rattle.std.specs.Prelude.{◌≡◌, ℕ, ◌<◌, ◌≤◌, pos, length, Bool, true, false}
use Rattle.abc_heap_values.specs.declared.values.ObjId.{ObjId}
use Rattle.abc_heap_values.specs.declared.values.Value.{Value}
use Rattle.abc_heap_values.specs.declared.values.Value.TheVariants.{Num}
use Rattle.abc_heap_store.specs.Heap.{Heap, elements_of, object_at}
use Rattle.abc_heap_store.specs.What.{is_array}
use Rattle.abc_lookup.specs.NoTraits.{HasNoTraits}
use Rattle.abc_link_names.specs.Linked.{LinkedFile}
use Rattle.abc_objects.specs.Candidates.{layout_at}
use Rattle.abc_objects.specs.Spaces.{name_holds_public}
use Rattle.abc_objects.specs.declared.name.Spaces.{Spaces}
use Rattle.abc_run_state.specs.declared.state.How.{How}
use Rattle.abc_run_state.specs.declared.state.How.TheVariants.{Drop, Push}

-- an array without traits has the element of a number, and names of these namespaces find what is public
pub record TellsElement (l : LinkedFile) (h : Heap) (of : Spaces) (o : ObjId) (asked : Value) (k : ℕ) : Type 0 where
  pub number : asked ≡ Num (pos k)
  pub few : k ≤ 4294967294
  pub there : k < length (elements_of h.objects o.0)
  pub array : is_array (object_at h.objects o.0).what ≡ true
  pub bare : HasNoTraits l (layout_at h o.0)
  pub public : name_holds_public l of ≡ true

-- what becomes of so many operands, which a call takes
abbrev pub how_for : (drops : Bool) → ℕ → How
how_for true taken = Drop taken
how_for false taken = Push taken

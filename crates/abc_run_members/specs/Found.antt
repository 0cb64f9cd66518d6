-- What a name finds: among the scopes of a frame, and above a class.
use Rattle.std.specs.Prelude.{◌≡◌, ℕ, ◌<◌, length}
use Rattle.abc_heap_values.specs.declared.values.ObjId.{ObjId}
use Rattle.abc_heap_store.specs.Heap.{Heap, object_at}
use Rattle.abc_objects.specs.Values.{IsObject}
use Rattle.abc_link_names.specs.Linked.{LinkedFile, above}
use Rattle.abc_link_names.specs.Owners.{owner_of}
use Rattle.abc_objects.specs.Searches.{declared_found, found_in_scopes}
use Rattle.abc_objects.specs.declared.found.Found.{Found}
use Rattle.abc_objects.specs.declared.found.Found.TheVariants.{Method, Property}
use Rattle.abc_objects.specs.declared.found.ScopeFound.{ScopeFound}
use Rattle.abc_objects.specs.declared.found.ScopeFound.TheVariants.{Missing, Object, Start}
use Rattle.abc_objects.specs.declared.found.Want.{Want}
use Rattle.abc_objects.specs.declared.name.Name.{Name}
use Rattle.abc_frames.specs.Frame.{Frame}
use Rattle.abc_meaning.specs.Supers.{strict}
use Rattle.abc_meaning.specs.Setting.{Setting}
use Rattle.abc_meaning.specs.World.{World}

-- what the search in scopes finds for a name, from a frame
abbrev pub found_from_scopes : Setting → Frame → Name → World → ScopeFound
found_from_scopes p f name w = found_in_scopes p.linked w.heap f.scopes f.saved w.started name

-- what was found is there, and a script that is to be started is one of the file
abbrev pub IsScopeThere : LinkedFile → Heap → ScopeFound → Type 0
IsScopeThere l h (Object o) = IsObject h o
IsScopeThere l h (Start s) = s < length l.file.scripts
IsScopeThere l h Missing = Unit {0}

-- from the base of a layout on
abbrev pub found_above : LinkedFile → Heap → (from : ℕ) → ObjId → Name → Want → Found
found_above l h from o name want = strict (declared_found l h (object_at h.objects o.0).layout (above l from) name want)

-- what declared traits give: no property, and a method is its owner's
abbrev pub IsDeclared : LinkedFile → Found → Type 0
IsDeclared l (Property holder x) = ⊥
IsDeclared l (Method owner m) = owner ≡ owner_of l.file m
IsDeclared l found = Unit {0}

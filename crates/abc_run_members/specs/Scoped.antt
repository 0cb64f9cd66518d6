-- Searches in scopes, over the newest frame; newclass.
use Rattle.std.specs.Prelude.{ℕ, [], ◌∷◌}
use Rattle.abc_base.specs.declared.names.HostClass.TheVariants as hosts
use Rattle.abc_heap_values.specs.declared.values.ObjId.{ObjId}
use Rattle.abc_heap_values.specs.declared.values.Value.{Value}
use Rattle.abc_heap_values.specs.declared.values.Value.TheVariants.{Obj}
use Rattle.abc_link_names.specs.Bases.{base_named}
use Rattle.abc_link_names.specs.PartsByNumber.{class_at}
use Rattle.abc_objects.specs.declared.found.ScopeFound.{ScopeFound}
use Rattle.abc_objects.specs.declared.found.ScopeFound.TheVariants.{Missing, Object, Start}
use Rattle.abc_objects.specs.declared.name.Name.{Name}
use Rattle.abc_frames.specs.Frame.{Frame, after_drop, waiting}
use Rattle.abc_frames.specs.declared.records.Wait.TheVariants.{Keep}
use Rattle.abc_run_calls.specs.Entering.{starts_above}
use Rattle.abc_run_names.specs.Named.{name_form_at, named_here, name_parts_count}
use Rattle.abc_run_state.specs.Operands.{operand_at}
use Rattle.abc_meaning.specs.Entering.{enters_owned, global}
use Rattle.abc_meaning.specs.Objects.{class_object, new_class}
use Rattle.abc_meaning.specs.Setting.{Setting}
use Rattle.abc_meaning.specs.World.{Run, pure, see, throws, ◌>>=◌}
use Rattle.abc_run_members.specs.Found.{found_from_scopes}
use Rattle.abc_meaning.specs.At.{Above, Act, Goes, goes, after_pushes}
use Rattle.abc_meaning.specs.Newing.{base_prototype, unmade}

-- ---- scopes

-- a script that has to be started first is entered, and then the instruction is executed again
abbrev pub found_in_scope : Setting → Frame → ScopeFound → (ObjId → Run Act) → Run Act → Run Act
found_in_scope p f (Object o) go otherwise = go o
found_in_scope p f (Start s) go otherwise = starts_above p s f
found_in_scope p f Missing go otherwise = otherwise

abbrev pub pushes_in : ℕ → Frame → Value → Run Act
pushes_in n f v = goes (after_pushes (v ∷ []) (after_drop n f))

-- by what was found, where so many parts of the name are on the stack

abbrev pub pushes_strictly : Setting → ScopeFound → (parts : ℕ) → Frame → Run Act
pushes_strictly p found n f = found_in_scope p f found (λ o. pushes_in n f (Obj o)) (throws hosts.ReferenceError)

abbrev pub pushes_or_global : Setting → ScopeFound → (parts : ℕ) → Frame → Run Act
pushes_or_global p found n f = found_in_scope p f found (λ o. pushes_in n f (Obj o)) (see (global f.home) >>= pushes_in n f)

-- by the name of the instruction

abbrev pub finds_with : Setting → ℕ → (ScopeFound → Name → (parts : ℕ) → Frame → Run Act) → Frame → Run Act
finds_with p n go f = named_here p n 0 f >>= λ name. see (found_from_scopes p f name) >>= λ found. go found name (name_parts_count (name_form_at p n)) f

-- findpropstrict: the object in which the name is found; without one, a ReferenceError
abbrev pub finds_strictly_here : Setting → ℕ → Frame → Run Act
finds_strictly_here p n f = finds_with p n (λ found name. pushes_strictly p found) f

-- findproperty: the object in which the name is found; without one, the global object of the frame's home script
abbrev pub finds_or_global_here : Setting → ℕ → Frame → Run Act
finds_or_global_here p n f = finds_with p n (λ found name. pushes_or_global p found) f

-- ---- newclass

-- its initializer is run on the class object, which is pushed at the return
abbrev pub enters_class : Setting → (class : ℕ) → ObjId → Frame → Run Act
enters_class p k o f = enters_owned p (class_at p.linked.file k).cinit (Obj o) [] >>= λ g. pure (Goes (Above g (waiting (Keep (Obj o)) (after_drop 1 f))))

abbrev pub makes_unmade : Setting → (class : ℕ) → Frame → Run Act
makes_unmade p k f = base_prototype (base_named p.linked.file k) (operand_at 0 f) >>= λ base. new_class p k f.home base f.saved f.scopes >>= λ o. enters_class p k o f

-- once
abbrev pub makes_class_here : Setting → (class : ℕ) → Frame → Run Act
makes_class_here p k f = see (class_object k) >>= λ made. unmade made >>= λ u. makes_unmade p k f

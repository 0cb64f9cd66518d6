-- Searches in scopes. A script that has to be started first is entered, and then the instruction is executed again
-- (Overview, chapters 3 and 5; profile: docs/MACHINE.md, "The rules of a run").
use Rattle.std.specs.Prelude.{[], ◌∷◌}
use Rattle.abc_base.specs.declared.names.HostClass.TheVariants as hosts
use Rattle.abc_heap_values.specs.declared.values.ObjId.{ObjId}
use Rattle.abc_heap_values.specs.declared.values.Value.{Value}
use Rattle.abc_heap_values.specs.declared.values.Value.TheVariants.{Obj}
use Rattle.abc_objects.specs.Searches.{found_in_scopes}
use Rattle.abc_objects.specs.declared.found.ScopeFound.{ScopeFound}
use Rattle.abc_objects.specs.declared.found.ScopeFound.TheVariants.{Object, Start, Missing}
use Rattle.abc_objects.specs.declared.name.Name.{Name}
use Rattle.abc_meaning.specs.Entering.{global, starts_script}
use Rattle.abc_meaning.specs.Members.{reads}
use Rattle.abc_meaning.specs.World.{Run, World, pure, see, throws, ◌>>=◌}
use Rattle.abc_frames.specs.declared.records.Wait.TheVariants.{Again}
use Rattle.abc_meaning.specs.At.{Above, Act, ActCase, Doing, Goes, gives_came, goes, after_pushes, waiting_frame}
use Rattle.abc_meaning.specs.Names.{name_of}

abbrev pub find_in_scopes : ActCase → Name → World → ScopeFound
find_in_scopes a name w = found_in_scopes a.setting.linked w.heap a.frame.scopes a.frame.saved w.started name

abbrev pub found_in : ActCase → ScopeFound → (ObjId → Run Act) → Run Act → Run Act
found_in a (Object o) f otherwise = f o
found_in a (Start s) f otherwise = starts_script a.setting s >>= λ g. pure (Goes (Above g (waiting_frame Again a.frame)))
found_in a Missing f otherwise = otherwise

abbrev pub finds : (ActCase → Name → ObjId → Run Act) → Doing → Doing
finds f otherwise a = do
  name ← name_of a
  found ← see (find_in_scopes a name)
  found_in a found (f a name) (otherwise a)

abbrev pub pushes : ActCase → Value → Run Act
pushes a v = goes (after_pushes (v ∷ []) a.rest)

-- findpropstrict, findproperty, getlex

abbrev pub is_missing : Doing
is_missing a = throws hosts.ReferenceError

abbrev pub finds_strictly : Doing
finds_strictly = finds (λ a name o. pushes a (Obj o)) is_missing

-- where nothing is found, the global object of the script in which the method was made
abbrev pub finds_or_global : Doing
finds_or_global = finds (λ a name o. pushes a (Obj o)) (λ a. see (global a.frame.home) >>= pushes a)

abbrev pub finds_and_reads : Doing
finds_and_reads = finds (λ a name o. gives_came (λ b. reads b.setting (Obj o) name) a) is_missing

-- What instructions that make an object do with the newest frame.
use Rattle.std.specs.Prelude.{ℕ, ◌*◌, List}
use Rattle.abc_base.specs.declared.names.HostClass.TheVariants as hosts
use Rattle.abc_heap_values.specs.declared.values.Value.{Value}
use Rattle.abc_heap_values.specs.declared.values.Value.TheVariants.{Obj}
use Rattle.abc_heap_store.specs.declared.records.What.{What}
use Rattle.abc_heap_store.specs.declared.records.What.TheVariants as whats
use Rattle.abc_link_names.specs.Linked.{layout_of}
use Rattle.abc_link_names.specs.declared.part.Part.TheVariants as parts
use Rattle.abc_frames.specs.Frame.{Frame, arguments}
use Rattle.abc_meaning.specs.At.{Act}
use Rattle.abc_meaning.specs.Newing.{entries_of, object_value, set_all}
use Rattle.abc_run_state.specs.Settling.{pushes_instead}
use Rattle.abc_meaning.specs.Objects.{new_array, new_function, new_object, new_of_host, prototype_for}
use Rattle.abc_meaning.specs.Setting.{Setting}
use Rattle.abc_meaning.specs.World.{Run, pure, see, ◌>>=◌, ◌>>◌}

-- newarray
abbrev pub pushes_array : Setting → ℕ → Frame → Run Act
pushes_array p count f = pushes_instead count f (object_value (new_array p (arguments count f)))

-- newfunction
abbrev pub pushes_function : Setting → (method : ℕ) → Frame → Run Act
pushes_function p method f = pushes_instead 0 f (object_value (new_function p method f.home f.saved f.scopes))

-- newactivation, newcatch
abbrev pub scope_object_for : Setting → ℕ → What → Run Value
scope_object_for p layout what = see (prototype_for hosts.Object) >>= λ d. object_value (new_object p layout d what)

-- newactivation: the activation object of the body is made and pushed
abbrev pub pushes_activation : Setting → (body : ℕ) → Frame → Run Act
pushes_activation p b f = pushes_instead 0 f (scope_object_for p (layout_of p.linked (parts.Activation b)).0 whats.Activation)

-- newcatch: the catch object of the body's handler is made and pushed
abbrev pub pushes_catch : Setting → (body handler : ℕ) → Frame → Run Act
pushes_catch p b e f = pushes_instead 0 f (scope_object_for p (layout_of p.linked (parts.Catch b e)).0 whats.Catch)

-- ---- newobject: the texts of all names are made, then the object, and then it takes each value under its name

abbrev pub make_object : Setting → List Value → Run Value
make_object p args = do
  es ← entries_of p args
  o ← new_of_host p hosts.Object whats.Plain
  set_all p o es
  pure (Obj o)

-- newobject: so many pairs of a name and a value are taken, and the object with these properties is pushed
abbrev pub pushes_object : Setting → (pairs : ℕ) → Frame → Run Act
pushes_object p pairs f = pushes_instead (2 * pairs) f (make_object p (arguments (2 * pairs) f))

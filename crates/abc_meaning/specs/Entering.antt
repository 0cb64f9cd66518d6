-- Frames, and methods that are entered (Overview, chapter 4, "Method signature"; profile: docs/MACHINE.md, "The rules of a run").
use Rattle.std.specs.Prelude.{ℕ, List, [], ◌∷◌, ◌++◌, length, take, drop, set, replicate, true, Some, None, nat_le, if◌then◌else◌}
use Rattle.std.specs.declared.option.Option.{Option}
use Rattle.abc_base.specs.declared.names.Fault.TheVariants as faults
use Rattle.abc_base.specs.declared.names.HostClass.TheVariants as hosts
use Rattle.abc_heap_values.specs.declared.values.Value.{Value}
use Rattle.abc_heap_values.specs.declared.values.Value.TheVariants.{Undefined, Obj}
use Rattle.abc_heap_store.specs.Heap.{obj_id}
use Rattle.abc_link_names.specs.Types.{type_of}
use Rattle.abc_objects.specs.Objects.{global_number}
use Rattle.abc_file_types.specs.Methods.{has_flag}
use Rattle.abc_file_types.specs.declared.methods.Method.{Method}
use Rattle.abc_file_types.specs.declared.methods.OptionValue.{OptionValue}
use Rattle.abc_verify_typing.specs.Routines.{Routine}
use Rattle.abc_link_names.specs.PartsByNumber.{script_at}
use Rattle.abc_link_names.specs.Owners.{owner_of}
use Rattle.abc_meaning.specs.Objects.{Place, new_array, place, place_of_owner}
use Rattle.abc_meaning.specs.Ops.{coerces}
use Rattle.abc_meaning.specs.Setting.{Setting, may_take_arguments, method_of, options_of, routine_of, value_of_option}
use Rattle.abc_meaning.specs.World.{Run, Went, World, pure, fails, sticks, throws, ◌>>=◌, ◌>>◌, some, must, see}
use Rattle.abc_frames.specs.Frame.{Frame}
use Rattle.abc_frames.specs.declared.records.Wait.TheVariants as waits

-- ---- arguments: coerced to their types in order; for those that are missing the values of options, coerced

abbrev pub coerces_to : Setting → ℕ → Value → Run Value
coerces_to p ty v = some (type_of p.linked ty) >>= λ t. coerces p t v

abbrev pub or_double : Option Value → Run Value
or_double None = fails faults.Double
or_double (Some v) = pure v

-- the value of a parameter's option, taken where the argument is missing; a double is a fault
abbrev pub gives_option : Setting → Option OptionValue → Run Value
gives_option p None = sticks
gives_option p (Some o) = or_double (value_of_option p o)

abbrev pub coerced_arguments : Setting → List ℕ → List (Option OptionValue) → List Value → Run (List Value)
coerced_arguments p [] os vs = pure []
coerced_arguments p (t ∷ ts) [] vs = sticks
coerced_arguments p (t ∷ ts) (o ∷ os) [] = gives_option p o >>= λ v. coerces_to p t v >>= λ c. coerced_arguments p ts os [] >>= λ cs. pure (c ∷ cs)
coerced_arguments p (t ∷ ts) (o ∷ os) (v ∷ vs) = coerces_to p t v >>= λ c. coerced_arguments p ts os vs >>= λ cs. pure (c ∷ cs)

-- the count is tested first
abbrev pub arguments_for : Setting → Method → List Value → Run (List Value)
arguments_for p m vs = if may_take_arguments m (length vs) then coerced_arguments p m.params (options_of m) vs else throws hosts.ArgumentError

-- the array of the arguments behind the parameters, or of all, as they were given
abbrev pub array_of : Setting → List Value → Run (List Value)
array_of p vs = new_array p vs >>= λ o. pure (Obj o ∷ [])

abbrev pub extra : Setting → Method → List Value → Run (List Value)
extra p m vs = if has_flag m.flags 0x04 then array_of p (drop (length m.params) vs) else (if has_flag m.flags 0x01 then array_of p vs else pure [])

-- ---- frames

abbrev pub locals_for : Routine → List Value → List Value
locals_for r vs = take r.local_count (vs ++ replicate r.local_count Undefined)

-- a new frame, for arguments that are coerced; its room is taken when it is put on top
abbrev pub frame_for : Setting → ℕ → Method → Value → Place → (given coerced : List Value) → Run Frame
frame_for p n m this at given vs = do
  r ← some (routine_of p n)
  array ← extra p m given
  must (nat_le (length (this ∷ vs ++ array)) r.local_count)
  pure (record { method = n; home = at.home; saved = at.saved; stack = []; scopes = []; locals = locals_for r (this ∷ vs ++ array); place = 0; wait = waits.Not })

abbrev pub enters : Setting → ℕ → Value → Place → List Value → Run Frame
enters p n this at given = do
  m ← some (method_of p n)
  vs ← arguments_for p m given
  frame_for p n m this at given vs

-- a method of an owner is entered where its owner keeps it
abbrev pub enters_owned : Setting → ℕ → Value → List Value → Run Frame
enters_owned p n this given = do
  at ← place_of_owner (owner_of p.linked.file n)
  enters p n this at given

-- the global object of a script
abbrev pub global : ℕ → World → Value
global s w = Obj (obj_id (global_number w.heap s))

-- a script is started, and counts as started from here on
abbrev pub notes_start : ℕ → Run (Unit {0})
notes_start s w = Went (record w { started = set w.started s true }) tt

abbrev pub starts_script : Setting → ℕ → Run Frame
starts_script p s = do
  notes_start s
  this ← see (global s)
  enters p (script_at p.linked.file s).init this (place s None) []

-- getlex; super operations, from the base of the class of its method on.
use Rattle.std.specs.Prelude.{ℕ, ◌+◌, List, false, Some}
use Rattle.std.specs.declared.option.Option.{Option}
use Rattle.abc_base.specs.declared.names.HostClass.{HostClass}
use Rattle.abc_base.specs.declared.names.HostClass.TheVariants as hosts
use Rattle.abc_heap_values.specs.declared.values.ObjId.{ObjId}
use Rattle.abc_heap_values.specs.declared.values.Value.{Value}
use Rattle.abc_heap_values.specs.declared.values.Value.TheVariants.{Obj, Undefined}
use Rattle.abc_link_names.specs.Bases.{base_named}
use Rattle.abc_link_names.specs.Instances.{instance_at}
use Rattle.abc_link_names.specs.declared.named.Named.{Named}
use Rattle.abc_link_names.specs.declared.named.Named.TheVariants as named
use Rattle.abc_link_names.specs.Linked.{above}
use Rattle.abc_objects.specs.Searches.{declared_found}
use Rattle.abc_objects.specs.declared.found.Found.{Found}
use Rattle.abc_objects.specs.declared.found.ScopeFound.{ScopeFound}
use Rattle.abc_objects.specs.declared.found.Want.{Want}
use Rattle.abc_objects.specs.declared.found.Want.TheVariants.{Read, Write}
use Rattle.abc_objects.specs.declared.name.Name.{Name}
use Rattle.abc_frames.specs.Frame.{Frame, arguments}
use Rattle.abc_run_calls.specs.Calls.{settled_by}
use Rattle.abc_run_members.specs.Members.{holder_under, parts_at}
use Rattle.abc_run_names.specs.Named.{named_here}
use Rattle.abc_run_state.specs.declared.state.How.{How}
use Rattle.abc_run_state.specs.declared.state.How.TheVariants.{Drop, Push}
use Rattle.abc_run_state.specs.Operands.{operand_at}
use Rattle.abc_meaning.specs.Calling.{Came, calls_frame, got}
use Rattle.abc_meaning.specs.Entering.{enters_owned}
use Rattle.abc_meaning.specs.Making.{host_arguments, set_message}
use Rattle.abc_meaning.specs.Members.{call_found, read_found, reads, write_found}
use Rattle.abc_meaning.specs.Setting.{Setting}
use Rattle.abc_meaning.specs.World.{Run, object_named, see, sticks, the, throws, ◌>>=◌, ◌>>◌}
use Rattle.abc_meaning.specs.At.{Act}
use Rattle.abc_meaning.specs.Supers.{on_receiver, strict}
use Rattle.abc_run_members.specs.Scoped.{found_in_scope, finds_with}

-- ---- getlex

abbrev pub reads_in : Setting → ScopeFound → Name → (parts : ℕ) → Frame → Run Act
reads_in p found name n f = found_in_scope p f found (λ o. settled_by (Push n) f (reads p (Obj o) name)) (throws hosts.ReferenceError)

-- getlex: the name is found in scopes, and then read on the object that has it
abbrev pub find_and_read : Setting → ℕ → Frame → Run Act
find_and_read p n f = finds_with p n (reads_in p) f

-- ---- super operations: from the base of a layout on

abbrev pub super_found_here : Setting → (from : ℕ) → ObjId → Name → Want → Run Found
super_found_here p from o name want = the (object_named o) >>= λ ob. see (λ w. strict (declared_found p.linked w.heap ob.layout (above p.linked from) name want))

-- on a value, by a name

abbrev pub super_read : Setting → (from : ℕ) → Value → Name → Run Came
super_read p from v name = on_receiver v (λ o. super_found_here p from o name Read >>= λ found. read_found p found (Obj o))

abbrev pub super_write : Setting → (from : ℕ) → Value → Name → Value → Run Came
super_write p from v name x = on_receiver v (λ o. super_found_here p from o name Write >>= λ found. write_found p o name x false found)

abbrev pub calls_super_on : Setting → (from : ℕ) → Value → Name → List Value → Run Came
calls_super_on p from v name args = on_receiver v (λ o. super_found_here p from o name Read >>= λ found. call_found p found (Obj o) (Obj o) args)

-- by the name of the instruction: its parts are over the receiver

-- getsuper: the search begins above the layout `from`
abbrev pub gets_super : Setting → ℕ → (from : ℕ) → Frame → Run Act
gets_super p n from f = settled_by (Push (parts_at p n + 1)) f (named_here p n 0 f >>= super_read p from (operand_at (parts_at p n) f))

-- setsuper: the search begins above the layout `from`
abbrev pub sets_super : Setting → ℕ → (from : ℕ) → Frame → Run Act
sets_super p n from f = settled_by (Drop (parts_at p n + 2)) f (named_here p n 1 f >>= λ name. super_write p from (holder_under p n 1 f) name (operand_at 0 f))

-- callsuper and callsupervoid: the search begins above the layout `from`
abbrev pub super_call : Setting → ℕ → (from count : ℕ) → How → Frame → Run Act
super_call p n from count how f = settled_by how f (named_here p n count f >>= λ name. calls_super_on p from (holder_under p n count f) name (arguments count f))

-- the maker of the base is run on the object

abbrev pub told_base : Setting → ObjId → HostClass → (count : ℕ) → Frame → Run Came
told_base p o c count f = host_arguments p c (arguments count f) >>= λ message. set_message p o message >> got Undefined

abbrev pub base_run : Setting → ObjId → (count : ℕ) → Frame → Option Named → Run Came
base_run p o count f (Some (named.Class b)) = enters_owned p (instance_at p.linked.file b).iinit (Obj o) (arguments count f) >>= calls_frame
base_run p o count f (Some (named.Host c)) = told_base p o c count f
base_run p o count f other = sticks

abbrev pub tells_base : Setting → ObjId → HostClass → (count : ℕ) → Frame → Run Act
tells_base p o c count f = settled_by (Drop (count + 1)) f (told_base p o c count f)

abbrev pub constructs_base : Setting → Value → (class count : ℕ) → Frame → Run Act
constructs_base p v k count f = settled_by (Drop (count + 1)) f (on_receiver v (λ o. base_run p o count f (base_named p.linked.file k)))

-- constructsuper: the maker of the base of the class is run on the object under the arguments
abbrev pub super_construct : Setting → (class count : ℕ) → Frame → Run Act
super_construct p k count f = constructs_base p (operand_at count f) k count f

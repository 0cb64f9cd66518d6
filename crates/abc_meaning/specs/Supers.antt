-- Super operations: the search begins at the base of the method's class, and finds declared traits alone
-- (Overview, chapter 5; profile: docs/MACHINE.md, "The rules of a run").
use Rattle.std.specs.Prelude.{false, Some, None}
use Rattle.std.specs.declared.option.Option.{Option}
use Rattle.abc_base.specs.declared.names.HostClass.TheVariants as hosts
use Rattle.abc_heap_values.specs.declared.values.ObjId.{ObjId}
use Rattle.abc_heap_values.specs.declared.values.Value.{Value}
use Rattle.abc_heap_values.specs.declared.values.Value.TheVariants.{Undefined, Null, Obj}
use Rattle.abc_link_names.specs.Instances.{instance_at}
use Rattle.abc_link_names.specs.declared.named.Named.{Named}
use Rattle.abc_link_names.specs.declared.named.Named.TheVariants as named
use Rattle.abc_link_names.specs.Linked.{above}
use Rattle.abc_link_names.specs.Owners.{owner_of}
use Rattle.abc_link_names.specs.declared.types.Owner.{Owner}
use Rattle.abc_link_names.specs.declared.types.Owner.TheVariants as owners
use Rattle.abc_link_names.specs.Bases.{base_named}
use Rattle.abc_objects.specs.Searches.{declared_found}
use Rattle.abc_objects.specs.declared.found.Found.{Found}
use Rattle.abc_objects.specs.declared.found.Found.TheVariants.{Missing, WrongSide}
use Rattle.abc_objects.specs.declared.found.Want.{Want}
use Rattle.abc_objects.specs.declared.found.Want.TheVariants.{Read, Write}
use Rattle.abc_objects.specs.declared.name.Name.{Name}
use Rattle.abc_verify_typing.specs.Rules.{super_layout}
use Rattle.abc_meaning.specs.Calling.{Came, calls_frame, got}
use Rattle.abc_meaning.specs.Entering.{enters_owned}
use Rattle.abc_meaning.specs.Making.{host_arguments, set_message}
use Rattle.abc_meaning.specs.Members.{call_found, read_found, write_found}
use Rattle.abc_meaning.specs.World.{Run, some, the, see, object_named, sticks, throws, ◌>>=◌, ◌>>◌}
use Rattle.abc_meaning.specs.At.{ActCase, one, two}
use Rattle.abc_meaning.specs.Names.{name_of}

-- what is missing is a ReferenceError, whether the object is dynamic or not
abbrev pub strict : Found → Found
strict Missing = WrongSide
strict found = found

abbrev pub super_found : ActCase → ObjId → Name → Want → Run Found
super_found a o name want = do
  ob ← the (object_named o)
  layout ← some (super_layout a.here.row.site a.here.method.home)
  see (λ w. strict (declared_found a.setting.linked w.heap ob.layout (above a.setting.linked layout.0) name want))

-- the name is made before null is refused
abbrev pub on_receiver : {X : Type 0} → Value → (ObjId → Run X) → Run X
on_receiver (Obj o) f = f o
on_receiver Null f = throws hosts.TypeError
on_receiver v f = sticks

abbrev pub on_super : ActCase → Value → Want → (ObjId → Name → Found → Run Came) → Run Came
on_super a v want f = name_of a >>= λ name. on_receiver v (λ o. super_found a o name want >>= f o name)

abbrev pub reads_super : ActCase → Run Came
reads_super a = one a λ v. on_super a v Read (λ o name found. read_found a.setting found (Obj o))

abbrev pub writes_super : ActCase → Run Came
writes_super a = two a λ r v. on_super a r Write (λ o name found. write_found a.setting o name v false found)

abbrev pub calls_super : ActCase → Run Came
calls_super a = one a λ v. on_super a v Read (λ o name found. call_found a.setting found (Obj o) (Obj o) a.args)

-- ---- the maker of the base is run on the object; a class of the host has none, and takes a message

abbrev pub runs_base : ActCase → ObjId → Option Named → Run Came
runs_base a o (Some (named.Class b)) = enters_owned a.setting (instance_at a.setting.linked.file b).iinit (Obj o) a.args >>= calls_frame
runs_base a o (Some (named.Host c)) = host_arguments a.setting c a.args >>= λ message. set_message a.setting o message >> got Undefined
runs_base a o other = sticks

abbrev pub base_of_maker : ActCase → Owner → Option Named
base_of_maker a (owners.Iinit k) = base_named a.setting.linked.file k
base_of_maker a other = None

abbrev pub constructs_super : ActCase → Run Came
constructs_super a = one a λ v. on_receiver v (λ o. runs_base a o (base_of_maker a (owner_of a.setting.linked.file a.frame.method)))

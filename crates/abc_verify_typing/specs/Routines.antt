-- A method with its body, as a verifier sees it: what is known as it begins, its sizes, its code and its handlers
-- (Overview, chapter 4, "Method signature" and "Method body"; profile: docs/VERIFYING.md, "States").
use Rattle.std.specs.Prelude.{ℕ, suc, ◌-◌, List, [], ◌∷◌, Bool, ◌&&◌, ◌||◌, Option, Some, None, if◌then◌else◌, map, ltb, ◌++◌}
use Rattle.abc_base.specs.declared.names.HostClass.TheVariants as hosts
use Rattle.abc_link_names.specs.Instances.{instance_at}
use Rattle.abc_file_types.specs.Methods.{has_flag}
use Rattle.abc_file_types.specs.declared.code.Handler.{Handler}
use Rattle.abc_file_types.specs.declared.code.Instr.{Instr}
use Rattle.abc_file_types.specs.declared.code.Body.{Body}
use Rattle.abc_file_types.specs.declared.methods.Method.{Method}
use Rattle.abc_link_names.specs.PartsByNumber.{body_at, method_at}
use Rattle.abc_link_names.specs.Linked.{LinkedFile, layout_of}
use Rattle.abc_link_names.specs.Owners.{owner_of}
use Rattle.abc_link_names.specs.Types.{kind_of_type, type_of}
use Rattle.abc_link_names.specs.declared.part.LayoutId.{LayoutId}
use Rattle.abc_link_names.specs.declared.part.Part.{Part}
use Rattle.abc_link_names.specs.declared.part.Part.TheVariants as parts
use Rattle.abc_link_names.specs.declared.types.Kind.{Kind}
use Rattle.abc_link_names.specs.declared.types.Kind.TheVariants.{Any, Obj}
use Rattle.abc_link_names.specs.declared.types.Owner.{Owner}
use Rattle.abc_link_names.specs.declared.types.Ty.{Ty}
use Rattle.abc_link_names.specs.declared.types.Owner.TheVariants as owners
use Rattle.abc_verify_typing.specs.declared.catch.Catch.{Catch}
use Rattle.abc_verify_typing.specs.declared.home.Home.{Home}
use Rattle.abc_verify_typing.specs.declared.home.Home.TheVariants.{Elsewhere, OnInstances, MakesInstances}

-- A method with its body.
pub record Routine : Type 0 where
  -- what a call fills: `this`, then the parameters, then the array of what is left over or of all arguments
  pub filled : List Kind
  -- whether super operations may stand in it, and on the instances of which layout
  pub home : Home
  -- flag 02
  pub needs_activation : Bool
  -- flag 40, or both flags 01 and 04
  pub unsupported : Bool
  -- the layout of its activation object
  pub activation : LayoutId
  pub max_stack : ℕ
  pub local_count : ℕ
  -- how many local scopes it may have
  pub scope_size : ℕ
  pub code : List Instr
  pub handlers : List Catch

-- ---- of a file

-- the kind, or Any where none is known
abbrev pub or_any : Option Kind → Kind
or_any None = Any
or_any (Some k) = k

abbrev pub kind_if : LinkedFile → Option Ty → Option Kind
kind_if l None = None
kind_if l (Some t) = Some (kind_of_type l t)

-- the kind of the type that a name is, if it is one
abbrev pub type_at : LinkedFile → ℕ → Option Kind
type_at l n = kind_if l (type_of l n)

abbrev pub kind_of_part : LinkedFile → Part → Kind
kind_of_part l part = Obj (layout_of l part)

abbrev pub this_kind : LinkedFile → Owner → Kind
this_kind l owners.Free = Any
this_kind l (owners.ScriptInit s) = kind_of_part l (parts.Global s)
this_kind l (owners.ScriptMethod s) = kind_of_part l (parts.Global s)
this_kind l (owners.ClassInit k) = kind_of_part l (parts.ClassObject k)
this_kind l (owners.Static k) = kind_of_part l (parts.ClassObject k)
this_kind l (owners.Iinit k) = kind_of_part l (parts.Instance k)
this_kind l (owners.Instance k) = kind_of_part l (parts.Instance k)

abbrev pub has_base : LinkedFile → ℕ → Bool
has_base l k = ltb 0 (instance_at l.file k).super_name

abbrev pub home_of : LinkedFile → Owner → Home
home_of l (owners.Iinit k) = if has_base l k then MakesInstances (layout_of l (parts.Instance k)) else Elsewhere
home_of l (owners.Instance k) = if has_base l k then OnInstances (layout_of l (parts.Instance k)) else Elsewhere
home_of l owner = Elsewhere

-- flag 01 asks for an array of all arguments, flag 04 for one of those that are left over
abbrev pub takes_array : ℕ → Bool
takes_array flags = has_flag flags 0x01 || has_flag flags 0x04

abbrev pub arrays : LinkedFile → ℕ → List Kind
arrays l flags = if takes_array flags then kind_of_part l (parts.Host hosts.Array) ∷ [] else []

abbrev pub filled_by : LinkedFile → Owner → Method → List Kind
filled_by l owner m = this_kind l owner ∷ (map (λ t. or_any (type_at l t)) m.params ++ arrays l m.flags)

abbrev pub is_unsupported : ℕ → Bool
is_unsupported flags = has_flag flags 0x40 || (has_flag flags 0x01 && has_flag flags 0x04)

-- the handlers of a body, from number e on
abbrev pub catches_from : LinkedFile → ℕ → ℕ → List Handler → List Catch
catches_from l b e [] = []
catches_from l b e (h ∷ hs) = record { from = h.from; to = h.to; target = h.target; kind = or_any (type_at l h.exc_type); layout = layout_of l (parts.Catch b e) } ∷ catches_from l b (suc e) hs

abbrev pub routine_with : LinkedFile → ℕ → Body → Method → Owner → Routine
routine_with l b body m owner = record {
  filled = filled_by l owner m;
  home = home_of l owner;
  needs_activation = has_flag m.flags 0x02;
  unsupported = is_unsupported m.flags;
  activation = layout_of l (parts.Activation b);
  max_stack = body.max_stack;
  local_count = body.local_count;
  scope_size = body.max_scope - body.init_scope;
  code = body.code;
  handlers = catches_from l b 0 body.handlers;
}

-- the method that a body is of, with that body
abbrev pub routine : LinkedFile → ℕ → Routine
routine l b = let body = body_at l.file b in routine_with l b body (method_at l.file body.method) (owner_of l.file body.method)

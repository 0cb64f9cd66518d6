-- What an instruction does to a state, by its row (Overview, chapter 5; profile: docs/VERIFYING.md, "Instructions").
use Rattle.std.specs.Prelude.{ℕ, ◌+◌, ◌-◌, ◌*◌, List, [], ◌∷◌, ◌++◌, Bool, true, false, cond, not, ◌&&◌, leb, ltb, Option, Some, None, length, take, drop, set, map, flat_map, filter, slice_get}
use Rattle.abc_link_names.specs.declared.types.Kind.{Kind}
use Rattle.abc_link_names.specs.declared.types.Kind.TheVariants.{Any, Undef, Null, Num, Bool as Truth, Text, Space, Obj}
use Rattle.abc_base.specs.declared.names.HostClass.TheVariants as hosts
use Rattle.abc_link_names.specs.Slots.{slot_numbered, slots_of}
use Rattle.abc_link_names.specs.Types.{kind_of_type}
use Rattle.abc_link_names.specs.declared.part.Part.TheVariants as parts
use Rattle.abc_link_names.specs.declared.types.SlotInfo.{SlotInfo}
use Rattle.abc_verify_typing.specs.Instructions.{argument_count, local, operand, second_local, targets}
use Rattle.abc_verify_typing.specs.Rows.{Shape}
use Rattle.abc_verify_typing.specs.declared.row.RowKind.{RowKind}
use Rattle.abc_verify_typing.specs.declared.row.RowKind.TheVariants as rows
use Rattle.abc_file_types.specs.declared.code.Instr.{Instr}
use Rattle.abc_file_types.specs.declared.names.Multiname.{Multiname}
use Rattle.abc_file_types.specs.declared.names.Multiname.TheVariants as names
use Rattle.abc_link_names.specs.Linked.{LinkedFile}
use Rattle.abc_verify_typing.specs.Routines.{Routine, kind_of_part, or_any, type_at}
use Rattle.abc_verify_typing.specs.declared.catch.Catch.{Catch}
use Rattle.abc_verify_typing.specs.declared.state.Scope.{Scope}
use Rattle.abc_verify_typing.specs.declared.state.State.{State}
use Rattle.abc_verify_typing.specs.declared.row.Need.{Need}
use Rattle.abc_verify_typing.specs.declared.row.Need.TheVariants.{Value, Namespace, Slotted, Runtime}
use Rattle.abc_verify_typing.specs.declared.row.Source.{Source}
use Rattle.abc_verify_typing.specs.declared.row.Source.TheVariants.{Fixed, Taken, LocalKind, ScopeKind, SlotKind, SumKind, TypeKind, AsTypeKind, ActivationKind, ClassObjectKind, CatchObjectKind}
use Rattle.abc_verify_typing.specs.declared.row.Locals.{Locals}
use Rattle.abc_verify_typing.specs.declared.row.Locals.TheVariants.{Untouched, Reads, Sets, Walks}
use Rattle.abc_verify_typing.specs.declared.row.Scoping.{Scoping}
use Rattle.abc_verify_typing.specs.declared.row.Scoping.TheVariants.{Stays, Pushes, Pops}
use Rattle.abc_verify_typing.specs.declared.row.Leads.{Leads}
use Rattle.abc_verify_typing.specs.declared.row.Leads.TheVariants.{Next, Branches, Jumps, Switches, Ends}

-- an instruction at its place, with its row
pub record Here : Type 0 where
  pub file : LinkedFile
  pub method : Routine
  pub place : ℕ
  pub instr : Instr
  pub row : Shape

-- tables of the file

-- of the name 0 there is none
abbrev pub multiname_at : LinkedFile → ℕ → Option Multiname
multiname_at p n = cond (ltb 0 n) (slice_get p.file.names (n - 1)) None

abbrev pub kind_of_slot : LinkedFile → Option SlotInfo → Option Kind
kind_of_slot p None = None
kind_of_slot p (Some slot) = Some (kind_of_type p slot.ty)

abbrev pub slot_kind_in : LinkedFile → List SlotInfo → Option ℕ → Option Kind
slot_kind_in p slots None = None
slot_kind_in p slots (Some i) = kind_of_slot p (slice_get slots i)

-- the kind of the slot of that number, if the layout has one
abbrev pub slot_kind_at : LinkedFile → ℕ → ℕ → Option Kind
slot_kind_at p l j = slot_kind_in p (slots_of p l) (slot_numbered p l j)

-- what is taken

-- the runtime parts of a name, the top first
abbrev pub runtime : Option Multiname → List Need
runtime (Some (names.Rt attr n)) = Namespace ∷ []
runtime (Some (names.RtL attr)) = Value ∷ Namespace ∷ []
runtime (Some (names.MultiL attr set)) = Value ∷ []
runtime name = []

abbrev pub parts_of_need : List Need → Need → List Need
parts_of_need parts Runtime = parts
parts_of_need parts need = need ∷ []

abbrev pub needs : Here → List Need
needs h = flat_map (parts_of_need (runtime (multiname_at h.file (operand h.instr)))) h.row.takes

abbrev pub args : Here → ℕ
args h = h.row.args * argument_count h.instr

-- how many values are taken
abbrev pub depth : Here → ℕ
depth h = args h + length (needs h)

-- the kinds below the arguments
abbrev pub stack_below : Here → State → List Kind
stack_below h s = drop (args h) s.stack

-- kinds that are made; what is missing is Any

abbrev pub kind_at : List Kind → ℕ → Kind
kind_at kinds n = or_any (slice_get kinds n)

-- the value that has to have the slot
abbrev pub receiver_kind : List Need → List Kind → Kind
receiver_kind (Slotted ∷ needs) (kind ∷ kinds) = kind
receiver_kind (need ∷ needs) (kind ∷ kinds) = receiver_kind needs kinds
receiver_kind needs kinds = Any

-- nothing follows a slot of null
abbrev pub is_null_kind : Kind → Bool
is_null_kind Null = true
is_null_kind k = false

abbrev pub goes_on_after : List Need → List Kind → Bool
goes_on_after needs kinds = not (is_null_kind (receiver_kind needs kinds))

-- the kind of the slot of number j of a value of this kind; Any where that isn't known
abbrev pub slot_kind : LinkedFile → ℕ → Kind → Kind
slot_kind p j (Obj l) = or_any (slot_kind_at p l.0 j)
slot_kind p j k = Any

-- the kind of a sum: Num of two that are Num or Bool, and else Any
abbrev pub sum_kind : Kind → Kind → Kind
sum_kind Num Num = Num
sum_kind Num Truth = Num
sum_kind Truth Num = Num
sum_kind Truth Truth = Num
sum_kind a b = Any

-- what may turn out to be null has to be of a kind that holds null
abbrev pub nullable : Kind → Kind
nullable Text = Text
nullable Space = Space
nullable (Obj l) = Obj l
nullable k = Any

abbrev pub scope_of : Option Scope → Kind
scope_of None = Any
scope_of (Some scope) = scope.kind

abbrev pub catch_object : Option Catch → Kind
catch_object None = Any
catch_object (Some h) = Obj h.layout

-- the kind that a row names
abbrev pub kind_of_row : LinkedFile → RowKind → Kind
kind_of_row p rows.Any = Any
kind_of_row p rows.Undef = Undef
kind_of_row p rows.Null = Null
kind_of_row p rows.Num = Num
kind_of_row p rows.Bool = Truth
kind_of_row p rows.Text = Text
kind_of_row p rows.Space = Space
kind_of_row p rows.Object = kind_of_part p (parts.Host hosts.Object)
kind_of_row p rows.Function = kind_of_part p (parts.Host hosts.Function)
kind_of_row p rows.Array = kind_of_part p (parts.Host hosts.Array)

abbrev pub kind_of_source : Here → State → Source → Kind
kind_of_source h s (Fixed k) = kind_of_row h.file k
kind_of_source h s (Taken n) = kind_at (stack_below h s) n
kind_of_source h s LocalKind = kind_at s.locals (local h.instr)
kind_of_source h s ScopeKind = scope_of (slice_get s.scopes (operand h.instr))
kind_of_source h s SlotKind = slot_kind h.file (operand h.instr) (receiver_kind (needs h) (stack_below h s))
kind_of_source h s SumKind = sum_kind (kind_at (stack_below h s) 1) (kind_at (stack_below h s) 0)
kind_of_source h s TypeKind = or_any (type_at h.file (operand h.instr))
kind_of_source h s AsTypeKind = nullable (or_any (type_at h.file (operand h.instr)))
kind_of_source h s ActivationKind = Obj h.method.activation
kind_of_source h s ClassObjectKind = kind_of_part h.file (parts.ClassObject (operand h.instr))
kind_of_source h s CatchObjectKind = catch_object (slice_get h.method.handlers (operand h.instr))

-- a scope is an object
abbrev pub scope_kind : LinkedFile → Kind → Kind
scope_kind p Null = Null
scope_kind p (Obj l) = Obj l
scope_kind p k = kind_of_row p rows.Object

abbrev pub scopes_after : Here → State → Scoping → List Scope
scopes_after h s Stays = s.scopes
scopes_after h s (Pushes is_with) = s.scopes ++ record { kind = scope_kind h.file (kind_at (stack_below h s) 0); is_with = is_with } ∷ []
scopes_after h s Pops = take (length s.scopes - 1) s.scopes

abbrev pub locals_after : Here → State → Locals → List Kind
locals_after h s Untouched = s.locals
locals_after h s Reads = s.locals
locals_after h s (Sets source) = set s.locals (local h.instr) (kind_of_source h s source)
locals_after h s Walks = set (set s.locals (local h.instr) (kind_of_row h.file rows.Object)) (second_local h.instr) Num

-- the state after an instruction
abbrev pub state_behind : Here → State → State
state_behind h s = record { stack = map (kind_of_source h s) h.row.gives ++ drop (depth h) s.stack; scopes = scopes_after h s h.row.scoping; locals = locals_after h s h.row.locals }

abbrev pub leads : Here → Leads → List ℕ
leads h Next = (h.place + 1) ∷ []
leads h Branches = (h.place + 1) ∷ targets h.instr
leads h Jumps = targets h.instr
leads h Switches = targets h.instr
leads h Ends = []

abbrev pub states_after : Here → State → List (ℕ × State)
states_after h s = cond (goes_on_after (needs h) (stack_below h s)) (map (λ t. (t, state_behind h s)) (leads h h.row.leads)) []

-- the handlers that cover a place
abbrev pub covers : ℕ → Catch → Bool
covers i handler = leb handler.from i && ltb i handler.to

abbrev pub covering : Routine → ℕ → List Catch
covering m i = filter (covers i) m.handlers

abbrev pub caught_state : State → Catch → ℕ × State
caught_state s handler = (handler.target, record { stack = handler.kind ∷ []; scopes = []; locals = s.locals })

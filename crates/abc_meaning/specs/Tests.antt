-- The tests of a step, each asked before the act: where one fails, the step is stuck (profile: docs/MACHINE.md, "The rules of a run").
use Rattle.std.specs.Prelude.{ℕ, ◌+◌, ◌-◌, List, [], ◌∷◌, Bool, true, false, ◌&&◌, length, take, drop, reverse, is_some, nat_le, nat_lt, slice_get, Some, None}
use Rattle.std.specs.declared.option.Option.{Option}
use Rattle.abc_heap_values.specs.declared.values.Value.{Value}
use Rattle.abc_heap_values.specs.declared.values.Value.TheVariants.{Null, Num, Space, Obj}
use Rattle.abc_heap_store.specs.Heap.{Object}
use Rattle.abc_heap_store.specs.declared.records.ScopeEntry.{ScopeEntry}
use Rattle.abc_link_names.specs.Slots.{slot_numbered}
use Rattle.abc_link_names.specs.declared.part.LayoutId.{LayoutId}
use Rattle.abc_verify_typing.specs.Instructions.{operand, second_local}
use Rattle.abc_verify_typing.specs.declared.row.Locals.{Locals}
use Rattle.abc_verify_typing.specs.declared.row.Locals.TheVariants.{Untouched, Reads, Sets, Walks}
use Rattle.abc_verify_typing.specs.declared.row.Need.{Need}
use Rattle.abc_verify_typing.specs.declared.row.Need.TheVariants as needed
use Rattle.abc_verify_typing.specs.declared.row.Operand.{Operand}
use Rattle.abc_verify_typing.specs.declared.row.Operand.TheVariants.{Unnamed, StringAt, IntAt, UintAt, DoubleAt, NamespaceAt, FunctionAt, ClassAt, HandlerAt, NameAt, PlainNameAt, TypeAt, TypeOrAny, ScopeAt}
use Rattle.abc_file_types.specs.declared.code.Instr.{Instr}
use Rattle.abc_verify_typing.specs.Effects.{Here, args, depth, multiname_at, needs, runtime}
use Rattle.abc_verify_typing.specs.Rules.{has_form, has_locals, in_table, is_here, may_pop, may_push, reaches, super_layout}
use Rattle.abc_frames.specs.Frame.{Frame}
use Rattle.abc_meaning.specs.Setting.{Setting}
use Rattle.abc_meaning.specs.World.{World, object_named}
use Rattle.abc_meaning.specs.At.{ActCase}

-- ---- how an instruction finds its values: its arguments on top, then the others, with the parts of the name among them

abbrev pub parts_count : Here → ℕ
parts_count h = length (runtime (multiname_at h.file (operand h.instr)))

abbrev pub values_of : List Need → ℕ → List Value → List Value
values_of (needed.Runtime ∷ ns) n vs = values_of ns n (drop n vs)
values_of (need ∷ ns) n (v ∷ vs) = v ∷ values_of ns n vs
values_of ns n vs = []

abbrev pub name_values : List Need → ℕ → List Value → List Value
name_values (needed.Runtime ∷ ns) n vs = take n vs
name_values (need ∷ ns) n (v ∷ vs) = name_values ns n vs
name_values ns n vs = []

abbrev pub at_frame : Setting → Here → Frame → ActCase
at_frame p h f =
    let below = drop (args h) f.stack in
    record {
      setting = p;
      here = h;
      frame = f;
      rest = record f { stack = drop (depth h) f.stack };
      args = reverse (take (args h) f.stack);
      values = values_of h.row.takes (parts_count h) below;
      parts = name_values h.row.takes (parts_count h) below;
    }

-- ---- tests of values

abbrev pub is_below : Setting → ℕ → Option Object → Bool
is_below p x None = false
is_below p x (Some ob) = reaches p.linked ob.layout ob.layout x

-- null or an instance of the owner's class; where a super operation may not stand, its place is what is tested
abbrev pub is_receiver : Setting → World → Option LayoutId → Value → Bool
is_receiver p w None v = true
is_receiver p w (Some x) Null = true
is_receiver p w (Some x) (Obj o) = is_below p x.0 (object_named o w)
is_receiver p w (Some x) v = false

abbrev pub has_slot_numbered : Setting → ℕ → Option Object → Bool
has_slot_numbered p n None = false
has_slot_numbered p n (Some ob) = is_some (slot_numbered p.linked ob.layout n)

-- a runtime namespace is null or a namespace, an index a number, the receiver of a slot null or an object that has it
abbrev pub meets : Setting → Here → World → Need → Value → Bool
meets p h w needed.Namespace Null = true
meets p h w needed.Namespace (Space n) = true
meets p h w needed.Namespace v = false
meets p h w needed.Index (Num n) = true
meets p h w needed.Index v = false
meets p h w needed.Slotted Null = true
meets p h w needed.Slotted (Obj o) = has_slot_numbered p (operand h.instr) (object_named o w)
meets p h w needed.Slotted v = false
meets p h w needed.Instance v = is_receiver p w (super_layout h.row.site h.method.home) v
meets p h w needed.Value v = true
meets p h w needed.Runtime v = true

-- whether a value is there is what the depth of the stack is tested for
abbrev pub all_meet : Setting → Here → World → List Need → List Value → Bool
all_meet p h w [] vs = true
all_meet p h w (n ∷ ns) [] = true
all_meet p h w (n ∷ ns) (v ∷ vs) = meets p h w n v && all_meet p h w ns vs

-- ---- tests of the frame

abbrev pub is_some_number : Option Value → Bool
is_some_number (Some (Num n)) = true
is_some_number v = false

abbrev pub walks_number : Locals → Instr → List Value → Bool
walks_number Walks i vs = is_some_number (slice_get vs (second_local i))
walks_number Untouched i vs = true
walks_number Reads i vs = true
walks_number (Sets source) i vs = true

abbrev pub has_scope : Operand → Instr → List ScopeEntry → Bool
has_scope ScopeAt i scopes = nat_lt (operand i) (length scopes)
has_scope Unnamed i scopes = true
has_scope StringAt i scopes = true
has_scope IntAt i scopes = true
has_scope UintAt i scopes = true
has_scope DoubleAt i scopes = true
has_scope NamespaceAt i scopes = true
has_scope FunctionAt i scopes = true
has_scope ClassAt i scopes = true
has_scope HandlerAt i scopes = true
has_scope NameAt i scopes = true
has_scope PlainNameAt i scopes = true
has_scope TypeAt i scopes = true
has_scope TypeOrAny i scopes = true

abbrev pub can_run : Setting → Here → Frame → World → Bool
can_run p h f w =
    in_table h.file h.method h.row.operand (operand h.instr) && has_form h.file h.row.operand (operand h.instr)
    && nat_le (depth h) (length f.stack) && nat_le (length f.stack - depth h + length h.row.gives) h.method.max_stack
    && may_pop h.row.scoping (length f.scopes) && may_push h.row.scoping (length f.scopes) h.method.scope_size
    && has_locals h.row.locals h.instr (length f.locals) && walks_number h.row.locals h.instr f.locals
    && has_scope h.row.operand h.instr f.scopes && is_here h.method h.row.site
    && all_meet p h w (needs h) (drop (args h) f.stack)

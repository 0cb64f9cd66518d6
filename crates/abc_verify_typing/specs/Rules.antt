-- The rules, in the order in which a refusal names them (profile: docs/VERIFYING.md, "Rules").
use Rattle.std.specs.Prelude.{ℕ, zero, suc, is_some, nat_eq, ◌+◌, ◌-◌, List, [], ◌∷◌, ◌++◌, Bool, true, false, cond, not, ◌&&◌, ◌||◌, leb, ltb, eqb, Option, Some, None, length, map, slice_get}
use Rattle.abc_link_names.specs.declared.types.Kind.{Kind}
use Rattle.abc_link_names.specs.declared.types.Kind.TheVariants.{Any, Undef, Null, Num, Bool as Truth, Text, Space, Obj}
use Rattle.abc_link_names.specs.Linked.{above, LinkedFile}
use Rattle.abc_link_names.specs.Owners.{body_of, owner_of}
use Rattle.abc_link_names.specs.declared.part.LayoutId.{LayoutId}
use Rattle.abc_link_names.specs.declared.types.Owner.{Owner}
use Rattle.abc_link_names.specs.declared.types.Owner.TheVariants as owners
use Rattle.abc_verify_typing.specs.Instructions.{local, opcode, operand, second_local}
use Rattle.abc_verify_typing.specs.Rows.{Shape, row_at}
use Rattle.abc_file_types.specs.declared.code.Instr.{Instr}
use Rattle.abc_file_types.specs.declared.names.Multiname.{Multiname}
use Rattle.abc_file_types.specs.declared.names.Multiname.TheVariants as names
use Rattle.abc_verify_typing.specs.declared.home.Home.{Home}
use Rattle.abc_verify_typing.specs.declared.home.Home.TheVariants.{Elsewhere, OnInstances, MakesInstances}
use Rattle.abc_verify_typing.specs.Routines.{Routine, type_at}
use Rattle.abc_verify_typing.specs.declared.catch.Catch.{Catch}
use Rattle.abc_verify_typing.specs.declared.state.State.{State}
use Rattle.abc_verify_typing.specs.declared.rule.VerifyRule.{VerifyRule}
use Rattle.abc_verify_typing.specs.declared.rule.VerifyRule.TheVariants.{NotRun, PoolIndex, NameForm, StackUnder, StackOver, ScopeUnder, ScopeOver, LocalIndex, OffEnd, Merge, NotSpace, NotObject, SlotIndex, ScopeIndex, NotHere, NotIndex, Parameters, Flags}
use Rattle.abc_verify_typing.specs.declared.row.Operand.{Operand}
use Rattle.abc_verify_typing.specs.declared.row.Operand.TheVariants.{Unnamed, StringAt, IntAt, UintAt, DoubleAt, NamespaceAt, FunctionAt, ClassAt, HandlerAt, NameAt, PlainNameAt, TypeAt, TypeOrAny, ScopeAt}
use Rattle.abc_verify_typing.specs.declared.row.Need.{Need}
use Rattle.abc_verify_typing.specs.declared.row.Need.TheVariants.{Value, Namespace, Index, Slotted, Instance, Runtime}
use Rattle.abc_verify_typing.specs.declared.row.Locals.{Locals}
use Rattle.abc_verify_typing.specs.declared.row.Locals.TheVariants.{Untouched, Reads, Sets, Walks}
use Rattle.abc_verify_typing.specs.declared.row.Scoping.{Scoping}
use Rattle.abc_verify_typing.specs.declared.row.Scoping.TheVariants.{Stays, Pushes, Pops}
use Rattle.abc_verify_typing.specs.declared.row.Site.{Site}
use Rattle.abc_verify_typing.specs.declared.row.Site.TheVariants.{Anywhere, WithActivation, OnInstance, InMaker}
use Rattle.abc_verify_typing.specs.Effects.{Here, multiname_at, slot_kind_at, needs, depth, stack_below, kind_at, leads, states_after, covering, caught_state}

abbrev pub is_free_owner : Owner → Bool
is_free_owner owners.Free = true
is_free_owner owner = false

-- a method that no one owns and that has a body
abbrev pub is_function : LinkedFile → ℕ → Bool
is_function p n = is_free_owner (owner_of p.file n) && is_some (body_of p.file n)

abbrev pub all_below : List ℕ → ℕ → Bool
all_below [] n = true
all_below (x ∷ xs) n = ltb x n && all_below xs n

-- a pool begins with its number 1, and what the number 0 means is its own; other tables begin with 0
abbrev pub in_table : LinkedFile → Routine → Operand → ℕ → Bool
in_table p m StringAt n = leb n (length p.file.strings)
in_table p m IntAt n = leb n (length p.file.ints)
in_table p m UintAt n = leb n (length p.file.uints)
in_table p m DoubleAt n = leb n (length p.file.doubles)
in_table p m NamespaceAt n = ltb 0 n && leb n (length p.file.namespaces)
in_table p m FunctionAt n = ltb n (length p.file.methods) && is_function p n
in_table p m ClassAt n = ltb n (length p.file.instances)
in_table p m HandlerAt n = ltb n (length m.handlers)
in_table p m NameAt n = ltb 0 n && leb n (length p.file.names)
in_table p m PlainNameAt n = ltb 0 n && leb n (length p.file.names)
in_table p m TypeAt n = ltb 0 n && leb n (length p.file.names)
in_table p m TypeOrAny n = leb n (length p.file.names)
in_table p m Unnamed n = true
in_table p m ScopeAt n = true

-- no attribute, no name 0, and no type with parameters
abbrev pub is_plain_multiname : Option Multiname → Bool
is_plain_multiname (Some (names.QName attr ns n)) = not attr && ltb 0 n
is_plain_multiname (Some (names.Multi attr n set)) = not attr && ltb 0 n
is_plain_multiname name = false

abbrev pub is_static_name : Option Multiname → Bool
is_static_name (Some (names.Rt attr n)) = not attr && ltb 0 n
is_static_name (Some (names.RtL attr)) = not attr
is_static_name (Some (names.MultiL attr set)) = not attr
is_static_name name = is_plain_multiname name

-- the operand n, if it is a name or a type, has the form that the row asks for
abbrev pub has_form : LinkedFile → Operand → ℕ → Bool
has_form p NameAt n = is_static_name (multiname_at p n)
has_form p PlainNameAt n = is_plain_multiname (multiname_at p n)
has_form p TypeAt n = is_some (type_at p n)
has_form p TypeOrAny n = is_some (type_at p n)
has_form p Unnamed n = true
has_form p StringAt n = true
has_form p IntAt n = true
has_form p UintAt n = true
has_form p DoubleAt n = true
has_form p NamespaceAt n = true
has_form p FunctionAt n = true
has_form p ClassAt n = true
has_form p HandlerAt n = true
has_form p ScopeAt n = true

abbrev pub is_without_catches : List Catch → Bool
is_without_catches [] = true
is_without_catches (h ∷ hs) = false

-- if a scope is popped, there is one; n is how many local scopes there are
abbrev pub may_pop : Scoping → ℕ → Bool
may_pop Pops n = ltb 0 n
may_pop Stays n = true
may_pop (Pushes is_with) n = true

-- if a scope is pushed, there is room for it; n is how many local scopes there are, and `size` how many there may be
abbrev pub may_push : Scoping → ℕ → ℕ → Bool
may_push (Pushes is_with) n size = ltb n size
may_push Stays n size = true
may_push Pops n size = true

-- the locals that an instruction names are among the first `count`; those of hasnext2 are two different ones
abbrev pub has_locals : Locals → Instr → ℕ → Bool
has_locals Untouched i count = true
has_locals Reads i count = ltb (local i) count
has_locals (Sets source) i count = ltb (local i) count
has_locals Walks i count = ltb (local i) count && (ltb (second_local i) count && not (eqb (local i) (second_local i)))

-- whether a layout is another or stands under it, by at most so many steps
abbrev pub reaches : LinkedFile → ℕ → ℕ → ℕ → Bool
reaches p zero l m = nat_eq l m
reaches p (suc k) l m = nat_eq l m || reaches p k (above p l) m

-- the layout that a super operation is about, where it is permitted
abbrev pub super_layout : Site → Home → Option LayoutId
super_layout OnInstance (OnInstances l) = Some l
super_layout OnInstance (MakesInstances l) = Some l
super_layout InMaker (MakesInstances l) = Some l
super_layout OnInstance Elsewhere = None
super_layout InMaker Elsewhere = None
super_layout InMaker (OnInstances l) = None
super_layout Anywhere home = None
super_layout WithActivation home = None

abbrev pub is_here : Routine → Site → Bool
is_here m Anywhere = true
is_here m WithActivation = m.needs_activation
is_here m OnInstance = is_some (super_layout OnInstance m.home)
is_here m InMaker = is_some (super_layout InMaker m.home)

-- kinds

-- Space or Null
abbrev pub is_namespace : Kind → Bool
is_namespace Null = true
is_namespace Space = true
is_namespace k = false

-- Null, or the Obj of a layout
abbrev pub is_object : Kind → Bool
is_object Null = true
is_object (Obj l) = true
is_object k = false

-- Num
abbrev pub is_kind_number : Kind → Bool
is_kind_number Num = true
is_kind_number k = false

-- Null, or the Obj of a layout at or under m; where no layout is given, any kind
abbrev pub is_instance_of_layout : LinkedFile → Option LayoutId → Kind → Bool
is_instance_of_layout p None k = true
is_instance_of_layout p (Some m) Null = true
is_instance_of_layout p (Some m) (Obj l) = reaches p l.0 l.0 m.0
is_instance_of_layout p (Some m) k = false

-- an Obj has to have the slot of number j; any other kind passes
abbrev pub has_slot : LinkedFile → ℕ → Kind → Bool
has_slot p j (Obj l) = is_some (slot_kind_at p l.0 j)
has_slot p j Any = true
has_slot p j Undef = true
has_slot p j Null = true
has_slot p j Num = true
has_slot p j Truth = true
has_slot p j Text = true
has_slot p j Space = true

-- what the four rules on values ask of a value that is taken, by what the row says of it
abbrev pub suits_space : Need → Kind → Bool
suits_space Value k = true
suits_space Namespace k = is_namespace k
suits_space Index k = true
suits_space Slotted k = true
suits_space Instance k = true
suits_space Runtime k = true

abbrev pub suits_object : Here → Need → Kind → Bool
suits_object h Value k = true
suits_object h Namespace k = true
suits_object h Index k = true
suits_object h Slotted k = is_object k
suits_object h Instance k = is_instance_of_layout h.file (super_layout h.row.site h.method.home) k
suits_object h Runtime k = true

abbrev pub suits_slot : Here → Need → Kind → Bool
suits_slot h Value k = true
suits_slot h Namespace k = true
suits_slot h Index k = true
suits_slot h Slotted k = has_slot h.file (operand h.instr) k
suits_slot h Instance k = true
suits_slot h Runtime k = true

abbrev pub suits_index : Need → Kind → Bool
suits_index Value k = true
suits_index Namespace k = true
suits_index Index k = is_kind_number k
suits_index Slotted k = true
suits_index Instance k = true
suits_index Runtime k = true

-- the other rules ask nothing of it
abbrev pub suits : Here → VerifyRule → Need → Kind → Bool
suits h NotSpace need k = suits_space need k
suits h NotObject need k = suits_object h need k
suits h SlotIndex need k = suits_slot h need k
suits h NotIndex need k = suits_index need k
suits h NotRun need k = true
suits h PoolIndex need k = true
suits h NameForm need k = true
suits h StackUnder need k = true
suits h StackOver need k = true
suits h ScopeUnder need k = true
suits h ScopeOver need k = true
suits h LocalIndex need k = true
suits h OffEnd need k = true
suits h Merge need k = true
suits h ScopeIndex need k = true
suits h NotHere need k = true
suits h Parameters need k = true
suits h Flags need k = true

-- a value that isn't there is left to StackUnder
abbrev pub all_suit : Here → VerifyRule → List Need → List Kind → Bool
all_suit h r [] ks = true
all_suit h r (n ∷ ns) [] = true
all_suit h r (n ∷ ns) (k ∷ ks) = suits h r n k && all_suit h r ns ks

abbrev pub is_walked : Here → State → Locals → Bool
is_walked h s Walks = is_kind_number (kind_at s.locals (second_local h.instr))
is_walked h s Untouched = true
is_walked h s Reads = true
is_walked h s (Sets source) = true

abbrev pub names_scope : Here → State → Operand → Bool
names_scope h s ScopeAt = ltb (operand h.instr) (length s.scopes)
names_scope h s Unnamed = true
names_scope h s StringAt = true
names_scope h s IntAt = true
names_scope h s UintAt = true
names_scope h s DoubleAt = true
names_scope h s NamespaceAt = true
names_scope h s FunctionAt = true
names_scope h s ClassAt = true
names_scope h s HandlerAt = true
names_scope h s NameAt = true
names_scope h s PlainNameAt = true
names_scope h s TypeAt = true
names_scope h s TypeOrAny = true

abbrev pub handler_target : Catch → ℕ
handler_target h = h.target

-- what each rule asks of a state at an instruction
abbrev pub keeps : Here → State → VerifyRule → Bool
keeps h s PoolIndex = in_table h.file h.method h.row.operand (operand h.instr)
keeps h s NameForm = has_form h.file h.row.operand (operand h.instr)
keeps h s StackUnder = leb (depth h) (length s.stack)
keeps h s StackOver = leb (length s.stack - depth h + length h.row.gives) h.method.max_stack && (ltb 0 h.method.max_stack || is_without_catches (covering h.method h.place))
keeps h s ScopeUnder = may_pop h.row.scoping (length s.scopes)
keeps h s ScopeOver = may_push h.row.scoping (length s.scopes) h.method.scope_size
keeps h s LocalIndex = has_locals h.row.locals h.instr h.method.local_count
keeps h s OffEnd = all_below (leads h h.row.leads) (length h.method.code) && all_below (map handler_target (covering h.method h.place)) (length h.method.code)
keeps h s NotSpace = all_suit h NotSpace (needs h) (stack_below h s)
keeps h s NotObject = all_suit h NotObject (needs h) (stack_below h s)
keeps h s SlotIndex = all_suit h SlotIndex (needs h) (stack_below h s)
keeps h s ScopeIndex = names_scope h s h.row.operand
keeps h s NotHere = is_here h.method h.row.site
keeps h s NotIndex = all_suit h NotIndex (needs h) (stack_below h s) && is_walked h s h.row.locals
keeps h s Parameters = ltb 0 h.place || leb (length h.method.filled) h.method.local_count
keeps h s Flags = ltb 0 h.place || not h.method.unsupported
keeps h s NotRun = true
keeps h s Merge = true

abbrev pub early_rules : List VerifyRule
early_rules = PoolIndex ∷ NameForm ∷ StackUnder ∷ StackOver ∷ ScopeUnder ∷ ScopeOver ∷ LocalIndex ∷ OffEnd ∷ []

abbrev pub late_rules : List VerifyRule
late_rules = NotSpace ∷ NotObject ∷ SlotIndex ∷ ScopeIndex ∷ NotHere ∷ NotIndex ∷ Parameters ∷ Flags ∷ []

abbrev pub first_broken : (VerifyRule → Bool) → List VerifyRule → Option VerifyRule
first_broken kept [] = None
first_broken kept (r ∷ rs) = cond (kept r) (first_broken kept rs) (Some r)

-- an opcode without a row is not run
abbrev pub at_row : LinkedFile → Routine → ℕ → Instr → List VerifyRule → State → Option Shape → Option VerifyRule
at_row p m i instr rules s None = Some NotRun
at_row p m i instr rules s (Some row) = first_broken (keeps (record { file = p; method = m; place = i; instr = instr; row = row }) s) rules

-- a place without an instruction is the code's end
abbrev pub at_instr : LinkedFile → Routine → ℕ → List VerifyRule → State → Option Instr → Option VerifyRule
at_instr p m i rules s None = Some OffEnd
at_instr p m i rules s (Some instr) = at_row p m i instr rules s (row_at (opcode instr))

-- the first rule that a state breaks at a place, Merge left out; the first before Merge
abbrev pub broken : LinkedFile → Routine → ℕ → State → Option VerifyRule
broken p m i s = at_instr p m i (early_rules ++ late_rules) s (slice_get m.code i)

-- the first rule before Merge that a state breaks at the index i
abbrev pub broken_early : LinkedFile → Routine → ℕ → State → Option VerifyRule
broken_early p m i s = at_instr p m i early_rules s (slice_get m.code i)

-- what follows a state
abbrev pub after_row : LinkedFile → Routine → ℕ → Instr → State → Option Shape → List (ℕ × State)
after_row p m i instr s None = []
after_row p m i instr s (Some row) = states_after (record { file = p; method = m; place = i; instr = instr; row = row }) s

abbrev pub after_instr : LinkedFile → Routine → ℕ → State → Option Instr → List (ℕ × State)
after_instr p m i s None = []
after_instr p m i s (Some instr) = after_row p m i instr s (row_at (opcode instr))

abbrev pub follows : LinkedFile → Routine → ℕ → State → List (ℕ × State)
follows p m i s = after_instr p m i s (slice_get m.code i) ++ map (caught_state s) (covering m i)

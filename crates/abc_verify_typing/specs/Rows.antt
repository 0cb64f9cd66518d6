-- The table of instructions, as far as a verifier asks: what is taken, what is pushed, and where it leads
-- (Overview, chapter 5; profile: docs/VERIFYING.md, "Instructions").
use Rattle.std.specs.Prelude.{ℕ, List, [], ◌∷◌, Bool, true, false, cond, nat_eq, map}
use Rattle.std.specs.Prelude.{Some, None}
use Rattle.std.specs.declared.option.Option.{Option}
use Rattle.abc_verify_typing.specs.declared.row.RowKind.{RowKind}
use Rattle.abc_verify_typing.specs.declared.row.RowKind.TheVariants.{Any, Undef, Null, Num, Bool as Truth, Text, Space, Object, Function, Array}
use Rattle.abc_verify_typing.specs.declared.row.Operand.{Operand}
use Rattle.abc_verify_typing.specs.declared.row.Operand.TheVariants.{Unnamed, StringAt, IntAt, UintAt, DoubleAt, NamespaceAt, FunctionAt, ClassAt, HandlerAt, NameAt, PlainNameAt, TypeAt, TypeOrAny, ScopeAt}
use Rattle.abc_verify_typing.specs.declared.row.Need.{Need}
use Rattle.abc_verify_typing.specs.declared.row.Need.TheVariants.{Value, Index, Slotted, Instance, Runtime}
use Rattle.abc_verify_typing.specs.declared.row.Source.{Source}
use Rattle.abc_verify_typing.specs.declared.row.Source.TheVariants.{Fixed, Taken, LocalKind, ScopeKind, SlotKind, SumKind, TypeKind, AsTypeKind, ActivationKind, ClassObjectKind, CatchObjectKind}
use Rattle.abc_verify_typing.specs.declared.row.Locals.{Locals}
use Rattle.abc_verify_typing.specs.declared.row.Locals.TheVariants.{Untouched, Reads, Sets, Walks}
use Rattle.abc_verify_typing.specs.declared.row.Scoping.{Scoping}
use Rattle.abc_verify_typing.specs.declared.row.Scoping.TheVariants.{Stays, Pushes, Pops}
use Rattle.abc_verify_typing.specs.declared.row.Leads.{Leads}
use Rattle.abc_verify_typing.specs.declared.row.Leads.TheVariants.{Next, Branches, Jumps, Switches, Ends}
use Rattle.abc_verify_typing.specs.declared.row.Site.{Site}
use Rattle.abc_verify_typing.specs.declared.row.Site.TheVariants.{Anywhere, WithActivation, OnInstance, InMaker}
use Rattle.abc_file_types.specs.declared.op.TheConstants as op

-- takes and gives have the top first; so many values for each argument are taken from above
pub record Shape : Type 0 where
  pub operand : Operand
  pub args : ℕ
  pub takes : List Need
  pub gives : List Source
  pub locals : Locals
  pub scoping : Scoping
  pub leads : Leads
  pub site : Site

-- the words that the table is written with
abbrev pub shape_with : List Need → List Source → Shape
shape_with takes gives = record { operand = Unnamed; args = 0; takes = takes; gives = gives; locals = Untouched; scoping = Stays; leads = Next; site = Anywhere }

abbrev pub naming_shape : Operand → Shape → Shape
naming_shape operand r = record r { operand = operand }

abbrev pub with_argument_count : ℕ → Shape → Shape
with_argument_count n r = record r { args = n }

abbrev pub on_locals : Locals → Shape → Shape
on_locals locals r = record r { locals = locals }

abbrev pub on_scopes : Scoping → Shape → Shape
on_scopes scoping r = record r { scoping = scoping }

abbrev pub leading : Leads → Shape → Shape
leading leads r = record r { leads = leads }

abbrev pub only_at : Site → Shape → Shape
only_at site r = record r { site = site }

-- one row for several opcodes
abbrev pub shapes_of : List ℕ → Shape → List (ℕ × Shape) → List (ℕ × Shape)
shapes_of [] r rest = rest
shapes_of (op ∷ ops) r rest = (op, r) ∷ shapes_of ops r rest

abbrev pub makes : List Need → RowKind → Shape
makes takes k = shape_with takes (Fixed k ∷ [])

abbrev pub value : List Need
value = Value ∷ []

abbrev pub two_values : List Need
two_values = Value ∷ Value ∷ []

-- what is not in the table is not run
unfoldable pub table_of_rows : List (ℕ × Shape)
table_of_rows =
    -- nop, label, debugline; debug, debugfile
    shapes_of (op.NOP ∷ op.LABEL ∷ op.DEBUGLINE ∷ []) (shape_with [] [])
    (shapes_of (op.DEBUG ∷ op.DEBUGFILE ∷ []) (naming_shape StringAt (shape_with [] []))
    (shapes_of (op.THROW ∷ op.RETURNVALUE ∷ []) (leading Ends (shape_with value []))
    (shapes_of (op.RETURNVOID ∷ []) (leading Ends (shape_with [] []))
    -- ifnlt to ifnge, ifeq to ifstrictne; iftrue, iffalse; jump; lookupswitch
    (shapes_of (op.IFNLT ∷ op.IFNLE ∷ op.IFNGT ∷ op.IFNGE ∷ op.IFEQ ∷ op.IFNE ∷ op.IFLT ∷ op.IFLE ∷ op.IFGT ∷ op.IFGE ∷ op.IFSTRICTEQ ∷ op.IFSTRICTNE ∷ []) (leading Branches (shape_with two_values []))
    (shapes_of (op.IFTRUE ∷ op.IFFALSE ∷ []) (leading Branches (shape_with value []))
    (shapes_of (op.JUMP ∷ []) (leading Jumps (shape_with [] []))
    (shapes_of (op.LOOKUPSWITCH ∷ []) (leading Switches (shape_with (Index ∷ []) []))
    (shapes_of (op.PUSHWITH ∷ []) (on_scopes (Pushes true) (shape_with value []))
    (shapes_of (op.PUSHSCOPE ∷ []) (on_scopes (Pushes false) (shape_with value []))
    (shapes_of (op.POPSCOPE ∷ []) (on_scopes Pops (shape_with [] []))
    (shapes_of (op.NEXTNAME ∷ []) (makes (Index ∷ Value ∷ []) Text)
    (shapes_of (op.HASNEXT ∷ []) (makes (Index ∷ Value ∷ []) Num)
    (shapes_of (op.NEXTVALUE ∷ []) (makes (Index ∷ Value ∷ []) Any)
    (shapes_of (op.HASNEXT2 ∷ []) (on_locals Walks (makes [] Truth))
    -- pushnull, pushundefined; pushtrue, pushfalse; pushbyte, pushshort, pushnan
    (shapes_of (op.PUSHNULL ∷ []) (makes [] Null)
    (shapes_of (op.PUSHUNDEFINED ∷ []) (makes [] Undef)
    (shapes_of (op.PUSHTRUE ∷ op.PUSHFALSE ∷ []) (makes [] Truth)
    (shapes_of (op.PUSHBYTE ∷ op.PUSHSHORT ∷ op.PUSHNAN ∷ []) (makes [] Num)
    (shapes_of (op.PUSHSTRING ∷ []) (naming_shape StringAt (makes [] Text))
    (shapes_of (op.PUSHINT ∷ []) (naming_shape IntAt (makes [] Num))
    (shapes_of (op.PUSHUINT ∷ []) (naming_shape UintAt (makes [] Num))
    (shapes_of (op.PUSHDOUBLE ∷ []) (naming_shape DoubleAt (makes [] Num))
    (shapes_of (op.PUSHNAMESPACE ∷ []) (naming_shape NamespaceAt (makes [] Space))
    (shapes_of (op.POP ∷ []) (shape_with value [])
    (shapes_of (op.DUP ∷ []) (shape_with value (Taken 0 ∷ Taken 0 ∷ []))
    (shapes_of (op.SWAP ∷ []) (shape_with two_values (Taken 1 ∷ Taken 0 ∷ []))
    -- getlocal and getlocal_0 to 3, setlocal and setlocal_0 to 3, kill; inclocal, declocal, inclocal_i, declocal_i
    (shapes_of (op.GETLOCAL ∷ op.GETLOCAL_0 ∷ op.GETLOCAL_1 ∷ op.GETLOCAL_2 ∷ op.GETLOCAL_3 ∷ []) (on_locals Reads (shape_with [] (LocalKind ∷ [])))
    (shapes_of (op.SETLOCAL ∷ op.SETLOCAL_0 ∷ op.SETLOCAL_1 ∷ op.SETLOCAL_2 ∷ op.SETLOCAL_3 ∷ []) (on_locals (Sets (Taken 0)) (shape_with value []))
    (shapes_of (op.KILL ∷ []) (on_locals (Sets (Fixed Undef)) (shape_with [] []))
    (shapes_of (op.INCLOCAL ∷ op.DECLOCAL ∷ op.INCLOCAL_I ∷ op.DECLOCAL_I ∷ []) (on_locals (Sets (Fixed Num)) (shape_with [] []))
    (shapes_of (op.NEWFUNCTION ∷ []) (naming_shape FunctionAt (makes [] Function))
    (shapes_of (op.NEWOBJECT ∷ []) (with_argument_count 2 (makes [] Object))
    (shapes_of (op.NEWARRAY ∷ []) (with_argument_count 1 (makes [] Array))
    (shapes_of (op.NEWACTIVATION ∷ []) (only_at WithActivation (shape_with [] (ActivationKind ∷ [])))
    (shapes_of (op.NEWCLASS ∷ []) (naming_shape ClassAt (shape_with value (ClassObjectKind ∷ [])))
    (shapes_of (op.NEWCATCH ∷ []) (naming_shape HandlerAt (shape_with [] (CatchObjectKind ∷ [])))
    -- call, construct; callproperty, constructprop, callproplex; callpropvoid
    (shapes_of (op.CALL ∷ []) (with_argument_count 1 (makes two_values Any))
    (shapes_of (op.CONSTRUCT ∷ []) (with_argument_count 1 (makes value Any))
    (shapes_of (op.CALLPROPERTY ∷ op.CONSTRUCTPROP ∷ op.CALLPROPLEX ∷ []) (with_argument_count 1 (naming_shape NameAt (makes (Runtime ∷ Value ∷ []) Any)))
    (shapes_of (op.CALLPROPVOID ∷ []) (with_argument_count 1 (naming_shape NameAt (shape_with (Runtime ∷ Value ∷ []) [])))
    (shapes_of (op.GETSUPER ∷ []) (only_at OnInstance (naming_shape NameAt (makes (Runtime ∷ Instance ∷ []) Any)))
    (shapes_of (op.SETSUPER ∷ []) (only_at OnInstance (naming_shape NameAt (shape_with (Value ∷ Runtime ∷ Instance ∷ []) [])))
    (shapes_of (op.CALLSUPER ∷ []) (only_at OnInstance (with_argument_count 1 (naming_shape NameAt (makes (Runtime ∷ Instance ∷ []) Any))))
    (shapes_of (op.CALLSUPERVOID ∷ []) (only_at OnInstance (with_argument_count 1 (naming_shape NameAt (shape_with (Runtime ∷ Instance ∷ []) []))))
    (shapes_of (op.CONSTRUCTSUPER ∷ []) (only_at InMaker (with_argument_count 1 (shape_with (Instance ∷ []) [])))
    -- findpropstrict, findproperty; getlex; setproperty, initproperty; getproperty, deleteproperty
    (shapes_of (op.FINDPROPSTRICT ∷ op.FINDPROPERTY ∷ []) (naming_shape NameAt (makes (Runtime ∷ []) Object))
    (shapes_of (op.GETLEX ∷ []) (naming_shape PlainNameAt (makes [] Any))
    (shapes_of (op.SETPROPERTY ∷ op.INITPROPERTY ∷ []) (naming_shape NameAt (shape_with (Value ∷ Runtime ∷ Value ∷ []) []))
    (shapes_of (op.GETPROPERTY ∷ []) (naming_shape NameAt (makes (Runtime ∷ Value ∷ []) Any))
    (shapes_of (op.DELETEPROPERTY ∷ []) (naming_shape NameAt (makes (Runtime ∷ Value ∷ []) Truth))
    -- getglobalscope, getscopeobject; getslot, setslot
    (shapes_of (op.GETGLOBALSCOPE ∷ []) (makes [] Object)
    (shapes_of (op.GETSCOPEOBJECT ∷ []) (naming_shape ScopeAt (shape_with [] (ScopeKind ∷ [])))
    (shapes_of (op.GETSLOT ∷ []) (shape_with (Slotted ∷ []) (SlotKind ∷ []))
    (shapes_of (op.SETSLOT ∷ []) (shape_with (Value ∷ Slotted ∷ []) [])
    -- convert_s, coerce_s, typeof; convert_i, convert_u, convert_d, negate, increment, decrement, bitnot, and these with _i
    (shapes_of (op.CONVERT_S ∷ op.COERCE_S ∷ op.TYPEOF ∷ []) (makes value Text)
    (shapes_of (op.CONVERT_I ∷ op.CONVERT_U ∷ op.CONVERT_D ∷ op.NEGATE ∷ op.INCREMENT ∷ op.DECREMENT ∷ op.BITNOT ∷ op.INCREMENT_I ∷ op.DECREMENT_I ∷ op.NEGATE_I ∷ []) (makes value Num)
    -- convert_b, not; convert_o; coerce, coerce_a, astype, astypelate
    (shapes_of (op.CONVERT_B ∷ op.NOT ∷ []) (makes value Truth)
    (shapes_of (op.CONVERT_O ∷ []) (shape_with value (Taken 0 ∷ []))
    (shapes_of (op.COERCE ∷ []) (naming_shape TypeOrAny (shape_with value (TypeKind ∷ [])))
    (shapes_of (op.COERCE_A ∷ []) (makes value Any)
    (shapes_of (op.ASTYPE ∷ []) (naming_shape TypeAt (shape_with value (AsTypeKind ∷ [])))
    (shapes_of (op.ASTYPELATE ∷ []) (makes two_values Any)
    -- add; subtract to bitxor, add_i to multiply_i; equals to greaterthan, instanceof, greaterequals, istypelate, in; istype
    (shapes_of (op.ADD ∷ []) (shape_with two_values (SumKind ∷ []))
    (shapes_of (op.SUBTRACT ∷ op.MULTIPLY ∷ op.DIVIDE ∷ op.MODULO ∷ op.LSHIFT ∷ op.RSHIFT ∷ op.URSHIFT ∷ op.BITAND ∷ op.BITOR ∷ op.BITXOR ∷ op.ADD_I ∷ op.SUBTRACT_I ∷ op.MULTIPLY_I ∷ []) (makes two_values Num)
    (shapes_of (op.EQUALS ∷ op.STRICTEQUALS ∷ op.LESSTHAN ∷ op.LESSEQUALS ∷ op.GREATERTHAN ∷ op.GREATEREQUALS ∷ op.INSTANCEOF ∷ op.ISTYPELATE ∷ op.IN ∷ []) (makes two_values Truth)
    (shapes_of (op.ISTYPE ∷ []) (naming_shape TypeAt (makes value Truth))
    []
    ))))))))))))))))))))))))))))))))))))))))))))))))))))))))))))))))))

abbrev pub find : ℕ → List (ℕ × Shape) → Option Shape
find op [] = None
find op (r ∷ rs) = cond (nat_eq op r.0) (Some r.1) (find op rs)

-- the row of an opcode
unfoldable pub row_at : ℕ → Option Shape
row_at op = find op table_of_rows

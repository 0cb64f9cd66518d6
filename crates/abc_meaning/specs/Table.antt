-- The table of acts, beside the table of rows: the row says how many values are taken and what is tested, the act what is made of them
-- (Overview, chapter 5; profile: docs/MACHINE.md, "What each instruction does").
use Rattle.std.specs.Prelude.{ℕ, List, [], ◌∷◌, true, false, not, nat_eq, pos, if◌then◌else◌, Some, None}
use Rattle.std.specs.declared.option.Option.{Option}
use Rattle.abc_base.specs.declared.names.Fault.TheVariants as faults
use Rattle.abc_heap_values.specs.declared.values.Value.TheVariants.{Undefined, Null, Num, Bool as Truth, Text, Space}
use Rattle.abc_heap_values.specs.Numbers.{truth_of}
use Rattle.abc_heap_values.specs.declared.numbers.Conversion.TheVariants.{ConvertS, ConvertI, ConvertU, ConvertD, ConvertB, ConvertO, CoerceS}
use Rattle.abc_link_names.specs.Starts.{int_at, uint_at}
use Rattle.abc_meaning.specs.Calling.{calls}
use Rattle.abc_meaning.specs.Entering.{global}
use Rattle.abc_meaning.specs.Making.{new}
use Rattle.abc_meaning.specs.Members.{calls_name, deletes, reads, writes_to}
use Rattle.abc_meaning.specs.Ops.{compares, computes_one, computes_two}
use Rattle.abc_meaning.specs.Setting.{string_of}
use Rattle.abc_meaning.specs.World.{Throws, pure, fails, see, stop, ◌>>=◌}
use Rattle.abc_meaning.specs.At.{Doing, drops_came, gives_pushed, gives_came, goes, makes_of_came, does_nothing, number_here, one, opcode_at, after_pushes, two}
use Rattle.abc_meaning.specs.Late.{coerces_to_operand, has_property_named, instance_test, kept_as, late_type, reads_slot, tested_as, writes_slot}
use Rattle.abc_meaning.specs.Names.{name_of, type_of_operand}
use Rattle.abc_meaning.specs.Newing.{makes_activation, makes_array, makes_catch, makes_class, makes_function, makes_object}
use Rattle.abc_meaning.specs.Scopes.{finds_and_reads, finds_or_global, finds_strictly}
use Rattle.abc_meaning.specs.Simple.{branch_where, converting, counts, flag, local_value, pops_scope, returns, scope_object, pushes_scope, sets_local, switches, whole, where_not, where_so}
use Rattle.abc_meaning.specs.Supers.{calls_super, constructs_super, reads_super, writes_super}
use Rattle.abc_meaning.specs.Walking.{has_next, has_next2, walked_name, position, value_in, object_of}
use Rattle.abc_file_types.specs.declared.op.TheConstants as op

-- one act for several opcodes
abbrev pub acts_of : List ℕ → Doing → List (ℕ × Doing) → List (ℕ × Doing)
acts_of [] d rest = rest
acts_of (op ∷ ops) d rest = (op, d) ∷ acts_of ops d rest

abbrev pub jumping_acts : List (ℕ × Doing) → List (ℕ × Doing)
jumping_acts rest =
    acts_of (op.NOP ∷ op.LABEL ∷ op.DEBUGLINE ∷ op.DEBUG ∷ op.DEBUGFILE ∷ []) does_nothing
    (acts_of (op.THROW ∷ []) (λ a. one a λ v. stop (Throws v))
    (acts_of (op.RETURNVOID ∷ []) (λ a. returns a.setting a.frame Undefined)
    (acts_of (op.RETURNVALUE ∷ []) (λ a. one a (returns a.setting a.frame))
    (acts_of (op.IFNLT ∷ []) (where_not op.LESSTHAN)
    (acts_of (op.IFNLE ∷ []) (where_not op.LESSEQUALS)
    (acts_of (op.IFNGT ∷ []) (where_not op.GREATERTHAN)
    (acts_of (op.IFNGE ∷ []) (where_not op.GREATEREQUALS)
    (acts_of (op.JUMP ∷ []) (branch_where (λ a. pure true))
    (acts_of (op.IFTRUE ∷ []) (branch_where (λ a. one a λ v. pure (truth_of v)))
    (acts_of (op.IFFALSE ∷ []) (branch_where (λ a. one a λ v. pure (not (truth_of v))))
    (acts_of (op.IFEQ ∷ []) (where_so op.EQUALS)
    (acts_of (op.IFNE ∷ []) (where_not op.EQUALS)
    (acts_of (op.IFLT ∷ []) (where_so op.LESSTHAN)
    (acts_of (op.IFLE ∷ []) (where_so op.LESSEQUALS)
    (acts_of (op.IFGT ∷ []) (where_so op.GREATERTHAN)
    (acts_of (op.IFGE ∷ []) (where_so op.GREATEREQUALS)
    (acts_of (op.IFSTRICTEQ ∷ []) (where_so op.STRICTEQUALS)
    (acts_of (op.IFSTRICTNE ∷ []) (where_not op.STRICTEQUALS)
    (acts_of (op.LOOKUPSWITCH ∷ []) switches
    rest
    )))))))))))))))))))

abbrev pub plain_acts : List (ℕ × Doing) → List (ℕ × Doing)
plain_acts rest =
    acts_of (op.PUSHWITH ∷ []) (λ a. one a (pushes_scope true a.rest))
    (acts_of (op.PUSHSCOPE ∷ []) (λ a. one a (pushes_scope false a.rest))
    (acts_of (op.POPSCOPE ∷ []) pops_scope
    (acts_of (op.PUSHNULL ∷ []) (gives_pushed (λ a. pure Null))
    (acts_of (op.PUSHUNDEFINED ∷ []) (gives_pushed (λ a. pure Undefined))
    (acts_of (op.PUSHTRUE ∷ []) (gives_pushed (λ a. pure (Truth true)))
    (acts_of (op.PUSHFALSE ∷ []) (gives_pushed (λ a. pure (Truth false)))
    -- pushbyte, pushshort; pushnan, pushdouble
    (acts_of (op.PUSHBYTE ∷ op.PUSHSHORT ∷ []) (gives_pushed (λ a. pure (Num (whole a.here.instr))))
    (acts_of (op.PUSHNAN ∷ []) (λ a. fails faults.NotANumber)
    (acts_of (op.PUSHDOUBLE ∷ []) (λ a. fails faults.Double)
    (acts_of (op.PUSHSTRING ∷ []) (gives_pushed (λ a. pure (Text (string_of a.setting (number_here a)))))
    (acts_of (op.PUSHINT ∷ []) (gives_pushed (λ a. pure (Num (int_at a.setting.linked.file (number_here a)))))
    (acts_of (op.PUSHUINT ∷ []) (gives_pushed (λ a. pure (Num (pos (uint_at a.setting.linked.file (number_here a))))))
    (acts_of (op.PUSHNAMESPACE ∷ []) (gives_pushed (λ a. pure (Space (number_here a))))
    (acts_of (op.POP ∷ []) does_nothing
    (acts_of (op.DUP ∷ []) (λ a. one a λ v. goes (after_pushes (v ∷ v ∷ []) a.rest))
    (acts_of (op.SWAP ∷ []) (λ a. two a λ x y. goes (after_pushes (x ∷ y ∷ []) a.rest))
    (acts_of (op.GETLOCAL ∷ op.GETLOCAL_0 ∷ op.GETLOCAL_1 ∷ op.GETLOCAL_2 ∷ op.GETLOCAL_3 ∷ []) (gives_pushed local_value)
    (acts_of (op.SETLOCAL ∷ op.SETLOCAL_0 ∷ op.SETLOCAL_1 ∷ op.SETLOCAL_2 ∷ op.SETLOCAL_3 ∷ []) (λ a. one a (sets_local a))
    (acts_of (op.KILL ∷ []) (λ a. sets_local a Undefined)
    (acts_of (op.GETGLOBALSCOPE ∷ []) (gives_pushed (λ a. see (global a.frame.home)))
    (acts_of (op.GETSCOPEOBJECT ∷ []) (gives_pushed scope_object)
    rest
    )))))))))))))))))))))

abbrev pub operation_acts : List (ℕ × Doing) → List (ℕ × Doing)
operation_acts rest =
    acts_of (op.CONVERT_S ∷ []) (converting ConvertS)
    (acts_of (op.CONVERT_I ∷ []) (converting ConvertI)
    (acts_of (op.CONVERT_U ∷ []) (converting ConvertU)
    (acts_of (op.CONVERT_D ∷ []) (converting ConvertD)
    (acts_of (op.CONVERT_B ∷ []) (converting ConvertB)
    (acts_of (op.CONVERT_O ∷ []) (converting ConvertO)
    (acts_of (op.COERCE_S ∷ []) (converting CoerceS)
    (acts_of (op.COERCE ∷ []) (gives_pushed coerces_to_operand)
    (acts_of (op.COERCE_A ∷ []) (gives_pushed (λ a. one a pure))
    -- astype, istype; astypelate, istypelate; instanceof, in
    (acts_of (op.ASTYPE ∷ []) (gives_pushed (λ a. one a λ v. type_of_operand a >>= kept_as a.setting v))
    (acts_of (op.ISTYPE ∷ []) (gives_pushed (λ a. one a λ v. type_of_operand a >>= tested_as a.setting v))
    (acts_of (op.ASTYPELATE ∷ []) (gives_pushed (λ a. two a λ v c. late_type a.setting c >>= kept_as a.setting v))
    (acts_of (op.ISTYPELATE ∷ []) (gives_pushed (λ a. two a λ v c. late_type a.setting c >>= tested_as a.setting v))
    (acts_of (op.INSTANCEOF ∷ []) (gives_pushed instance_test)
    (acts_of (op.IN ∷ []) (gives_pushed has_property_named)
    (acts_of (op.NEGATE ∷ op.INCREMENT ∷ op.DECREMENT ∷ op.TYPEOF ∷ op.NOT ∷ op.BITNOT ∷ op.INCREMENT_I ∷ op.DECREMENT_I ∷ op.NEGATE_I ∷ []) (gives_pushed (λ a. one a (computes_one (opcode_at a))))
    (acts_of (op.INCLOCAL ∷ []) (counts op.INCREMENT)
    (acts_of (op.DECLOCAL ∷ []) (counts op.DECREMENT)
    (acts_of (op.INCLOCAL_I ∷ []) (counts op.INCREMENT_I)
    (acts_of (op.DECLOCAL_I ∷ []) (counts op.DECREMENT_I)
    -- add to bitxor, add_i, subtract_i, multiply_i
    (acts_of (op.ADD ∷ op.SUBTRACT ∷ op.MULTIPLY ∷ op.DIVIDE ∷ op.MODULO ∷ op.LSHIFT ∷ op.RSHIFT ∷ op.URSHIFT ∷ op.BITAND ∷ op.BITOR ∷ op.BITXOR ∷ op.ADD_I ∷ op.SUBTRACT_I ∷ op.MULTIPLY_I ∷ []) (gives_pushed (λ a. two a (computes_two a.setting (opcode_at a))))
    (acts_of (op.EQUALS ∷ op.STRICTEQUALS ∷ op.LESSTHAN ∷ op.LESSEQUALS ∷ op.GREATERTHAN ∷ op.GREATEREQUALS ∷ []) (gives_pushed (λ a. flag (two a (compares a.setting (opcode_at a)))))
    rest
    )))))))))))))))))))))

abbrev pub walking_acts : List (ℕ × Doing) → List (ℕ × Doing)
walking_acts rest =
    acts_of (op.NEXTNAME ∷ []) (gives_pushed (λ a. two a λ o i. see (object_of o) >>= λ ob. walked_name ob (position i)))
    (acts_of (op.HASNEXT ∷ []) (gives_pushed (λ a. two a λ o i. see (has_next o i)))
    (acts_of (op.NEXTVALUE ∷ []) (gives_pushed (λ a. two a λ o i. see (object_of o) >>= λ ob. pure (value_in ob (position i))))
    (acts_of (op.HASNEXT2 ∷ []) has_next2
    rest
    )))

abbrev pub object_acts : List (ℕ × Doing) → List (ℕ × Doing)
object_acts rest =
    acts_of (op.NEWOBJECT ∷ []) (gives_pushed makes_object)
    (acts_of (op.NEWARRAY ∷ []) (gives_pushed makes_array)
    (acts_of (op.FINDPROPSTRICT ∷ []) finds_strictly
    (acts_of (op.FINDPROPERTY ∷ []) finds_or_global
    (acts_of (op.GETLEX ∷ []) finds_and_reads
    -- getproperty; setproperty, initproperty; deleteproperty
    (acts_of (op.GETPROPERTY ∷ []) (gives_came (λ a. one a λ o. name_of a >>= reads a.setting o))
    (acts_of (op.SETPROPERTY ∷ []) (drops_came (λ a. two a λ o v. name_of a >>= λ name. writes_to a.setting o name v false))
    (acts_of (op.INITPROPERTY ∷ []) (drops_came (λ a. two a λ o v. name_of a >>= λ name. writes_to a.setting o name v true))
    (acts_of (op.DELETEPROPERTY ∷ []) (gives_pushed (λ a. flag (one a λ o. name_of a >>= deletes a.setting o)))
    (acts_of (op.GETSLOT ∷ []) (gives_pushed reads_slot)
    (acts_of (op.SETSLOT ∷ []) writes_slot
    rest
    ))))))))))

abbrev pub call_acts : List (ℕ × Doing) → List (ℕ × Doing)
call_acts rest =
    acts_of (op.CALL ∷ []) (gives_came (λ a. two a λ f r. calls a.setting f r a.args))
    (acts_of (op.CONSTRUCT ∷ []) (gives_came (λ a. one a λ c. new a.setting c a.args))
    (acts_of (op.CALLPROPERTY ∷ []) (gives_came (λ a. one a λ o. name_of a >>= λ name. calls_name a.setting o o name a.args))
    (acts_of (op.CALLPROPLEX ∷ []) (gives_came (λ a. one a λ o. name_of a >>= λ name. calls_name a.setting o Null name a.args))
    (acts_of (op.CALLPROPVOID ∷ []) (drops_came (λ a. one a λ o. name_of a >>= λ name. calls_name a.setting o o name a.args))
    -- constructprop: where a getter is read, new is done on what it returns
    (acts_of (op.CONSTRUCTPROP ∷ []) (λ a. one a λ o. name_of a >>= reads a.setting o >>= makes_of_came a (λ v. new a.setting v a.args))
    rest
    )))))

abbrev pub class_acts : List (ℕ × Doing) → List (ℕ × Doing)
class_acts rest =
    acts_of (op.GETSUPER ∷ []) (gives_came reads_super)
    (acts_of (op.SETSUPER ∷ []) (drops_came writes_super)
    (acts_of (op.CALLSUPER ∷ []) (gives_came calls_super)
    (acts_of (op.CALLSUPERVOID ∷ []) (drops_came calls_super)
    (acts_of (op.CONSTRUCTSUPER ∷ []) (drops_came constructs_super)
    (acts_of (op.NEWFUNCTION ∷ []) (gives_pushed makes_function)
    (acts_of (op.NEWACTIVATION ∷ []) (gives_pushed makes_activation)
    (acts_of (op.NEWCLASS ∷ []) makes_class
    (acts_of (op.NEWCATCH ∷ []) (gives_pushed makes_catch)
    rest
    ))))))))

unfoldable pub acts : List (ℕ × Doing)
acts = jumping_acts (plain_acts (operation_acts (walking_acts (object_acts (call_acts (class_acts []))))))

abbrev pub find_act : ℕ → List (ℕ × Doing) → Option Doing
find_act o [] = None
find_act o (d ∷ ds) = if nat_eq o d.0 then Some d.1 else find_act o ds

-- the act of an opcode
unfoldable pub act_of : ℕ → Option Doing
act_of o = find_act o acts

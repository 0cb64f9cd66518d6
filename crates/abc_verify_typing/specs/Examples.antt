-- The rules of verifying tried on small methods: one for each rule, which refutes it, with the place. No definition stands on these.
use Rattle.std.specs.Prelude.{ℕ, List, [], ◌∷◌, ◌++◌, codes, false, map, pos}
use Rattle.abc_base.specs.Names.{host_classes}
use Rattle.abc_file_types.specs.declared.code.Body.{Body}
use Rattle.abc_file_types.specs.declared.code.Instr.{Instr}
use Rattle.abc_file_types.specs.declared.code.Instr.TheVariants.{Branch, One, Plain, ScopeObject, Switch, Byte}
use Rattle.abc_file_types.specs.declared.names.Multiname.TheVariants as names
use Rattle.abc_file_types.specs.declared.names.NsKind.TheVariants as spaces
use Rattle.abc_file_types.specs.declared.tables.Abc.{Abc}
use Rattle.abc_file_types.specs.Pools.{empty}
use Rattle.abc_link_names.specs.Linked.{LinkedFile}
use Rattle.abc_link_names.specs.declared.part.Part.TheVariants as parts
use Rattle.abc_verify_typing.specs.declared.rule.VerifyRule.{VerifyRule}
use Rattle.abc_verify_typing.specs.declared.rule.VerifyRule.TheVariants as rules
use Rattle.abc_verify_typing.specs.Routines.{routine}
use Rattle.abc_verify_typing.specs.Typing.{HasTyping, Refutes}
use Rattle.abc_file_types.specs.declared.op.TheConstants as op

-- ---- methods: each is the init of the one script of a file

-- names 1 A, 2 A in a namespace that comes from the stack, and 3, all of which comes from it
abbrev pub init_file : (flags : ℕ) → Body → Abc
init_file flags body = record empty {
  strings = codes "A" ∷ [];
  namespaces = record { kind = spaces.Package; name = 0 } ∷ [];
  names = names.QName false 1 1 ∷ names.Rt false 1 ∷ names.RtL false ∷ [];
  methods = record { ret = 0; params = []; name = 0; flags = flags; options = []; param_names = [] } ∷ [];
  scripts = record { init = 0; traits = [] } ∷ [];
  bodies = body ∷ [];
}

-- the layouts of the host and of the script's global object
abbrev pub init_of_flags : (flags : ℕ) → Body → LinkedFile
init_of_flags flags body = record {
  file = init_file flags body;
  parts = map (λ c. parts.Host c) host_classes
      ++ map (λ c. parts.HostClassObject c) host_classes ++ parts.Global 0 ∷ [];
}

-- at most 2 values, so many locals, and one scope
abbrev pub small_body : (locals : ℕ) → List Instr → Body
small_body locals code = record { method = 0; max_stack = 2; local_count = locals; init_scope = 0; max_scope = 1; code = code; handlers = []; traits = [] }

abbrev pub small : List Instr → LinkedFile
small code = init_of_flags 0 (small_body 1 code)

-- at this place of its code the method is refuted by the rule
abbrev pub RefutesInit : LinkedFile → ℕ → VerifyRule → Type 0
RefutesInit l i r = Refutes l (routine l 0) i r

abbrev pub IsExampleTyped : LinkedFile → Type 0
IsExampleTyped l = HasTyping l (routine l 0)

-- ---- what is typed

-- Methods that have a typing.
pub record TypedExamples : Type 0 where
  pub returns : IsExampleTyped (small (Plain op.RETURNVOID ∷ []))
  -- label, getlocal_0, pop, and a jump to the label
  pub loops : IsExampleTyped (small (Plain op.LABEL ∷ Plain op.GETLOCAL_0 ∷ Plain op.POP ∷ Branch op.JUMP 0 ∷ []))
  -- pushtrue, iftrue to the return, nop: both ways come to the return with nothing
  pub meets : IsExampleTyped (small (Plain op.PUSHTRUE ∷ Branch op.IFTRUE 3 ∷ Plain op.NOP ∷ Plain op.RETURNVOID ∷ []))
  -- the return leaves what is behind it without a state, whatever stands there
  pub dead_code : IsExampleTyped (small (Plain op.RETURNVOID ∷ Plain op.POP ∷ []))

-- ---- what is refuted

-- Methods, each with an index and a rule that refute it.
pub record VerifyRuleExamples : Type 0 where
  -- dxns
  pub not_run : RefutesInit (small (One op.DXNS 1 ∷ Plain op.RETURNVOID ∷ [])) 0 rules.NotRun
  -- pushstring 2, where there is one string
  pub pool_index : RefutesInit (small (One op.PUSHSTRING 2 ∷ Plain op.RETURNVOID ∷ [])) 0 rules.PoolIndex
  -- getlex of a name that comes from the stack
  pub name_form : RefutesInit (small (One op.GETLEX 3 ∷ Plain op.RETURNVOID ∷ [])) 0 rules.NameForm
  -- pop, with nothing to pop; a third pushnull, where two values have room
  pub stack_under : RefutesInit (small (Plain op.POP ∷ Plain op.RETURNVOID ∷ [])) 0 rules.StackUnder
  pub stack_over : RefutesInit (small (Plain op.PUSHNULL ∷ Plain op.PUSHNULL ∷ Plain op.PUSHNULL ∷ Plain op.RETURNVOID ∷ [])) 2 rules.StackOver
  -- popscope, with no scope; a second pushscope, where one scope has room
  pub scope_under : RefutesInit (small (Plain op.POPSCOPE ∷ Plain op.RETURNVOID ∷ [])) 0 rules.ScopeUnder
  pub scope_over : RefutesInit (small (Plain op.GETLOCAL_0 ∷ Plain op.PUSHSCOPE ∷ Plain op.GETLOCAL_0 ∷ Plain op.PUSHSCOPE ∷ Plain op.RETURNVOID ∷ [])) 3 rules.ScopeOver
  -- getlocal_1, where there is one local
  pub local_index : RefutesInit (small (Plain op.GETLOCAL_1 ∷ Plain op.RETURNVOID ∷ [])) 0 rules.LocalIndex
  -- nothing stands behind pushnull; the default of a switch leads to the end, though 0 takes its case
  pub off_end : RefutesInit (small (Plain op.PUSHNULL ∷ [])) 0 rules.OffEnd
  pub switch_off_end : RefutesInit (small (Byte (pos 0) ∷ Switch 3 (2 ∷ []) ∷ Plain op.RETURNVOID ∷ [])) 1 rules.OffEnd
  -- pushtrue, iftrue to the return, pushnull: one way comes to the return with a value, the other with none
  pub merge : RefutesInit (small (Plain op.PUSHTRUE ∷ Branch op.IFTRUE 3 ∷ Plain op.PUSHNULL ∷ Plain op.RETURNVOID ∷ [])) 3 rules.Merge
  -- pushnull, pushtrue, and getproperty in the namespace true
  pub not_space : RefutesInit (small (Plain op.PUSHNULL ∷ Plain op.PUSHTRUE ∷ One op.GETPROPERTY 2 ∷ Plain op.RETURNVOID ∷ [])) 2 rules.NotSpace
  -- getslot of true; getslot of the global object, which has no slot
  pub not_object : RefutesInit (small (Plain op.PUSHTRUE ∷ One op.GETSLOT 1 ∷ Plain op.RETURNVOID ∷ [])) 1 rules.NotObject
  pub slot_index : RefutesInit (small (Plain op.GETLOCAL_0 ∷ One op.GETSLOT 1 ∷ Plain op.RETURNVOID ∷ [])) 1 rules.SlotIndex
  -- getscopeobject 0, with no scope
  pub scope_index : RefutesInit (small (ScopeObject 0 ∷ Plain op.RETURNVOID ∷ [])) 0 rules.ScopeIndex
  -- newactivation, without flag 02
  pub not_here : RefutesInit (small (Plain op.NEWACTIVATION ∷ Plain op.RETURNVOID ∷ [])) 0 rules.NotHere
  -- a switch by null
  pub not_index : RefutesInit (small (Plain op.PUSHNULL ∷ Switch 2 (2 ∷ []) ∷ Plain op.RETURNVOID ∷ [])) 1 rules.NotIndex
  -- no local for `this`; flag 40
  pub parameters : RefutesInit (init_of_flags 0 (small_body 0 (Plain op.RETURNVOID ∷ []))) 0 rules.Parameters
  pub flags : RefutesInit (init_of_flags 0x40 (small_body 1 (Plain op.RETURNVOID ∷ []))) 0 rules.Flags

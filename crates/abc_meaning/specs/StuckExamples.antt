-- The tests of a step tried one by one: of two states that differ in one thing the first is stuck, and the second is not. No definition
-- stands on these.
use Rattle.std.specs.Prelude.{◌≡◌, ℕ, pos, List, [], ◌∷◌, Bool, true, false, codes, None}
use Rattle.abc_file_types.specs.declared.code.Body.{Body}
use Rattle.abc_file_types.specs.declared.code.Instr.{Instr}
use Rattle.abc_file_types.specs.declared.code.Instr.TheVariants.{One, Plain, ScopeObject, Two}
use Rattle.abc_file_types.specs.declared.names.Multiname.TheVariants as names
use Rattle.abc_file_types.specs.declared.traits.TraitBody.TheVariants as traits
use Rattle.abc_file_types.specs.declared.traits.TraitInfo.{TraitInfo}
use Rattle.abc_heap_store.specs.Heap.{obj_id}
use Rattle.abc_heap_store.specs.declared.records.ScopeEntry.{ScopeEntry}
use Rattle.abc_objects.specs.Objects.{global_number}
use Rattle.abc_heap_values.specs.declared.values.Value.{Value}
use Rattle.abc_heap_values.specs.declared.values.Value.TheVariants.{Bool as Truth, Null, Num, Obj, Space}
use Rattle.abc_link_names.specs.declared.part.Part.TheVariants as parts
use Rattle.abc_frames.specs.Frame.{Frame}
use Rattle.abc_frames.specs.declared.records.Wait.TheVariants as waits
use Rattle.abc_meaning.specs.Examples.{ample, body_with_code, callproperty, catching, constructsuper, example_file, getlex, getlocal_1, example_handler, method_with, newactivation, plain_method_of, pop, popscope, public, pushnull, pushscope, pushstring, returnvoid, script_with, example_setting, slot_of_any, throw, trait_with}
use Rattle.abc_meaning.specs.Meaning.{first_world}
use Rattle.abc_meaning.specs.Setting.{Setting}
use Rattle.abc_meaning.specs.Step.{step}
use Rattle.abc_meaning.specs.Throwing.{Done, End, Ends, FuelSpent, Full, Profile, Stepped, Steps, Stuck, Uncaught}
use Rattle.abc_file_types.specs.declared.op.TheConstants as op

-- ---- states: one frame of the method 0, at its first instruction

-- the init of a script with these traits: at most 2 values and one scope. Names 1 A, 2 A in a namespace that comes from the stack, and
-- 3, all of which comes from it; method 1 has no body
abbrev pub declaring : List TraitInfo → (flags : ℕ) → Instr → Setting
declaring table flags i = example_setting
    (example_file (codes "A" ∷ codes "B" ∷ []) (public 1 ∷ names.Rt false 1 ∷ names.RtL false ∷ []) (method_with [] flags ∷ plain_method_of ∷ [])
    (script_with 0 table ∷ []) (body_with_code 0 2 2 1 (i ∷ returnvoid ∷ []) ∷ []))
    (parts.Global 0 ∷ parts.Activation 0 ∷ [])

abbrev pub init_with : Instr → Setting
init_with i = declaring [] 0 i

abbrev pub frame : List Value → List ScopeEntry → List Value → Frame
frame stack scopes locals = record {
  method = 0;
  home = 0;
  saved = None;
  stack = stack;
  scopes = scopes;
  locals = locals;
  place = 0;
  wait = waits.Not;
}

abbrev pub with_operands_only : List Value → Frame
with_operands_only stack = frame stack [] (Null ∷ Null ∷ [])

-- the global object of the script, and a scope of it
abbrev pub script_global : Setting → Value
script_global p = Obj (obj_id (global_number (first_world p ample).heap 0))

abbrev pub scope : Setting → ScopeEntry
scope p = record { object = obj_id (global_number (first_world p ample).heap 0); with_flag = false }

-- ---- stuck

abbrev pub is_stuck_end : End → Bool
is_stuck_end Done = false
is_stuck_end (Uncaught t) = false
is_stuck_end (Profile m i fault) = false
is_stuck_end FuelSpent = false
is_stuck_end (Full limit) = false
is_stuck_end Stuck = true

abbrev pub is_stuck : Stepped → Bool
is_stuck (Steps q) = false
is_stuck (Ends w e) = is_stuck_end e

-- the next step from these frames, the newest first, in the world that a run begins with
abbrev pub sticks : Setting → List Frame → Bool
sticks p fs = is_stuck (step p (record { world = first_world p ample; frames = fs }))

-- a frame is stuck, and another isn't
abbrev pub TellsStuck : Setting → (bad good : Frame) → Type 0
TellsStuck p bad good = (sticks p (bad ∷ []) ≡ true) × (sticks p (good ∷ []) ≡ false)

-- a frame is stuck by one program, and isn't by another
abbrev pub TellsOf : (bad good : Setting) → Frame → Type 0
TellsOf bad good f = (sticks bad (f ∷ []) ≡ true) × (sticks good (f ∷ []) ≡ false)

-- ---- programs for some of the tests

-- the class A extends Object: method 1 makes its instances, and method 2 is one of theirs; both, and the init of the script, begin with
-- this instruction
abbrev pub class_file : Instr → Setting
class_file i = example_setting
    (record (example_file (codes "A" ∷ codes "Object" ∷ codes "f" ∷ []) (public 1 ∷ public 2 ∷ public 3 ∷ [])
    (plain_method_of ∷ plain_method_of ∷ plain_method_of ∷ plain_method_of ∷ []) (script_with 0 [] ∷ [])
    (body_with_code 0 2 2 1 (i ∷ returnvoid ∷ []) ∷ body_with_code 1 2 2 1 (i ∷ returnvoid ∷ []) ∷ body_with_code 2 2 2 1 (i ∷ returnvoid ∷ []) ∷ [])) {
      instances = record {
        name = 1;
        super_name = 2;
        flags = 0;
        protected_ns = None;
        interfaces = [];
        iinit = 1;
        traits = trait_with 3 (traits.Method 0 2) ∷ [];
      } ∷ [];
      classes = record { cinit = 3; traits = [] } ∷ [];
    })
    (parts.Instance 0 ∷ parts.ClassObject 0 ∷ parts.Global 0 ∷ [])

-- a frame of one of these methods, with null on its stack
abbrev pub of_method : ℕ → Frame
of_method n = record (with_operands_only (Null ∷ [])) { method = n }

-- the init calls the method f of its script, which is method 1 of the file, with these bodies
abbrev pub calling : List Body → Setting
calling bodies = example_setting
    (example_file (codes "f" ∷ []) (public 1 ∷ []) (plain_method_of ∷ plain_method_of ∷ []) (script_with 0 (trait_with 1 (traits.Method 0 1) ∷ []) ∷ [])
    (body_with_code 0 2 2 1 (callproperty 1 0 ∷ returnvoid ∷ []) ∷ bodies))
    (parts.Global 0 ∷ [])

-- throw, covered by a handler, where so many values have room
abbrev pub caught_in : (values : ℕ) → Setting
caught_in values = example_setting
    (example_file [] [] (plain_method_of ∷ []) (script_with 0 [] ∷ []) (catching (example_handler 0 1 1 0 ∷ []) (body_with_code 0 values 2 1 (throw ∷ returnvoid ∷ [])) ∷ []))
    (parts.Global 0 ∷ [])

-- of each test of a step: a state that is stuck by it, and one that differs in one thing and is not
pub record StuckExamples : Type 0 where
  -- ---- what is run: a method with a body, a place in its code, and an opcode that has a row
  pub method_without_body : TellsStuck (init_with returnvoid) (record (with_operands_only []) { method = 1 }) (with_operands_only [])
  pub past_the_code : TellsStuck (init_with returnvoid) (record (with_operands_only []) { place = 2 }) (record (with_operands_only []) { place = 1 })
  -- dxns and nop
  pub no_row : TellsOf (init_with (One op.DXNS 1)) (init_with (Plain op.NOP)) (with_operands_only [])
  -- ---- the tests of an instruction
  -- pushstring 3 and 2, of two strings
  pub in_table : TellsOf (init_with (pushstring 3)) (init_with (pushstring 2)) (with_operands_only [])
  -- getlex of a name that comes from the stack
  pub has_form : TellsOf (init_with (getlex 3)) (init_with (getlex 1)) (with_operands_only [])
  pub value_to_take : TellsStuck (init_with pop) (with_operands_only []) (with_operands_only (Null ∷ []))
  pub room_for_value : TellsStuck (init_with pushnull) (with_operands_only (Null ∷ Null ∷ [])) (with_operands_only (Null ∷ []))
  pub scope_to_pop : TellsStuck (init_with popscope) (frame [] [] []) (frame [] (scope (init_with popscope) ∷ []) [])
  pub room_for_scope : TellsStuck (init_with pushscope) (frame (script_global (init_with pushscope) ∷ []) (scope (init_with pushscope) ∷ []) [])
      (frame (script_global (init_with pushscope) ∷ []) [] [])
  pub local_there : TellsStuck (init_with getlocal_1) (frame [] [] (Null ∷ [])) (frame [] [] (Null ∷ Null ∷ []))
  -- hasnext2 with local 1 as its index
  pub index_in_local : TellsStuck (init_with (Two op.HASNEXT2 0 1)) (frame [] [] (Null ∷ Null ∷ [])) (frame [] [] (Null ∷ Num (pos 0) ∷ []))
  -- getscopeobject 0
  pub scope_there : TellsStuck (init_with (ScopeObject 0)) (frame [] [] []) (frame [] (scope (init_with (ScopeObject 0)) ∷ []) [])
  -- newactivation, without and with flag 02
  pub stands_here : TellsOf (init_with newactivation) (declaring [] 2 newactivation) (with_operands_only [])
  -- getsuper in the init of a script, and in a method of instances; constructsuper there, and in the method that makes them
  pub super_in_instance : TellsStuck (class_file (One op.GETSUPER 1)) (of_method 0) (of_method 2)
  pub super_in_maker : TellsStuck (class_file (constructsuper 0)) (of_method 2) (of_method 1)
  -- ---- what the values are
  -- getproperty in the namespace true, and in namespace 1, of null
  pub space_taken : TellsStuck (init_with (One op.GETPROPERTY 2)) (with_operands_only (Truth true ∷ Null ∷ [])) (with_operands_only (Space 1 ∷ Null ∷ []))
  -- nextvalue by null, and by 0, of null
  pub index_taken : TellsStuck (init_with (Plain op.NEXTVALUE)) (with_operands_only (Null ∷ Null ∷ [])) (with_operands_only (Num (pos 0) ∷ Null ∷ []))
  -- getslot 1 of true, and of null; of an object without and with that slot
  pub object_taken : TellsStuck (init_with (One op.GETSLOT 1)) (with_operands_only (Truth true ∷ [])) (with_operands_only (Null ∷ []))
  pub slot_taken : TellsOf (init_with (One op.GETSLOT 1)) (declaring (slot_of_any 1 1 ∷ []) 0 (One op.GETSLOT 1)) (with_operands_only (script_global (init_with (One op.GETSLOT 1)) ∷ []))
  -- constructsuper of true, and of null
  pub instance_taken : TellsStuck (class_file (constructsuper 0)) (record (of_method 1) { stack = Truth true ∷ [] }) (of_method 1)
  -- ---- what others do
  -- a call of a method without and with a body
  pub called_has_body : TellsOf (calling []) (calling (body_with_code 1 0 1 0 (returnvoid ∷ []) ∷ [])) (with_operands_only (script_global (calling []) ∷ []))
  -- returnvoid to a frame that waits for nothing, and to one that drops what returns
  pub waits_for : (sticks (init_with returnvoid) (with_operands_only [] ∷ with_operands_only [] ∷ []) ≡ true)
      × (sticks (init_with returnvoid) (with_operands_only [] ∷ record (with_operands_only []) { wait = waits.Drop } ∷ []) ≡ false)
  -- a value that is caught, where no value has room
  pub room_for_caught : TellsOf (caught_in 0) (caught_in 1) (with_operands_only (Null ∷ []))

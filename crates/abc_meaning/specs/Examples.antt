-- The meaning tried on small programs: what they write and how they end, and how a frame waits while another runs. No definition stands
-- on these.
use Rattle.std.specs.Prelude.{◌≡◌, ℕ, zero, suc, pos, List, [], ◌∷◌, ◌++◌, codes, map, false, Some, None}
use Rattle.std.specs.declared.option.Option.{Option}
use Rattle.abc_base.specs.Names.{host_classes}
use Rattle.abc_base.specs.Hosts.{builtin_formulas}
use Rattle.abc_base.specs.declared.names.Fault.TheVariants as faults
use Rattle.abc_base.specs.declared.names.HostClass.TheVariants as hosts
use Rattle.abc_file_types.specs.declared.classes.Script.{Script}
use Rattle.abc_file_types.specs.declared.code.Body.{Body}
use Rattle.abc_file_types.specs.declared.code.Handler.{Handler}
use Rattle.abc_file_types.specs.declared.code.Instr.{Instr}
use Rattle.abc_file_types.specs.declared.code.Instr.TheVariants.{Branch, Byte, One, Plain, Two}
use Rattle.abc_file_types.specs.declared.methods.Method.{Method}
use Rattle.abc_file_types.specs.declared.names.Multiname.{Multiname}
use Rattle.abc_file_types.specs.declared.names.Multiname.TheVariants as names
use Rattle.abc_file_types.specs.declared.names.NsKind.TheVariants as spaces
use Rattle.abc_file_types.specs.declared.tables.Abc.{Abc}
use Rattle.abc_file_types.specs.declared.traits.TraitBody.{TraitBody}
use Rattle.abc_file_types.specs.declared.traits.TraitBody.TheVariants as traits
use Rattle.abc_file_types.specs.declared.traits.TraitInfo.{TraitInfo}
use Rattle.abc_heap_store.specs.declared.records.Limit.TheVariants as limits
use Rattle.abc_heap_store.specs.declared.records.Limits.{Limits}
use Rattle.abc_heap_values.specs.declared.values.Value.{Value}
use Rattle.abc_link_names.specs.declared.part.Part.{Part}
use Rattle.abc_link_names.specs.declared.part.Part.TheVariants as parts
use Rattle.abc_frames.specs.Frame.{Frame}
use Rattle.abc_frames.specs.declared.records.Wait.{Wait}
use Rattle.abc_frames.specs.declared.records.Wait.TheVariants as waits
use Rattle.abc_meaning.specs.Meaning.{Ran, TooSmall, first_state, meaning}
use Rattle.abc_meaning.specs.Setting.{Setting}
use Rattle.abc_meaning.specs.Step.{step}
use Rattle.abc_meaning.specs.Throwing.{Done, Ends, FuelSpent, Full, Profile, Stepped, Steps, Uncaught}
use Rattle.abc_meaning.specs.declared.thrown.Thrown.TheVariants as thrown
use Rattle.abc_file_types.specs.declared.op.TheConstants as op

-- ---- instructions by their names

abbrev pub throw : Instr
throw = Plain op.THROW

abbrev pub pushwith : Instr
pushwith = Plain op.PUSHWITH

abbrev pub popscope : Instr
popscope = Plain op.POPSCOPE

abbrev pub pushnull : Instr
pushnull = Plain op.PUSHNULL

abbrev pub pop : Instr
pop = Plain op.POP

abbrev pub dup : Instr
dup = Plain op.DUP

abbrev pub pushscope : Instr
pushscope = Plain op.PUSHSCOPE

abbrev pub returnvoid : Instr
returnvoid = Plain op.RETURNVOID

abbrev pub returnvalue : Instr
returnvalue = Plain op.RETURNVALUE

abbrev pub newactivation : Instr
newactivation = Plain op.NEWACTIVATION

abbrev pub convert_o : Instr
convert_o = Plain op.CONVERT_O

abbrev pub typeof : Instr
typeof = Plain op.TYPEOF

abbrev pub divide : Instr
divide = Plain op.DIVIDE

abbrev pub getlocal_0 : Instr
getlocal_0 = Plain op.GETLOCAL_0

abbrev pub getlocal_1 : Instr
getlocal_1 = Plain op.GETLOCAL_1

abbrev pub getlocal_2 : Instr
getlocal_2 = Plain op.GETLOCAL_2

abbrev pub setlocal_1 : Instr
setlocal_1 = Plain op.SETLOCAL_1

abbrev pub pushstring : ℕ → Instr
pushstring n = One op.PUSHSTRING n

abbrev pub newfunction : ℕ → Instr
newfunction n = One op.NEWFUNCTION n

abbrev pub call : ℕ → Instr
call n = One op.CALL n

abbrev pub construct : ℕ → Instr
construct n = One op.CONSTRUCT n

abbrev pub constructsuper : ℕ → Instr
constructsuper n = One op.CONSTRUCTSUPER n

abbrev pub newobject : ℕ → Instr
newobject n = One op.NEWOBJECT n

abbrev pub newarray : ℕ → Instr
newarray n = One op.NEWARRAY n

abbrev pub newclass : ℕ → Instr
newclass n = One op.NEWCLASS n

abbrev pub findpropstrict : ℕ → Instr
findpropstrict n = One op.FINDPROPSTRICT n

abbrev pub getlex : ℕ → Instr
getlex n = One op.GETLEX n

abbrev pub setproperty : ℕ → Instr
setproperty n = One op.SETPROPERTY n

abbrev pub getproperty : ℕ → Instr
getproperty n = One op.GETPROPERTY n

abbrev pub initproperty : ℕ → Instr
initproperty n = One op.INITPROPERTY n

abbrev pub setslot : ℕ → Instr
setslot n = One op.SETSLOT n

abbrev pub callproperty : (name args : ℕ) → Instr
callproperty n k = Two op.CALLPROPERTY n k

abbrev pub constructprop : (name args : ℕ) → Instr
constructprop n k = Two op.CONSTRUCTPROP n k

abbrev pub callpropvoid : (name args : ℕ) → Instr
callpropvoid n k = Two op.CALLPROPVOID n k

abbrev pub pushbyte : ℕ → Instr
pushbyte n = Byte (pos n)

abbrev pub ifeq : ℕ → Instr
ifeq t = Branch op.IFEQ t

-- ---- files: namespace 1 is public and 2 private, set 1 is that of the public one

abbrev pub example_file : List (List ℕ) → List Multiname → List Method → List Script → List Body → Abc
example_file strings ns ms ss bs = record {
  ints = [];
  uints = [];
  doubles = [];
  strings = strings;
  namespaces = record { kind = spaces.Package; name = 0 } ∷ record { kind = spaces.Private; name = 0 } ∷ [];
  sets = (1 ∷ []) ∷ [];
  names = ns;
  methods = ms;
  metadata = [];
  instances = [];
  classes = [];
  scripts = ss;
  bodies = bs;
}

-- the public name of a string
abbrev pub public : ℕ → Multiname
public n = names.QName false 1 n

abbrev pub method_with : (params : List ℕ) → (flags : ℕ) → Method
method_with params flags = record { ret = 0; params = params; name = 0; flags = flags; options = []; param_names = [] }

abbrev pub plain_method_of : Method
plain_method_of = method_with [] 0

abbrev pub script_with : (init : ℕ) → List TraitInfo → Script
script_with init table = record { init = init; traits = table }

abbrev pub trait_with : (name : ℕ) → TraitBody → TraitInfo
trait_with n body = record { name = n; attrs = 0; body = body; metadata = [] }

-- a slot of type any
abbrev pub slot_of_any : (name number : ℕ) → TraitInfo
slot_of_any n id = trait_with n (traits.Slot id 0 None false)

-- of a method, with so many values, locals and scopes at most
abbrev pub body_with_code : (method values locals scopes : ℕ) → List Instr → Body
body_with_code m values locals scopes code = record {
  method = m;
  max_stack = values;
  local_count = locals;
  init_scope = 0;
  max_scope = scopes;
  code = code;
  handlers = [];
  traits = [];
}

abbrev pub catching : List Handler → Body → Body
catching hs b = record b { handlers = hs }

-- up to a place the handler for a type goes on at a target
abbrev pub example_handler : (from to target type : ℕ) → Handler
example_handler from to target type = record { from = from; to = to; target = target; exc_type = type; var_name = 0 }

-- a layout for each class of the host, for its class object, and for some other parts
abbrev pub example_setting : Abc → List Part → Setting
example_setting v more = record {
  linked = record {
    file = v;
    parts = map (λ c. parts.Host c) host_classes
        ++ map (λ c. parts.HostClassObject c) host_classes ++ more;
  };
  formulas = builtin_formulas;
}

-- one script, whose init has this code
abbrev pub program : List (List ℕ) → List Multiname → List Instr → Setting
program strings ns code = example_setting (example_file strings ns (plain_method_of ∷ []) (script_with 0 [] ∷ []) (body_with_code 0 3 2 2 code ∷ [])) (parts.Global 0 ∷ [])

abbrev pub within : (objects cells text frames stack : ℕ) → Limits
within objects cells text frames stack = record { objects = objects; cells = cells; text = text; frames = frames; stack = stack }

abbrev pub ample : Limits
ample = within 100 100 100 10 100

-- a text and a line feed
abbrev pub text_line : List ℕ → List ℕ
text_line text = text ++ 10 ∷ []

-- ---- programs

-- returns at once
abbrev pub empty_program : Setting
empty_program = program [] [] (returnvoid ∷ [])

-- 1 / 0
abbrev pub divides : Setting
divides = program [] [] (pushbyte 1 ∷ pushbyte 0 ∷ divide ∷ pop ∷ returnvoid ∷ [])

-- null as an object throws, and its error takes an object
abbrev pub object_errors : Setting
object_errors = program [] [] (pushnull ∷ convert_o ∷ pop ∷ returnvoid ∷ [])

-- trace("Hi")
abbrev pub program_hi : Setting
program_hi = program (codes "trace" ∷ codes "Hi" ∷ []) (public 1 ∷ [])
    (getlocal_0 ∷ pushscope ∷ findpropstrict 1 ∷ pushstring 2 ∷ callpropvoid 1 1 ∷ returnvoid ∷ [])

-- sets x of Object's prototype, and reads it of a new object by its public and by its private name
abbrev pub property_program : Setting
property_program = program (codes "trace" ∷ codes "Object" ∷ codes "prototype" ∷ codes "x" ∷ codes "seven" ∷ [])
    (public 1 ∷ public 2 ∷ public 3 ∷ public 4 ∷ names.QName false 2 4 ∷ [])
    (getlocal_0 ∷ pushscope ∷ findpropstrict 1 ∷ getlex 2 ∷ getproperty 3 ∷ pushstring 5 ∷ setproperty 4 ∷ newobject 0 ∷ getproperty 4
    ∷ newobject 0 ∷ getproperty 5 ∷ callpropvoid 1 2 ∷ returnvoid ∷ [])

-- pushes an object whose property x is 8 as a scope, as pushwith or as pushscope does, and reads x in the scopes
abbrev pub scope_program : Instr → Setting
scope_program push = program (codes "trace" ∷ codes "x" ∷ []) (public 1 ∷ public 2 ∷ [])
    (getlocal_0 ∷ pushscope ∷ pushstring 2 ∷ pushbyte 8 ∷ newobject 1 ∷ push ∷ findpropstrict 1 ∷ getlex 2 ∷ callpropvoid 1 1 ∷ returnvoid ∷ [])

-- an array of 8 and 9, whose element 2 is set; its element 1 and its length
abbrev pub array : Setting
array = program (codes "trace" ∷ codes "length" ∷ []) (public 1 ∷ public 2 ∷ names.MultiL false 1 ∷ [])
    (getlocal_0 ∷ pushscope ∷ pushbyte 8 ∷ pushbyte 9 ∷ newarray 2 ∷ setlocal_1 ∷ getlocal_1 ∷ pushbyte 2 ∷ pushbyte 7 ∷ setproperty 3
    ∷ findpropstrict 1 ∷ getlocal_1 ∷ pushbyte 1 ∷ getproperty 3 ∷ getlocal_1 ∷ getproperty 2 ∷ callpropvoid 1 2 ∷ returnvoid ∷ [])

-- f throws an Error; of two handlers that cover its call, the first is for another type
abbrev pub thrower : Setting
thrower = example_setting
    (example_file (codes "trace" ∷ codes "Error" ∷ codes "TypeError" ∷ codes "f" ∷ codes "caught" ∷ [])
    (public 1 ∷ public 2 ∷ public 3 ∷ public 4 ∷ []) (plain_method_of ∷ plain_method_of ∷ [])
    (script_with 0 (trait_with 4 (traits.Method 0 1) ∷ []) ∷ [])
    (catching (example_handler 2 4 5 3 ∷ example_handler 2 4 7 2 ∷ [])
    (body_with_code 0 2 1 1 (getlocal_0 ∷ pushscope ∷ getlocal_0 ∷ callpropvoid 4 0 ∷ returnvoid ∷ pop ∷ returnvoid ∷ pop ∷ findpropstrict 1 ∷ pushstring 5
    ∷ callpropvoid 1 1 ∷ returnvoid ∷ []))
    ∷ body_with_code 1 2 1 1 (getlex 2 ∷ construct 0 ∷ throw ∷ []) ∷ []))
    (parts.Global 0 ∷ [])

-- the second script, which is run, reads the slot x of the first, whose init sets it
abbrev pub starter : Setting
starter = example_setting
    (example_file (codes "trace" ∷ codes "x" ∷ codes "seven" ∷ []) (public 1 ∷ public 2 ∷ []) (plain_method_of ∷ plain_method_of ∷ [])
    (script_with 0 (slot_of_any 2 1 ∷ []) ∷ script_with 1 [] ∷ [])
    (body_with_code 0 2 1 1 (getlocal_0 ∷ pushscope ∷ getlocal_0 ∷ pushstring 3 ∷ setslot 1 ∷ returnvoid ∷ [])
    ∷ body_with_code 1 2 1 1 (getlocal_0 ∷ pushscope ∷ findpropstrict 1 ∷ getlex 2 ∷ callpropvoid 1 1 ∷ returnvoid ∷ []) ∷ []))
    (parts.Global 0 ∷ parts.Global 1 ∷ [])

-- a getter and a setter v: v is 7, and traces what it is set to
abbrev pub accessors : Setting
accessors = example_setting
    (example_file (codes "trace" ∷ codes "v" ∷ []) (public 1 ∷ public 2 ∷ []) (plain_method_of ∷ plain_method_of ∷ method_with (0 ∷ []) 0 ∷ [])
    (script_with 0 (trait_with 2 (traits.Getter 0 1) ∷ trait_with 2 (traits.Setter 0 2) ∷ []) ∷ [])
    (body_with_code 0 3 1 1 (getlocal_0 ∷ pushscope ∷ findpropstrict 1 ∷ getlocal_0 ∷ getproperty 2 ∷ callpropvoid 1 1 ∷ getlocal_0 ∷ pushbyte 5
    ∷ setproperty 2 ∷ returnvoid ∷ [])
    ∷ body_with_code 1 1 1 0 (pushbyte 7 ∷ returnvalue ∷ [])
    ∷ body_with_code 2 2 2 1 (getlocal_0 ∷ pushscope ∷ findpropstrict 1 ∷ getlocal_1 ∷ callpropvoid 1 1 ∷ returnvoid ∷ []) ∷ []))
    (parts.Global 0 ∷ [])

-- a function made where an activation with the slot x is in scope: it reads x
abbrev pub closure : Setting
closure = example_setting
    (example_file (codes "trace" ∷ codes "x" ∷ []) (public 1 ∷ public 2 ∷ []) (method_with [] 2 ∷ plain_method_of ∷ []) (script_with 0 [] ∷ [])
    (record (body_with_code 0 3 1 2 (getlocal_0 ∷ pushscope ∷ newactivation ∷ dup ∷ pushscope ∷ pushbyte 9 ∷ setslot 1 ∷ findpropstrict 1
    ∷ newfunction 1 ∷ pushnull ∷ call 0 ∷ callpropvoid 1 1 ∷ returnvoid ∷ [])) { traits = slot_of_any 2 1 ∷ [] }
    ∷ body_with_code 1 1 1 0 (getlex 2 ∷ returnvalue ∷ []) ∷ []))
    (parts.Global 0 ∷ parts.Activation 0 ∷ [])

-- new on what a getter gives: the class Object
abbrev pub maker : Setting
maker = example_setting
    (example_file (codes "trace" ∷ codes "K" ∷ codes "Object" ∷ []) (public 1 ∷ public 2 ∷ public 3 ∷ []) (plain_method_of ∷ plain_method_of ∷ [])
    (script_with 0 (trait_with 2 (traits.Getter 0 1) ∷ []) ∷ [])
    (body_with_code 0 2 1 1 (getlocal_0 ∷ pushscope ∷ findpropstrict 1 ∷ getlocal_0 ∷ constructprop 2 0 ∷ typeof ∷ callpropvoid 1 1 ∷ returnvoid ∷ [])
    ∷ body_with_code 1 1 1 0 (getlex 3 ∷ returnvalue ∷ []) ∷ []))
    (parts.Global 0 ∷ [])

-- f has one parameter, and gives the length of the array of the arguments behind it; the init throws null unless that is 2
abbrev pub rest_program : Setting
rest_program = example_setting
    (example_file (codes "f" ∷ codes "length" ∷ []) (public 1 ∷ public 2 ∷ []) (plain_method_of ∷ method_with (0 ∷ []) 4 ∷ [])
    (script_with 0 (trait_with 1 (traits.Method 0 1) ∷ []) ∷ [])
    (body_with_code 0 5 1 1 (getlocal_0 ∷ pushbyte 5 ∷ pushbyte 6 ∷ pushbyte 7 ∷ callproperty 1 3 ∷ pushbyte 2 ∷ ifeq 9 ∷ pushnull ∷ throw
    ∷ returnvoid ∷ [])
    ∷ body_with_code 1 1 3 0 (getlocal_2 ∷ getproperty 2 ∷ returnvalue ∷ []) ∷ []))
    (parts.Global 0 ∷ [])

-- a class as a compiler writes it: Main extends Object, and its instances trace Hello as they are made
abbrev pub compiled_class : Setting
compiled_class = example_setting
    (record (example_file (codes "Main" ∷ codes "Object" ∷ codes "trace" ∷ codes "Hello" ∷ []) (public 1 ∷ public 2 ∷ public 3 ∷ [])
    (plain_method_of ∷ plain_method_of ∷ plain_method_of ∷ []) (script_with 2 (trait_with 1 (traits.Class 1 0) ∷ []) ∷ [])
    (record (body_with_code 0 2 1 3 (getlocal_0 ∷ pushscope ∷ returnvoid ∷ [])) { init_scope = 2 }
    ∷ record (body_with_code 1 2 1 4 (getlocal_0 ∷ pushscope ∷ getlocal_0 ∷ constructsuper 0 ∷ findpropstrict 3 ∷ pushstring 4 ∷ callpropvoid 3 1
    ∷ returnvoid ∷ [])) { init_scope = 3 }
    ∷ record (body_with_code 2 2 1 3 (getlocal_0 ∷ pushscope ∷ findpropstrict 1 ∷ getlex 2 ∷ pushscope ∷ getlex 2 ∷ newclass 0 ∷ popscope
    ∷ initproperty 1 ∷ findpropstrict 1 ∷ constructprop 1 0 ∷ pop ∷ returnvoid ∷ [])) { init_scope = 1 } ∷ [])) {
      instances = record { name = 1; super_name = 2; flags = 1; protected_ns = None; interfaces = []; iinit = 1; traits = [] } ∷ [];
      classes = record { cinit = 0; traits = [] } ∷ [];
    })
    (parts.Instance 0 ∷ parts.ClassObject 0 ∷ parts.Global 0 ∷ [])

-- ---- how the frame below the newest waits, after so many steps

abbrev pub steps_on : Setting → Stepped → Stepped
steps_on p (Steps q) = step p q
steps_on p (Ends w e) = Ends w e

abbrev pub state_after : Setting → ℕ → Stepped
state_after p zero = Steps (first_state p ample)
state_after p (suc n) = steps_on p (state_after p n)

abbrev pub wait_below : List Frame → Option Wait
wait_below [] = None
wait_below (f ∷ []) = None
wait_below (f ∷ g ∷ fs) = Some g.wait

abbrev pub wait_in : Stepped → Option Wait
wait_in (Steps q) = wait_below q.frames
wait_in (Ends w e) = None

abbrev pub wait_after : Setting → ℕ → Option Wait
wait_after p n = wait_in (state_after p n)

-- ---- what holds of them, each with as much fuel as it takes steps

-- small programs write this and end so
pub record RunExamples : Type 0 where
  pub returns : meaning empty_program ample 2 ≡ Ran [] Done
  pub spent : meaning empty_program ample 1 ≡ Ran [] FuelSpent
  pub no_frame : meaning empty_program (within 100 100 100 0 100) 2 ≡ Ran [] (Full limits.Frames)
  -- 32 objects are too few to begin
  pub too_small : meaning empty_program (within 32 100 100 10 100) 2 ≡ TooSmall limits.Objects
  -- the place of a fault: method 0, instruction 2
  pub no_number : meaning divides ample 4 ≡ Ran [] (Profile 0 2 faults.NotANumber)
  pub throws : meaning object_errors ample 3 ≡ Ran [] (Uncaught (thrown.HostClass hosts.TypeError))
  pub no_room : meaning object_errors (within 33 100 100 10 100) 3 ≡ Ran [] (Full limits.Objects)
  pub says_hi : meaning program_hi ample 7 ≡ Ran (text_line (codes "Hi")) Done
  pub public_property : meaning property_program ample 14 ≡ Ran (text_line (codes "seven undefined")) Done
  -- a property is found in a with scope alone
  pub with_scope : meaning (scope_program pushwith) ample 11 ≡ Ran (text_line (codes "8")) Done
  pub plain_scope : meaning (scope_program pushscope) ample 9 ≡ Ran [] (Uncaught (thrown.HostClass hosts.ReferenceError))
  pub elements : meaning array ample 19 ≡ Ran (text_line (codes "9 3")) Done
  pub caught : meaning thrower ample 13 ≡ Ran (text_line (codes "caught")) Done
  pub started : meaning starter ample 14 ≡ Ran (text_line (codes "seven")) Done
  pub accessed : meaning accessors ample 19 ≡ Ran (text_line (codes "7") ++ text_line (codes "5")) Done
  pub closed_over : meaning closure ample 16 ≡ Ran (text_line (codes "9")) Done
  pub made_of_getter : meaning maker ample 11 ≡ Ran (text_line (codes "object")) Done
  pub two_more : meaning rest_program ample 12 ≡ Ran [] Done
  -- it takes 36 objects, 37 cells, 2 frames and 9 values
  pub made : meaning compiled_class (within 36 37 0 2 9) 25 ≡ Ran (text_line (codes "Hello")) Done
  pub no_cell : meaning compiled_class (within 36 36 0 2 9) 25 ≡ Ran [] (Full limits.Cells)

-- each of the ways in which a frame waits
pub record WaitExamples : Type 0 where
  -- a method, whose value is pushed; a getter too; a setter, whose value is dropped
  pub pushes : wait_after rest_program 6 ≡ Some waits.Push
  pub getter_pushes : wait_after accessors 6 ≡ Some waits.Push
  pub setter_drops : wait_after accessors 12 ≡ Some waits.Drop
  -- a class object, while its initializer runs; an instance, while its maker runs
  pub keeps_class : (v : Value) × (wait_after compiled_class 8 ≡ Some (waits.Keep v))
  pub keeps_instance : (v : Value) × (wait_after compiled_class 15 ≡ Some (waits.Keep v))
  -- an instruction that starts a script is executed again
  pub starts_again : wait_after starter 5 ≡ Some waits.Again
  -- new on the class that the getter gives, with no argument
  pub makes_then : wait_after maker 6 ≡ Some (waits.New 0)

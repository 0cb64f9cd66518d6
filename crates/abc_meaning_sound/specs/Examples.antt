-- Two verified files: one with a class, a call, a closure, a handler and a second script, and one with a getter, a setter, a with scope,
-- an array, and a frame that waits for what new is done on. No definition stands on them.
use Rattle.std.specs.Prelude.{◌≡◌, [], ◌∷◌, codes, None, Some}
use Rattle.abc_file_types.specs.declared.code.Instr.TheVariants.{One}
use Rattle.abc_file_types.specs.declared.op.TheConstants as op
use Rattle.abc_file_types.specs.declared.tables.Abc.{Abc}
use Rattle.abc_file_types.specs.declared.traits.TraitBody.TheVariants as traits
use Rattle.abc_link_names.specs.declared.part.Part.TheVariants as parts
use Rattle.abc_frames.specs.declared.records.Wait.TheVariants as waits
use Rattle.abc_meaning.specs.Examples.{ample, body_with_code, callproperty, callpropvoid, catching, call, constructprop, constructsuper, dup, example_file, findpropstrict, getlex, getlocal_0, getlocal_1, getproperty, example_handler, initproperty, text_line, method_with, newarray, newclass, newfunction, newobject, plain_method_of, pop, popscope, public, pushbyte, pushnull, pushscope, pushstring, pushwith, returnvalue, returnvoid, script_with, setproperty, setslot, example_setting, slot_of_any, throw, trait_with, typeof, wait_after}
use Rattle.abc_meaning.specs.Meaning.{Ran, first_world, meaning, too_small}
use Rattle.abc_meaning.specs.Setting.{Setting}
use Rattle.abc_meaning.specs.ThrowLaws.{IsVerifiedSetting}
use Rattle.abc_meaning.specs.Throwing.{Done}

-- The class A extends Object, and has a method f; the first script makes it. The second makes an A, which starts the first, calls f
-- on it, and calls a function that throws null, which a handler catches.
abbrev pub parade : Abc
parade = record (example_file (codes "A" ∷ codes "Object" ∷ codes "f" ∷ [])
    (public 1 ∷ public 2 ∷ public 3 ∷ []) (plain_method_of ∷ plain_method_of ∷ plain_method_of ∷ plain_method_of ∷ plain_method_of ∷ plain_method_of ∷ [])
    (script_with 0 (trait_with 1 (traits.Class 0 0) ∷ []) ∷ script_with 1 [] ∷ [])
    -- the first script
    (body_with_code 0 3 1 2 (getlocal_0 ∷ pushscope ∷ findpropstrict 1 ∷ getlex 2 ∷ dup ∷ pushscope ∷ newclass 0 ∷ initproperty 1 ∷ returnvoid ∷ [])
    -- the second
    ∷ catching (example_handler 8 9 11 0 ∷ [])
    (body_with_code 1 2 1 1 (getlocal_0 ∷ pushscope ∷ findpropstrict 1 ∷ constructprop 1 0 ∷ callproperty 3 0 ∷ pop
    ∷ newfunction 5 ∷ pushnull ∷ call 0 ∷ pop ∷ returnvoid ∷ pop ∷ returnvoid ∷ []))
    -- what makes an A; what makes the class; f; the function
    ∷ body_with_code 2 1 1 0 (getlocal_0 ∷ constructsuper 0 ∷ returnvoid ∷ []) ∷ body_with_code 3 0 1 0 (returnvoid ∷ [])
    ∷ body_with_code 4 1 1 0 (pushbyte 7 ∷ returnvalue ∷ []) ∷ body_with_code 5 1 1 0 (pushnull ∷ throw ∷ []) ∷ [])) {
      instances = record { name = 1; super_name = 2; flags = 0; protected_ns = None; interfaces = []; iinit = 2; traits = trait_with 3 (traits.Method 0 4) ∷ [] } ∷ [];
      classes = record { cinit = 3; traits = [] } ∷ [];
    }

abbrev pub parade_program : Setting
parade_program = example_setting parade (parts.Instance 0 ∷ parts.ClassObject 0 ∷ parts.Global 0 ∷ parts.Global 1 ∷ parts.Catch 1 0 ∷ [])

-- A script with a slot s, which a setter v writes and a getter v reads, and a getter K of the class Object. Its init sets v, and traces
-- v, the property x of an object that is a with scope, the length of an array, and the type of what new on K makes.
abbrev pub workshop : Abc
workshop = example_file
    (codes "trace" ∷ codes "v" ∷ codes "K" ∷ codes "x" ∷ codes "Object" ∷ codes "length" ∷ codes "s" ∷ [])
    (public 1 ∷ public 2 ∷ public 3 ∷ public 4 ∷ public 5 ∷ public 6 ∷ public 7 ∷ [])
    (plain_method_of ∷ plain_method_of ∷ method_with (0 ∷ []) 0 ∷ plain_method_of ∷ [])
    (script_with 0 (slot_of_any 7 1 ∷ trait_with 2 (traits.Getter 0 1) ∷ trait_with 2 (traits.Setter 0 2) ∷ trait_with 3 (traits.Getter 0 3) ∷ []) ∷ [])
    (body_with_code 0 5 1 2 (getlocal_0 ∷ pushscope ∷ getlocal_0 ∷ pushbyte 5 ∷ setproperty 2
    ∷ findpropstrict 1 ∷ getlocal_0 ∷ getproperty 2
    ∷ pushstring 4 ∷ pushbyte 8 ∷ newobject 1 ∷ pushwith ∷ getlex 4 ∷ popscope
    ∷ pushbyte 9 ∷ newarray 1 ∷ getproperty 6
    ∷ getlocal_0 ∷ constructprop 3 0 ∷ typeof
    ∷ callpropvoid 1 4 ∷ returnvoid ∷ [])
    -- the getter and the setter v; the getter K
    ∷ body_with_code 1 1 1 0 (getlocal_0 ∷ One op.GETSLOT 1 ∷ returnvalue ∷ [])
    ∷ body_with_code 2 2 2 0 (getlocal_0 ∷ getlocal_1 ∷ setslot 1 ∷ returnvoid ∷ [])
    ∷ body_with_code 3 1 1 0 (getlex 5 ∷ returnvalue ∷ []) ∷ [])

abbrev pub making : Setting
making = example_setting workshop (parts.Global 0 ∷ [])

-- that file is verified, its run begins within the limits, writes nothing, and is done
pub record VerifiedExamples : Type 0 where
  pub verified : IsVerifiedSetting parade_program
  pub begins : too_small (first_world parade_program ample).heap ≡ None
  pub runs : meaning parade_program ample 30 ≡ Ran [] Done

pub record WorkshopExamples : Type 0 where
  pub verified : IsVerifiedSetting making
  pub begins : too_small (first_world making ample).heap ≡ None
  pub runs : meaning making ample 32 ≡ Ran (text_line (codes "5 8 1 object")) Done
  -- how the init waits: for the setter, for the getter v, and for the class that K gives
  pub drops : wait_after making 6 ≡ Some waits.Drop
  pub pushes : wait_after making 13 ≡ Some waits.Push
  pub makes_then : wait_after making 27 ≡ Some (waits.New 0)

-- The rules of linking tried on small files: one for each rule, which it breaks first, with the item that is named. No definition stands
-- on these.
use Rattle.std.specs.Prelude.{ℕ, List, [], ◌∷◌, codes, false, None}
use Rattle.abc_file_types.specs.declared.classes.Instance.{Instance}
use Rattle.abc_file_types.specs.declared.code.Body.{Body}
use Rattle.abc_file_types.specs.declared.code.Instr.TheVariants.{Plain}
use Rattle.abc_file_types.specs.declared.methods.Method.{Method}
use Rattle.abc_file_types.specs.declared.names.Multiname.TheVariants as names
use Rattle.abc_file_types.specs.declared.names.NsKind.TheVariants as spaces
use Rattle.abc_file_types.specs.declared.tables.Abc.{Abc}
use Rattle.abc_file_types.specs.declared.traits.TraitBody.{TraitBody}
use Rattle.abc_file_types.specs.declared.traits.TraitBody.TheVariants as traits
use Rattle.abc_file_types.specs.declared.traits.TraitInfo.{TraitInfo}
use Rattle.abc_file_types.specs.Pools.{empty}
use Rattle.abc_link_names.specs.declared.items.ItemKind.TheVariants as kinds
use Rattle.abc_link_names.specs.declared.items.LinkRule.TheVariants as rules
use Rattle.abc_link_names.specs.Firsts.{item}
use Rattle.abc_link_names.specs.Rules.{AllHold, IsFirstBroken}

-- ---- the files

-- names 1 A, 2 B and 3 int, all public, and 4, whose text comes from the stack
abbrev pub names_file : Abc
names_file = record empty {
  strings = codes "A" ∷ codes "B" ∷ codes "int" ∷ [];
  namespaces = record { kind = spaces.Package; name = 0 } ∷ [];
  names = names.QName false 1 1 ∷ names.QName false 1 2 ∷ names.QName false 1 3 ∷ names.RtL false ∷ [];
}

abbrev pub plain_method : Method
plain_method = record { ret = 0; params = []; name = 0; flags = 0; options = []; param_names = [] }

-- its code returns
abbrev pub returning_body : ℕ → Body
returning_body m = record { method = m; max_stack = 0; local_count = 1; init_scope = 0; max_scope = 0; code = Plain 0x47 ∷ []; handlers = []; traits = [] }

abbrev pub example_trait : ℕ → TraitBody → TraitInfo
example_trait n body = record { name = n; attrs = 0; body = body; metadata = [] }

-- a slot of a name, a number and the type any
abbrev pub slot_trait : ℕ → ℕ → TraitInfo
slot_trait n id = example_trait n (traits.Slot id 0 None false)

-- one script, whose init is method 0
abbrev pub one_script_file : List TraitInfo → Abc
one_script_file ts = record names_file {
  methods = plain_method ∷ [];
  scripts = record { init = 0; traits = ts } ∷ [];
  bodies = returning_body 0 ∷ [];
}

-- of a name, a base, flags and interfaces
abbrev pub example_instance : (name base flags : ℕ) → List ℕ → ℕ → Instance
example_instance n base flags interfaces iinit = record {
  name = n;
  super_name = base;
  flags = flags;
  protected_ns = None;
  interfaces = interfaces;
  iinit = iinit;
  traits = [];
}

-- a script and the class A, with this base
abbrev pub one_class : ℕ → Abc
one_class base = record (one_script_file []) {
  methods = plain_method ∷ plain_method ∷ plain_method ∷ [];
  instances = example_instance 1 base 0 [] 1 ∷ [];
  classes = record { cinit = 2; traits = [] } ∷ [];
  bodies = returning_body 0 ∷ returning_body 1 ∷ returning_body 2 ∷ [];
}

-- a script, the class A with these flags, and the class B with this base and these interfaces
abbrev pub two_classes : (flags base : ℕ) → List ℕ → Abc
two_classes flags base interfaces = record (one_script_file []) {
  methods = plain_method ∷ plain_method ∷ plain_method ∷ plain_method ∷ plain_method ∷ [];
  instances = example_instance 1 0 flags [] 1 ∷ example_instance 2 base 0 interfaces 3 ∷ [];
  classes = record { cinit = 2; traits = [] } ∷ record { cinit = 4; traits = [] } ∷ [];
  bodies = returning_body 0 ∷ returning_body 1 ∷ returning_body 2 ∷ returning_body 3 ∷ returning_body 4 ∷ [];
}

-- ---- what holds of them

-- Which rule each file breaks first, and by which item; of the last file all rules hold.
pub record LinkRuleExamples : Type 0 where
  pub no_script : IsFirstBroken (record (one_script_file []) { scripts = [] }) rules.NoScript (item kinds.File 0)
  -- a trait whose text comes from the stack
  pub name_kind : IsFirstBroken (one_script_file (slot_trait 4 0 ∷ [])) rules.NameKind (item kinds.Script 0)
  -- A extends B, which is no class
  pub unknown_base : IsFirstBroken (one_class 2) rules.UnknownBase (item kinds.Class 0)
  -- A extends itself
  pub base_cycle : IsFirstBroken (one_class 1) rules.BaseCycle (item kinds.Class 0)
  -- A extends int; B extends A, which is final
  pub host_base : IsFirstBroken (one_class 3) rules.FinalBase (item kinds.Class 0)
  pub final_base : IsFirstBroken (two_classes 2 1 []) rules.FinalBase (item kinds.Class 1)
  -- B extends A, which is an interface
  pub interface_base : IsFirstBroken (two_classes 4 1 []) rules.BaseIsInterface (item kinds.Class 1)
  -- B implements A, which is no interface
  pub unknown_interface : IsFirstBroken (two_classes 0 0 (1 ∷ [])) rules.UnknownInterface (item kinds.Class 1)
  -- method 0 returns a B, which is no class
  pub unknown_type : IsFirstBroken (record (one_script_file []) { methods = record plain_method { ret = 2 } ∷ [] }) rules.UnknownType (item kinds.Method 0)
  -- method 0 is the init of the script and a method of it
  pub owned_twice : IsFirstBroken (one_script_file (example_trait 1 (traits.Method 0 0) ∷ [])) rules.OwnedTwice (item kinds.Method 0)
  pub no_body : IsFirstBroken (record (one_script_file []) { bodies = [] }) rules.NoBody (item kinds.Method 0)
  -- two slots A; a slot A and a slot B, both with the number 1
  pub same_name : IsFirstBroken (one_script_file (slot_trait 1 0 ∷ slot_trait 1 0 ∷ [])) rules.SameName (item kinds.Script 0)
  pub same_slot : IsFirstBroken (one_script_file (slot_trait 1 1 ∷ slot_trait 2 1 ∷ [])) rules.SameSlot (item kinds.Script 0)
  -- a Function trait
  pub not_run : IsFirstBroken (record (one_script_file (example_trait 1 (traits.Function 0 1) ∷ [])) {
    methods = plain_method ∷ plain_method ∷ [];
    bodies = returning_body 0
        ∷ returning_body 1 ∷ [];
  }) rules.TraitNotRun (item kinds.Script 0)
  -- a stack of 65,536 values
  pub too_large : IsFirstBroken (record (one_script_file []) { bodies = record (returning_body 0) { max_stack = 65536 } ∷ [] }) rules.TooLarge (item kinds.Body 0)
  -- a body that is too large, and a class whose base is no class: the earlier rule is told
  pub earlier_rule : IsFirstBroken (record (one_class 2) {
    bodies = record (returning_body 0) { max_stack = 65536 } ∷ returning_body 1 ∷ returning_body 2
        ∷ [];
  }) rules.UnknownBase (item kinds.Class 0)
  -- methods 1 and 2 return a B: the first of them is told
  pub earlier_item : IsFirstBroken (record (one_class 0) {
    methods = plain_method ∷ record plain_method { ret = 2 } ∷ record plain_method { ret = 2 }
        ∷ [];
  }) rules.UnknownType (item kinds.Method 1)
  -- B implements the interface A
  pub all_hold : AllHold (two_classes 4 0 (1 ∷ []))

-- The methods that a file names (profile: docs/LINKING.md, "The rules" and "Owners and bodies of methods").
use Rattle.std.specs.Prelude.{ℕ, List, [], ◌∷◌, ◌++◌, Bool, nat_eq, nat_lt, ◌&&◌, if◌then◌else◌, count_by, map}
use Rattle.std.specs.List.{flat_map}
use Rattle.abc_file_types.specs.Methods.{has_flag}
use Rattle.abc_file_types.specs.declared.classes.ClassInfo.{ClassInfo}
use Rattle.abc_file_types.specs.declared.classes.Instance.{Instance}
use Rattle.abc_file_types.specs.declared.classes.Script.{Script}
use Rattle.abc_file_types.specs.declared.code.Body.{Body}
use Rattle.abc_file_types.specs.declared.tables.Abc.{Abc}
use Rattle.abc_file_types.specs.declared.traits.TraitBody.{TraitBody}
use Rattle.abc_file_types.specs.declared.traits.TraitBody.TheVariants as traits
use Rattle.abc_file_types.specs.declared.traits.TraitInfo.{TraitInfo}

abbrev pub methods_in : TraitBody → List ℕ
methods_in (traits.Slot id ty value constant) = []
methods_in (traits.Method disp m) = m ∷ []
methods_in (traits.Getter disp m) = m ∷ []
methods_in (traits.Setter disp m) = m ∷ []
methods_in (traits.Class id k) = []
methods_in (traits.Function id m) = m ∷ []

abbrev pub methods_among : List TraitInfo → List ℕ
methods_among ts = flat_map (λ t. methods_in t.body) ts

abbrev pub methods_of_instance : Instance → List ℕ
methods_of_instance i = i.iinit ∷ methods_among i.traits

-- an interface's iinit and the methods of its instances are never run
abbrev pub run_of_instance : Instance → List ℕ
run_of_instance i = if has_flag i.flags 0x04 then [] else methods_of_instance i

abbrev pub methods_of_class : ClassInfo → List ℕ
methods_of_class c = c.cinit ∷ methods_among c.traits

abbrev pub methods_of_script : Script → List ℕ
methods_of_script s = s.init ∷ methods_among s.traits

abbrev pub of_body : Body → List ℕ
of_body b = methods_among b.traits

-- every method that is named, as often as it is named
abbrev pub methods_named : Abc → List ℕ
methods_named v = flat_map methods_of_instance v.instances ++ flat_map methods_of_class v.classes ++ flat_map methods_of_script v.scripts ++ flat_map of_body v.bodies

-- the same, of methods that are run
abbrev pub methods_run : Abc → List ℕ
methods_run v = flat_map run_of_instance v.instances ++ flat_map methods_of_class v.classes ++ flat_map methods_of_script v.scripts ++ flat_map of_body v.bodies

abbrev pub methods_with_bodies : Abc → List ℕ
methods_with_bodies v = map (λ b. b.method) v.bodies

abbrev pub times_named : ℕ → List ℕ → ℕ
times_named m methods = count_by (nat_eq m) methods

abbrev pub breaks_owned_twice : Abc → ℕ → Bool
breaks_owned_twice v m = nat_lt 1 (times_named m (methods_named v))

abbrev pub breaks_no_body : Abc → ℕ → Bool
breaks_no_body v m = nat_lt 0 (times_named m (methods_run v)) && nat_eq (times_named m (methods_with_bodies v)) 0

-- Whose method each method is, and which body it has (profile: docs/LINKING.md, "Owners and bodies of methods").
use Rattle.std.specs.Prelude.{ℕ, ◌+◌, List, [], ◌∷◌, ◌++◌, Some, None, get_or, nat_eq}
use Rattle.std.specs.declared.option.Option.{Option}
use Rattle.std.specs.List.{flat_map}
use Rattle.abc_base_graphs.specs.Index.{first}
use Rattle.abc_link_names.specs.Methods.{methods_with_bodies}
use Rattle.abc_file_types.specs.declared.classes.ClassInfo.{ClassInfo}
use Rattle.abc_file_types.specs.declared.classes.Instance.{Instance}
use Rattle.abc_file_types.specs.declared.classes.Script.{Script}
use Rattle.abc_file_types.specs.declared.tables.Abc.{Abc}
use Rattle.abc_file_types.specs.declared.traits.TraitBody.{TraitBody}
use Rattle.abc_file_types.specs.declared.traits.TraitBody.TheVariants as traits
use Rattle.abc_file_types.specs.declared.traits.TraitInfo.{TraitInfo}
use Rattle.abc_link_names.specs.declared.types.Naming.{Naming}
use Rattle.abc_link_names.specs.declared.types.Owner.{Owner}
use Rattle.abc_link_names.specs.declared.types.Owner.TheVariants as owners

abbrev pub naming : Owner → ℕ → Naming
naming o m = record { method = m; owner = o }

-- the method that a trait names, if it names one
abbrev pub namings_in : Owner → TraitBody → List Naming
namings_in o (traits.Method disp m) = naming o m ∷ []
namings_in o (traits.Getter disp m) = naming o m ∷ []
namings_in o (traits.Setter disp m) = naming o m ∷ []
namings_in o (traits.Function id m) = naming o m ∷ []
namings_in o (traits.Slot id ty value constant) = []
namings_in o (traits.Class id k) = []

abbrev pub namings_among : Owner → List TraitInfo → List Naming
namings_among o ts = flat_map (λ t. namings_in o t.body) ts

-- an initializer, and the methods of a table
abbrev pub namings_of : Owner → ℕ → Owner → List TraitInfo → List Naming
namings_of first init other table = naming first init ∷ namings_among other table

abbrev pub of_instance : ℕ → Instance → List Naming
of_instance k i = namings_of (owners.Iinit k) i.iinit (owners.Instance k) i.traits

abbrev pub of_class : ℕ → ClassInfo → List Naming
of_class k c = namings_of (owners.ClassInit k) c.cinit (owners.Static k) c.traits

abbrev pub of_script : ℕ → Script → List Naming
of_script s x = namings_of (owners.ScriptInit s) x.init (owners.ScriptMethod s) x.traits

-- what the values of a list name one after the other, each by its number from k on
abbrev pub namings_from : {A : Type 0} → (ℕ → A → List Naming) → ℕ → List A → List Naming
namings_from of k [] = []
namings_from of k (x ∷ xs) = of k x ++ namings_from of (k + 1) xs

-- where the rules hold no method is named by two of them, and the traits of bodies name none
abbrev pub namings : Abc → List Naming
namings v = namings_from of_instance 0 v.instances ++ namings_from of_class 0 v.classes ++ namings_from of_script 0 v.scripts

abbrev pub no_naming : Naming
no_naming = naming owners.Free 0

abbrev pub owner_at : List Naming → Option ℕ → Owner
owner_at ns None = owners.Free
owner_at ns (Some p) = (get_or ns p no_naming).owner

-- what names the method first; nothing names a free one
abbrev pub owner_of : Abc → ℕ → Owner
owner_of v m = owner_at (namings v) (first (λ n. nat_eq m n.method) (namings v))

-- the body of a method: the first that names it
abbrev pub body_of : Abc → ℕ → Option ℕ
body_of v m = first (nat_eq m) (methods_with_bodies v)

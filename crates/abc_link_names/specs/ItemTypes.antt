-- What the traits and types of an item must not be (profile: docs/LINKING.md, "The rules").
use Rattle.std.specs.Prelude.{ℕ, List, [], ◌∷◌, Bool, true, false, nat_eq, not, ◌||◌, ◌&&◌, Some, None, is_some}
use Rattle.std.specs.declared.option.Option.{Option}
use Rattle.std.specs.List.{list_any}
use Rattle.abc_link_names.specs.Instances.{instance_at}
use Rattle.abc_link_names.specs.Keys.{same_name}
use Rattle.abc_link_names.specs.Meaning.{type_named}
use Rattle.abc_link_names.specs.Pool.{definite_name, is_qname_or_multiname, name, qname}
use Rattle.abc_link_names.specs.declared.named.Named.{Named}
use Rattle.abc_link_names.specs.declared.named.Named.TheVariants as named
use Rattle.abc_file_types.specs.declared.code.Handler.{Handler}
use Rattle.abc_file_types.specs.declared.tables.Abc.{Abc}
use Rattle.abc_file_types.specs.declared.traits.TraitBody.{TraitBody}
use Rattle.abc_file_types.specs.declared.traits.TraitBody.TheVariants as traits
use Rattle.abc_file_types.specs.declared.traits.TraitInfo.{TraitInfo}
use Rattle.abc_link_names.specs.PartsByNumber.{method_at, body_at, own_table, instance_table}
use Rattle.abc_link_names.specs.Starts.{start_of}
use Rattle.abc_link_names.specs.declared.items.ItemKind.{ItemKind}
use Rattle.abc_link_names.specs.declared.items.ItemKind.TheVariants as kinds

-- some table of traits of an item fails
abbrev pub any_table : (List TraitInfo → Bool) → Abc → ItemKind → ℕ → Bool
any_table fails v kind i = fails (instance_table v kind i) || fails (own_table v kind i)

-- ---- types: of a method its return's and its parameters', of a trait a slot's, of a body those of its exceptions

abbrev pub slot_type_fails : (ℕ → Bool) → TraitBody → Bool
slot_type_fails fails (traits.Slot id ty value constant) = fails ty
slot_type_fails fails (traits.Method disp m) = false
slot_type_fails fails (traits.Getter disp m) = false
slot_type_fails fails (traits.Setter disp m) = false
slot_type_fails fails (traits.Class id class) = false
slot_type_fails fails (traits.Function id m) = false

abbrev pub own_type_fails : (ℕ → Bool) → Abc → ItemKind → ℕ → Bool
own_type_fails fails v kinds.File i = false
own_type_fails fails v kinds.Method m = fails (method_at v m).ret || list_any fails (method_at v m).params
own_type_fails fails v kinds.Class k = false
own_type_fails fails v kinds.Script s = false
own_type_fails fails v kinds.Body b = list_any (λ h. fails h.exc_type) (body_at v b).handlers

-- some type of an item fails
abbrev pub any_type : (ℕ → Bool) → Abc → ItemKind → ℕ → Bool
any_type fails v kind i = own_type_fails fails v kind i || any_table (list_any (λ t. slot_type_fails fails t.body)) v kind i

-- ---- forms of names

-- a class's or a trait's name is a QName with a namespace and a name
abbrev pub is_definite : Abc → ℕ → Bool
is_definite v n = is_some (definite_name (name v n))

-- a type, a base or an interface is a QName or a Multiname; index 0 is the type any, or no base
abbrev pub is_type_name : Abc → ℕ → Bool
is_type_name v n = nat_eq n 0 || is_qname_or_multiname (name v n)

abbrev pub has_bad_variable : Abc → Handler → Bool
has_bad_variable v h = not (nat_eq h.var_name 0) && not (is_definite v h.var_name)

abbrev pub has_bad_name : Abc → ItemKind → ℕ → Bool
has_bad_name v kinds.File i = false
has_bad_name v kinds.Method m = false
has_bad_name v kinds.Class k =
    not (is_definite v (instance_at v k).name) || not (is_type_name v (instance_at v k).super_name)
    || list_any (λ n. not (is_type_name v n)) (instance_at v k).interfaces
has_bad_name v kinds.Script s = false
has_bad_name v kinds.Body b = list_any (has_bad_variable v) (body_at v b).handlers

abbrev pub breaks_name_kind : Abc → ItemKind → ℕ → Bool
breaks_name_kind v kind i =
    has_bad_name v kind i || any_table (list_any (λ t. not (is_definite v t.name))) v kind i || any_type (λ n. not (is_type_name v n)) v kind i

abbrev pub breaks_unknown_type : Abc → ItemKind → ℕ → Bool
breaks_unknown_type v kind i = any_type (λ n. not (is_some (type_named v n))) v kind i

-- ---- two traits of one table

-- some value of a list clashes with a later one
abbrev pub any_pair : {A : Type 0} → (A → A → Bool) → List A → Bool
any_pair clash [] = false
any_pair clash (x ∷ xs) = list_any (clash x) xs || any_pair clash xs

-- a Getter and a Setter
abbrev pub are_accessors : TraitBody → TraitBody → Bool
are_accessors (traits.Getter disp m) (traits.Setter disp2 m2) = true
are_accessors (traits.Setter disp m) (traits.Getter disp2 m2) = true
are_accessors other other2 = false

abbrev pub names_clash : Abc → TraitInfo → TraitInfo → Bool
names_clash v s t = same_name v (qname (name v s.name)) (qname (name v t.name)) && not (are_accessors s.body t.body)

abbrev pub slot_id : TraitBody → ℕ
slot_id (traits.Slot id ty value constant) = id
slot_id (traits.Class id class) = id
slot_id (traits.Function id m) = id
slot_id (traits.Method disp m) = 0
slot_id (traits.Getter disp m) = 0
slot_id (traits.Setter disp m) = 0

-- the same number above 0
abbrev pub slots_clash : TraitInfo → TraitInfo → Bool
slots_clash s t = not (nat_eq (slot_id s.body) 0) && nat_eq (slot_id s.body) (slot_id t.body)

-- ---- traits that are not run

abbrev pub type_or_any : Option Named → Named
type_or_any None = named.Any
type_or_any (Some t) = t

-- a Function trait, or a slot without a value to start at
abbrev pub is_not_run : Abc → TraitBody → Bool
is_not_run v (traits.Slot id ty value constant) = not (is_some (start_of v (type_or_any (type_named v ty)) value))
is_not_run v (traits.Method disp m) = false
is_not_run v (traits.Getter disp m) = false
is_not_run v (traits.Setter disp m) = false
is_not_run v (traits.Class id class) = false
is_not_run v (traits.Function id m) = true

-- a body declares slots alone
abbrev pub is_no_slot : TraitBody → Bool
is_no_slot (traits.Slot id ty value constant) = false
is_no_slot other = true

abbrev pub is_body : ItemKind → Bool
is_body kinds.Body = true
is_body other = false

abbrev pub breaks_trait_not_run : Abc → ItemKind → ℕ → Bool
breaks_trait_not_run v kind i = any_table (list_any (λ t. is_not_run v t.body || (is_body kind && is_no_slot t.body))) v kind i

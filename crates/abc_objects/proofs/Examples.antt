-- The searches compute: each sentence of their description once.
use Rattle.std.proofs.Common.{◌≡◌, ℕ, List, [], ◌∷◌, ◌++◌, Bool, true, false, Some, None, refl, pos, ◌+◌, replicate}
use Rattle.abc_base.specs.declared.names.HostClass.TheVariants as hosts
use Rattle.abc_heap_values.specs.declared.values.Span.{Span}
use Rattle.abc_heap_values.specs.declared.values.Value.TheVariants as values
use Rattle.abc_base_graphs.specs.Ways.{way}
use Rattle.abc_heap_store.specs.Heap.{Heap, Object, obj_id}
use Rattle.abc_heap_store.specs.declared.records.ScopeEntry.{ScopeEntry}
use Rattle.abc_heap_store.specs.declared.records.What.{What}
use Rattle.abc_heap_store.specs.declared.records.What.TheVariants as whats
use Rattle.abc_link_names.specs.Linked.{LinkedFile}
use Rattle.abc_link_names.specs.declared.part.Part.TheVariants as parts
use Rattle.abc_link_names.specs.declared.types.Owner.TheVariants as owners
use Rattle.abc_file_types.specs.declared.classes.Instance.{Instance}
use Rattle.abc_file_types.specs.declared.names.Multiname.TheVariants as names
use Rattle.abc_file_types.specs.declared.names.NsKind.TheVariants as kinds
use Rattle.abc_file_types.specs.declared.tables.Abc.{Abc}
use Rattle.abc_file_types.specs.declared.traits.TraitBody.{TraitBody}
use Rattle.abc_file_types.specs.declared.traits.TraitBody.TheVariants as bodies
use Rattle.abc_file_types.specs.declared.traits.TraitInfo.{TraitInfo}
use Rattle.abc_objects.specs.Candidates.{answer_of_search}
use Rattle.abc_objects.specs.ElementNames.{IsLength, IsNumber, element_name}
use Rattle.abc_objects.specs.Searches.{declared_found, found_in_scopes, found_on}
use Rattle.abc_objects.specs.declared.found.Found.TheVariants as founds
use Rattle.abc_objects.specs.declared.found.ScopeFound.TheVariants as results
use Rattle.abc_objects.specs.declared.found.Want.TheVariants.{Read, Write}
use Rattle.abc_objects.specs.declared.name.Name.{Name}
use Rattle.abc_objects.specs.declared.name.Spaces.{Spaces}
use Rattle.abc_objects.specs.declared.name.Spaces.TheVariants as spaces

-- ---- a file: class 0 has a public slot a and a protected method b, class 1 under it another a, and a getter g; the script has v

trait : ℕ → TraitBody → TraitInfo
trait n body = record { name = n; attrs = 0; body = body; metadata = [] }

slot : TraitBody
slot = bodies.Slot 0 0 None false

class : ℕ → ℕ → ℕ → List TraitInfo → Instance
class n base protected table = record { name = n; super_name = base; flags = 8; protected_ns = Some protected; interfaces = []; iinit = 9; traits = table }

-- strings a, b, A, B, g, v; namespaces public, protected of A, private, protected of B; names public a, protected b, A, B, public g, public v
file : Abc
file = record {
  ints = [];
  uints = [];
  doubles = [];
  strings = (97 ∷ []) ∷ (98 ∷ []) ∷ (65 ∷ []) ∷ (66 ∷ []) ∷ (103 ∷ []) ∷ (118 ∷ []) ∷ [];
  namespaces = record { kind = kinds.Package; name = 0 } ∷ record { kind = kinds.Protected; name = 3 } ∷ record { kind = kinds.Private; name = 0 } ∷ record { kind = kinds.Protected; name = 4 } ∷ [];
  sets = [];
  names = names.QName false 1 1 ∷ names.QName false 2 2 ∷ names.QName false 1 3 ∷ names.QName false 1 4 ∷ names.QName false 1 5 ∷ names.QName false 1 6 ∷ [];
  methods = [];
  metadata = [];
  instances = class 3 0 2 (trait 1 slot ∷ trait 2 (bodies.Method 0 5) ∷ []) ∷ class 4 3 4 (trait 1 slot ∷ trait 5 (bodies.Getter 0 6) ∷ []) ∷ [];
  classes = [];
  scripts = record { init = 8; traits = trait 6 slot ∷ [] } ∷ [];
  bodies = [];
}

-- layouts: 2 of class 0, 3 of class 1, 4 of the script, 5 of arrays
linked : LinkedFile
linked = record { file = file; parts = parts.Host hosts.Object ∷ parts.Host hosts.Class ∷ parts.Instance 0 ∷ parts.Instance 1 ∷ parts.Global 0 ∷ parts.Host hosts.Array ∷ [] }

-- ---- a heap: object 0 of class 1 has the property v, object 1 is an array under object 0, object 29 the host object, 30 the global

thing : ℕ → What → Object
thing layout what = record { layout = layout; delegate = None; slots = []; properties = []; elements = []; what = what }

string : ℕ → Span
string i = record { part = i; start = 0; len = 1 }

heap : Heap
heap = record {
  objects = record (thing 3 whats.Plain) { properties = Some (string 8, values.Num (pos 7)) ∷ None ∷ [] } ∷ record (thing 5 whats.Array) { delegate = Some (obj_id 0); elements = values.Null ∷ values.Num (pos 4) ∷ [] } ∷ replicate 27 (thing 0 whats.Plain) ++ record (thing 0 whats.HostObject) { properties = Some (string 4, values.Null) ∷ [] } ∷ thing 4 (whats.Global 0) ∷ [];
  scopes = [];
  fixed = 49 ∷ 48 ∷ 108 ∷ 101 ∷ 110 ∷ 103 ∷ 116 ∷ 104 ∷ [];
  made = [];
  formulas = [];
  strings = file.strings;
  classes = [];
  frames = 0;
  stack = 0;
  limits = record { objects = 0; cells = 0; text = 0; frames = 0; stack = 0 };
}

-- a name of a string of the pool, and one of the fixed texts, which are `10length`
the : Spaces → ℕ → Name
the of i = record { spaces = of; text = string (i + 2) }

fixed : ℕ → ℕ → Name
fixed start len = record { spaces = spaces.Public; text = record { part = 0; start = start; len = len } }

-- ---- declared traits

-- a derived trait hides that of the base, behind whose slots its own stands
derived : declared_found linked heap 3 3 (the (spaces.One 1) 1) Read ≡ founds.Slot 1 false
unfolding trait slot class file linked thing string heap the fixed declared_found answer_of_search way
derived = refl

-- a search from the base finds the one of the base
base : declared_found linked heap 3 2 (the (spaces.One 1) 1) Read ≡ founds.Slot 0 false
unfolding trait slot class file linked thing string heap the fixed declared_found answer_of_search way
base = refl

-- another namespace finds none
private : declared_found linked heap 3 3 (the (spaces.One 3) 1) Read ≡ founds.Missing
unfolding trait slot class file linked thing string heap the fixed declared_found answer_of_search way
private = refl

-- any namespace finds one
any : declared_found linked heap 3 3 (the spaces.Any 1) Read ≡ founds.Slot 1 false
unfolding trait slot class file linked thing string heap the fixed declared_found answer_of_search way
any = refl

-- a protected trait of the base is found by the protected namespace of the class under it
protected : declared_found linked heap 3 3 (the (spaces.One 4) 2) Read ≡ founds.Method (owners.Instance 0) 5
unfolding trait slot class file linked thing string heap the fixed declared_found answer_of_search way
protected = refl

-- but not on an object of the base
unprotected : declared_found linked heap 2 2 (the (spaces.One 4) 2) Read ≡ founds.Missing
unfolding trait slot class file linked thing string heap the fixed declared_found answer_of_search way
unprotected = refl

-- it is in a super operation of an object of the class under it
super_protected : declared_found linked heap 3 2 (the (spaces.One 4) 2) Read ≡ founds.Method (owners.Instance 0) 5
unfolding trait slot class file linked thing string heap the fixed declared_found answer_of_search way
super_protected = refl

-- a read finds a getter, which a write passes over
getter : declared_found linked heap 3 3 (the (spaces.One 1) 5) Read ≡ founds.Getter 6
unfolding trait slot class file linked thing string heap the fixed declared_found answer_of_search way
getter = refl

passed_over : declared_found linked heap 3 3 (the (spaces.One 1) 5) Write ≡ founds.WrongSide
unfolding trait slot class file linked thing string heap the fixed declared_found answer_of_search way
passed_over = refl

-- ---- on values

-- a property is found by a public name alone
property : found_on linked heap (values.Obj (obj_id 0)) (the spaces.Public 6) Read ≡ founds.Property (obj_id 0) (values.Num (pos 7))
unfolding trait slot class file linked thing string heap the fixed found_on answer_of_search way
property = refl

no_property : found_on linked heap (values.Obj (obj_id 0)) (the (spaces.One 3) 6) Read ≡ founds.Missing
unfolding trait slot class file linked thing string heap the fixed found_on answer_of_search way
no_property = refl

-- an array has elements and a length, and what its delegate has; a number with a leading zero is none of its elements
element : found_on linked heap (values.Obj (obj_id 1)) (fixed 0 1) Read ≡ founds.Element (obj_id 1) 1
unfolding trait slot class file linked thing string heap the fixed found_on answer_of_search way
element = refl

no_element : found_on linked heap (values.Obj (obj_id 1)) (fixed 0 2) Read ≡ founds.Missing
unfolding trait slot class file linked thing string heap the fixed found_on answer_of_search way
no_element = refl

length_found : found_on linked heap (values.Obj (obj_id 1)) (fixed 2 6) Read ≡ founds.Length (obj_id 1)
unfolding trait slot class file linked thing string heap the fixed found_on answer_of_search way
length_found = refl

delegate : found_on linked heap (values.Obj (obj_id 1)) (the spaces.Public 6) Read ≡ founds.Property (obj_id 0) (values.Num (pos 7))
unfolding trait slot class file linked thing string heap the fixed found_on answer_of_search way
delegate = refl

-- ---- in scopes

scope : ℕ → Bool → ScopeEntry
scope o is_with = record { object = obj_id o; with_flag = is_with }

-- a scope without the with flag is searched for declared traits alone
plain_scope : found_in_scopes linked heap (scope 0 false ∷ []) None (true ∷ []) (the spaces.Public 6) ≡ results.Object (obj_id 30)
unfolding trait slot class file linked thing string heap the fixed scope found_in_scopes way
plain_scope = refl

with_scope : found_in_scopes linked heap (scope 0 true ∷ []) None (true ∷ []) (the spaces.Public 6) ≡ results.Object (obj_id 0)
unfolding trait slot class file linked thing string heap the fixed scope found_in_scopes way
with_scope = refl

-- of an array in a with scope its own elements, and not what its delegates have
with_array : found_in_scopes linked heap (scope 1 true ∷ []) None (false ∷ []) (the spaces.Public 6) ≡ results.Start 0
unfolding trait slot class file linked thing string heap the fixed scope found_in_scopes way
with_array = refl

-- the top scope is searched first
top_first : found_in_scopes linked heap (scope 0 false ∷ scope 0 true ∷ []) None (true ∷ []) (the spaces.Public 6) ≡ results.Object (obj_id 0)
unfolding trait slot class file linked thing string heap the fixed scope found_in_scopes way
top_first = refl

-- a script that declares the name is started first
unstarted : found_in_scopes linked heap [] None (false ∷ []) (the spaces.Public 6) ≡ results.Start 0
unfolding trait slot class file linked thing string heap the fixed scope found_in_scopes way
unstarted = refl

-- the host object is searched last, by public names
of_host : found_in_scopes linked heap [] None (true ∷ []) (the spaces.Public 2) ≡ results.Object (obj_id 29)
unfolding trait slot class file linked thing string heap the fixed scope found_in_scopes way
of_host = refl

nowhere : found_in_scopes linked heap [] None (true ∷ []) (the (spaces.One 3) 2) ≡ results.Missing
unfolding trait slot class file linked thing string heap the fixed scope found_in_scopes way
nowhere = refl

-- ---- another heap: object 0 has the properties v and B; it is the prototype of Boolean, and the delegate of the global object;
-- a scope is saved above that of the global object; the fixed text is `prototype`

world : Heap
world = record heap {
  objects = record (thing 0 whats.Plain) { properties = Some (string 8, values.Num (pos 7)) ∷ Some (string 6, values.Null) ∷ [] } ∷ replicate 21 (thing 0 whats.Plain) ++ record (thing 0 (whats.HostClass hosts.Boolean)) { slots = values.Obj (obj_id 0) ∷ [] } ∷ replicate 6 (thing 0 whats.Plain) ++ thing 0 whats.HostObject ∷ record (thing 4 (whats.Global 0)) { delegate = Some (obj_id 0) } ∷ [];
  scopes = record { entry = scope 30 false; parent = None } ∷ record { entry = scope 0 false; parent = Some (record { 0 = 0 }) } ∷ [];
  fixed = 112 ∷ 114 ∷ 111 ∷ 116 ∷ 111 ∷ 116 ∷ 121 ∷ 112 ∷ 101 ∷ [];
}

-- a truth value has what the prototype of its class has; a class without a prototype has none to give
of_boolean : found_on linked world (values.Bool true) (the spaces.Public 6) Read ≡ founds.Property (obj_id 0) (values.Num (pos 7))
unfolding trait slot class file linked thing string heap the scope world found_on answer_of_search way
of_boolean = refl

of_number : found_on linked world (values.Num (pos 1)) (the spaces.Public 6) Read ≡ founds.Missing
unfolding trait slot class file linked thing string heap the scope world found_on answer_of_search way
of_number = refl

-- every class object has the public constant slot `prototype`
class_object : declared_found linked world 1 1 (fixed 0 9) Read ≡ founds.Slot 0 true
unfolding trait slot class file linked thing string heap the fixed scope world declared_found answer_of_search way
class_object = refl

-- the delegates of a global object in a scope are searched, by public names
global_delegate : found_in_scopes linked world (scope 30 false ∷ []) None (true ∷ []) (the spaces.Public 4) ≡ results.Object (obj_id 30)
unfolding trait slot class file linked thing string heap the scope world found_in_scopes way
global_delegate = refl

no_delegate : found_in_scopes linked world (scope 30 false ∷ []) None (true ∷ []) (the (spaces.One 3) 4) ≡ results.Missing
unfolding trait slot class file linked thing string heap the scope world found_in_scopes way
no_delegate = refl

-- saved scopes are searched down, before the scripts
saved : found_in_scopes linked world [] (Some (record { 0 = 1 })) (false ∷ []) (the spaces.Public 6) ≡ results.Object (obj_id 30)
unfolding trait slot class file linked thing string heap the scope world found_in_scopes way
saved = refl

-- ---- element names

zero_length : element_name (108 ∷ 101 ∷ 110 ∷ 103 ∷ 116 ∷ 104 ∷ []) ≡ Some IsLength
zero_length = refl

number_ten : element_name (49 ∷ 48 ∷ []) ≡ Some (IsNumber 10)
number_ten = refl

leading_zero : element_name (48 ∷ 49 ∷ []) ≡ None
leading_zero = refl

no_digits : element_name [] ≡ None
no_digits = refl

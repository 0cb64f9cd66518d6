-- An arena stands over a linked file: all that it names is there, and each object is what its layout says
-- (profile: docs/MACHINE.md, "Heap and room").
use Rattle.std.specs.Prelude.{◌≡◌, ◌≢◌, ℕ, ◌+◌, ◌<◌, ◌≤◌, List, [], ◌++◌, length, true, false, Option, Some, None, slice_get}
use Rattle.abc_base.specs.declared.names.HostClass.{HostClass}
use Rattle.abc_base.specs.declared.names.HostClass.TheVariants as hosts
use Rattle.abc_heap_values.specs.declared.values.Span.{Span}
use Rattle.abc_heap_values.specs.declared.values.ObjId.{ObjId}
use Rattle.abc_heap_values.specs.declared.values.Value.{Value}
use Rattle.abc_heap_store.specs.declared.records.ScopeId.{ScopeId}
use Rattle.abc_heap_store.specs.declared.records.ScopeEntry.{ScopeEntry}
use Rattle.abc_heap_store.specs.declared.records.ScopeNode.{ScopeNode}
use Rattle.abc_heap_store.specs.declared.store.ClassParts.{ClassParts}
use Rattle.abc_heap_store.specs.declared.records.What.{What}
use Rattle.abc_heap_store.specs.declared.records.What.TheVariants as whats
use Rattle.abc_heap_store.specs.Heap.{Heap, Object, obj_id, object_at, slots_of_object}
use Rattle.abc_heap_values.specs.declared.values.Value.TheVariants as values
use Rattle.abc_heap_store.specs.Texts.{IsText}
use Rattle.abc_heap_store.specs.What.{is_array}
use Rattle.abc_link_names.specs.Linked.{LinkedFile, IsLinkedFile, layout_of}
use Rattle.abc_link_names.specs.Places.{host_number}
use Rattle.abc_link_names.specs.Slots.{slots_of}
use Rattle.abc_link_names.specs.declared.part.Part.TheVariants as parts
use Rattle.abc_objects.specs.Fixed.{fixed_bytes}
use Rattle.abc_objects.specs.Growing.{ObjectKeeps}
use Rattle.abc_objects.specs.Opening.{opening_objects, opening_scopes}
use Rattle.abc_objects.specs.Starts.{StartsExist}
use Rattle.abc_objects.specs.Values.{Exists, IsObject}

-- a scope, or none
abbrev pub IsScope : Heap → Option ScopeId → Type 0
IsScope h None = Unit {0}
IsScope h (Some s) = s.0 < length h.scopes

-- an object, or none
abbrev pub IsObjectOrNone : Heap → Option ObjId → Type 0
IsObjectOrNone h None = Unit {0}
IsObjectOrNone h (Some o) = IsObject h o

-- older than object o, or none
abbrev pub IsOlder : ℕ → Option ObjId → Type 0
IsOlder o None = Unit {0}
IsOlder o (Some d) = d.0 < o

-- the scope below is older
abbrev pub IsBeneath : ℕ → Option ScopeId → Type 0
IsBeneath s None = Unit {0}
IsBeneath s (Some p) = p.0 < s

-- what an object is names what is there
abbrev pub NamesParts : LinkedFile → Heap → What → Type 0
NamesParts l h (whats.Closure m s scope bound) = (m < length l.file.methods) × (s < length l.file.scripts) × IsScope h scope × IsObjectOrNone h bound
NamesParts l h (whats.ClassObject k s statics instances) = (k < length l.file.instances) × (s < length l.file.scripts) × IsScope h statics × (instances.0 < length h.scopes)
NamesParts l h (whats.Formula n) = n < length h.formulas
NamesParts l h (whats.Global s) = s < length l.file.scripts
NamesParts l h other = Unit {0}

-- what an object may be that is made by itself
abbrev pub IsMadeAlone : What → Type 0
IsMadeAlone whats.Plain = Unit {0}
IsMadeAlone (whats.Closure m s scope bound) = Unit {0}
IsMadeAlone whats.Activation = Unit {0}
IsMadeAlone whats.Catch = Unit {0}
IsMadeAlone other = ⊥

-- a property's name is a text, and its value exists
abbrev pub IsProperty : LinkedFile → Heap → Option (Span × Value) → Type 0
IsProperty l h None = Unit {0}
IsProperty l h (Some p) = IsText l.file.strings h p.0 × Exists l h p.1

-- the elements of a list, one by one
abbrev pub EachAt : {X : Type 0} → (X → Type 0) → List X → Type 0
EachAt {X = X} P xs = (k : ℕ) (x : X) → slice_get xs k ≡ Some x → P x

-- the entries of a scope stack are objects
abbrev pub AreEntries : Heap → List ScopeEntry → Type 0
AreEntries h es = EachAt (λ (e : ScopeEntry). IsObject h e.object) es

-- the layout of a host class's instances
abbrev pub host_layout : LinkedFile → HostClass → ℕ
host_layout l c = (layout_of l (parts.Host c)).0

-- the layout of a class object, and what a class object is made of
abbrev pub class_object_layout : LinkedFile → ℕ → ℕ
class_object_layout l k = (layout_of l (parts.ClassObject k)).0

-- what class k is made of: its home script, its layouts, the prototype of its base, and the delegate of its class object
abbrev pub class_parts : LinkedFile → ℕ → ℕ → Option ObjId → Option ObjId → ClassParts
class_parts l k home base delegate = record { class = k; home = home; prototype_layout = host_layout l hosts.Object; class_layout = class_object_layout l k; base_prototype = base; delegate = delegate }

-- the layout of arrays
abbrev pub array_layout : LinkedFile → ℕ
array_layout l = host_layout l hosts.Array

-- object number o
pub record ObjectStands (l : LinkedFile) (h : Heap) (o : ℕ) (ob : Object) : Type 0 where
  pub layout : ob.layout < length l.parts
  pub slots : length ob.slots ≡ length (slots_of l ob.layout)
  pub delegate : IsOlder o ob.delegate
  pub what : NamesParts l h ob.what
  pub array : is_array ob.what ≡ true → ob.layout ≡ array_layout l
  pub no_array : is_array ob.what ≡ false → ob.layout ≢ array_layout l
  pub elements : is_array ob.what ≡ false → ob.elements ≡ []
  pub slot_values : EachAt (Exists l h) ob.slots
  pub properties : EachAt (IsProperty l h) ob.properties
  pub element_values : EachAt (Exists l h) ob.elements

-- scope number s
pub record ScopeStands (h : Heap) (s : ℕ) (n : ScopeNode) : Type 0 where
  pub object : IsObject h n.entry.object
  pub parent : IsBeneath s n.parent

-- object o is the class object of class k
pub record IsClassObject (h : Heap) (k o : ℕ) : Type 0 where
  pub object : Object
  pub at : slice_get h.objects o ≡ Some object
  pub home : ℕ
  pub statics : Option ScopeId
  pub instances : ScopeId
  pub is : object.what ≡ whats.ClassObject k home statics instances

-- the class object of a host class, among the objects of the opening: its prototype slot is its first
abbrev pub host_class_number : HostClass → ℕ
host_class_number c = 14 + host_number c

abbrev pub HasPrototypes : Heap → Type 0
HasPrototypes h = (c : HostClass) → 0 < length (slots_of_object h.objects (host_class_number c))

-- the object that a class object's prototype slot holds, if it is one
abbrev pub object_if_any : Option Value → Option ObjId
object_if_any (Some (values.Obj o)) = Some o
object_if_any other = None

-- the prototype of the class whose class object is object o: what its first slot holds, if that is an object
abbrev pub prototype_of : Heap → ℕ → Option ObjId
prototype_of h o = object_if_any (slice_get (slots_of_object h.objects o) 0)

-- the prototype of arrays
abbrev pub array_prototype : Heap → Option ObjId
array_prototype h = prototype_of h (host_class_number hosts.Array)

-- the object is there, and has the layout, the delegate and what it is of the one that was made
abbrev pub IsMadeAs : Heap → ObjId → Object → Type 0
IsMadeAs h o made = IsObject h o × ObjectKeeps made (object_at h.objects o.0)

-- the objects of the opening keep what they were made as, and its scopes stand first
pub record HasOpening (l : LinkedFile) (h : Heap) : Type 0 where
  pub objects : (o : ℕ) (ob : Object) → slice_get (opening_objects l h.formulas) o ≡ Some ob → IsMadeAs h (obj_id o) ob
  pub scopes : (s : ℕ) (n : ScopeNode) → slice_get (opening_scopes l (length h.formulas)) s ≡ Some n → slice_get h.scopes s ≡ Some n
  pub few : length h.formulas ≤ 64

-- a heap stands over a linked file: all that it names is there, and each object is what its layout says
pub record StandsOver (l : LinkedFile) (h : Heap) : Type 0 where
  -- the file is linked, and the values with which slots start exist
  pub linked : IsLinkedFile l
  pub starts : StartsExist l
  pub opening : HasOpening l h
  pub hosts : HasPrototypes h
  -- the strings are those of the file
  pub strings : h.strings ≡ l.file.strings
  -- the fixed texts stand first
  pub fixed : (names : List ℕ) × (h.fixed ≡ fixed_bytes ++ names)
  pub objects : (o : ℕ) (ob : Object) → slice_get h.objects o ≡ Some ob → ObjectStands l h o ob
  pub scopes : (s : ℕ) (n : ScopeNode) → slice_get h.scopes s ≡ Some n → ScopeStands h s n
  -- the class objects, each named by its class
  pub counted : length h.classes ≡ length l.file.instances
  pub named : (k o : ℕ) → slice_get h.classes k ≡ Some (Some (obj_id o)) → IsClassObject h k o
  pub classes : (k o : ℕ) → IsClassObject h k o → slice_get h.classes k ≡ Some (Some (obj_id o))

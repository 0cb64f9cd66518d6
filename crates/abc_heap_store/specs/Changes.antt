-- What the calls change: one object, or what is made at the end (profile: docs/MACHINE.md, "Heap and room").
use Rattle.std.specs.Prelude.{◌≡◌, ℕ, zero, suc, ◌+◌, false, List, [], ◌∷◌, ◌++◌, length, set, Option, Some, None}
use Rattle.abc_heap_values.specs.declared.values.Span.{Span}
use Rattle.abc_heap_values.specs.declared.values.ObjId.{ObjId}
use Rattle.abc_heap_values.specs.declared.values.Value.{Value}
use Rattle.abc_heap_values.specs.declared.values.Value.TheVariants.{Obj}
use Rattle.abc_heap_store.specs.declared.records.What.{What}
use Rattle.abc_heap_store.specs.declared.records.What.TheVariants.{Closure, ClassObject, Plain, Array}
use Rattle.abc_heap_store.specs.declared.records.ScopeId.{ScopeId}
use Rattle.abc_heap_store.specs.declared.records.ScopeEntry.{ScopeEntry}
use Rattle.abc_heap_store.specs.declared.store.ClassParts.{ClassParts}
use Rattle.abc_heap_store.specs.Heap.{Object, Heap, HasRoomFor, obj_id}
use Rattle.abc_heap_store.specs.Scopes.{nodes, top_of_scopes, scope_id}

-- ---- one object

-- object o changed, and no other
abbrev pub change : (Object → Object) → ℕ → List Object → List Object
change f o [] = []
change f zero (ob ∷ obs) = f ob ∷ obs
change f (suc o) (ob ∷ obs) = ob ∷ change f o obs

-- the heap with object o changed, and nothing else
abbrev pub with_object : (Object → Object) → ℕ → Heap → Heap
with_object f o h = record h { objects = change f o h.objects }

-- the object with v in its slot k
abbrev pub with_slot : ℕ → Value → Object → Object
with_slot k v ob = record ob { slots = set ob.slots k v }

-- the object with these slots after its own
abbrev pub with_more_slots : List Value → Object → Object
with_more_slots vs ob = record ob { slots = ob.slots ++ vs }

abbrev pub with_property : ℕ → Option (Span × Value) → Object → Object
with_property k p ob = record ob { properties = set ob.properties k p }

-- the object with one more property, of name n and value v, at the end
abbrev pub with_new_property : Span → Value → Object → Object
with_new_property n v ob = record ob { properties = ob.properties ++ Some (n, v) ∷ [] }

-- the object with v as its element k, counted from 0
abbrev pub with_element : ℕ → Value → Object → Object
with_element k v ob = record ob { elements = set ob.elements k v }

-- the object with one more element at the end
abbrev pub with_new_element : Value → Object → Object
with_new_element v ob = record ob { elements = ob.elements ++ v ∷ [] }

abbrev pub with_more_elements : List Value → Object → Object
with_more_elements vs ob = record ob { elements = ob.elements ++ vs }

-- ---- what is made at the end

-- an object without slots, properties and elements
abbrev pub bare_object : ℕ → Option ObjId → What → Object
bare_object layout delegate what = record { layout = layout; delegate = delegate; slots = []; properties = []; elements = []; what = what }

-- one more object, with its slots
abbrev pub with_made : List Value → ℕ → Option ObjId → What → Heap → Heap
with_made starts layout delegate what h = record h { objects = h.objects ++ with_more_slots starts (bare_object layout delegate what) ∷ [] }

-- more scope nodes, above a saved one
abbrev pub with_scopes : Option ScopeId → List ScopeEntry → Heap → Heap
with_scopes saved es h = record h { scopes = h.scopes ++ nodes (length h.scopes) saved es }

-- an object is made where there is room for it and for its slots
pub record IsMade (old : Heap) (new : Heap) (o : ObjId) (starts : List Value) (layout : ℕ) (delegate : Option ObjId) (what : What) : Type 0 where
  pub number : o.0 ≡ length old.objects
  pub room : HasRoomFor old 1 (length starts)
  pub heap : new ≡ with_made starts layout delegate what old

-- a function is made: an unbound closure that keeps the captured scopes
pub record IsFunctionMade (old : Heap) (new : Heap) (o : ObjId) (starts : List Value) (layout : ℕ) (method : ℕ) (home : ℕ) (delegate : Option ObjId) (saved : Option ScopeId) (scopes : List ScopeEntry) : Type 0 where
  pub number : o.0 ≡ length old.objects
  pub room : HasRoomFor old 1 (length starts + length scopes)
  pub heap : new ≡ with_made starts layout delegate (Closure method home (top_of_scopes (length old.scopes) saved scopes) None) (with_scopes saved scopes old)

-- a class is made: its prototype object, then the class object, whose first slot holds it
abbrev pub with_class : List Value → List Value → ClassParts → Option ScopeId → List ScopeEntry → Heap → Heap
with_class ps cs parts saved scopes h =
    let o = length h.objects + 1 in
    let statics = top_of_scopes (length h.scopes) saved scopes in
    let own = (record { object = obj_id o; with_flag = false }) ∷ [] in
    let what = ClassObject parts.class parts.home statics (scope_id (length h.scopes + length scopes)) in
    let made = with_object (with_slot 0 (Obj (obj_id (length h.objects)))) o
    (with_made cs parts.class_layout parts.delegate what
    (with_scopes statics own (with_scopes saved scopes (with_made ps parts.prototype_layout parts.base_prototype Plain h)))) in
    record made { classes = set h.classes parts.class (Some (obj_id o)) }

-- a class is made where there is room for its two objects, their slots and its scopes; `o` is the class object,
-- `ps` and `cs` are the values with which the slots of the prototype object and of the class object start
pub record IsClassMade (old : Heap) (new : Heap) (o : ObjId) (ps : List Value) (cs : List Value) (parts : ClassParts) (saved : Option ScopeId) (scopes : List ScopeEntry) : Type 0 where
  pub number : o.0 ≡ length old.objects + 1
  pub room : HasRoomFor old 2 (length ps + length cs + length scopes + 1)
  pub heap : new ≡ with_class ps cs parts saved scopes old

-- an array is made, which has no slots
abbrev pub with_array : List Value → ℕ → Option ObjId → Heap → Heap
with_array elements layout delegate h = record h { objects = h.objects ++ with_more_elements elements (bare_object layout delegate Array) ∷ [] }

-- array o is made, of these elements, where there is room for it and for them
pub record IsArrayMade (old : Heap) (new : Heap) (o : ObjId) (elements : List Value) (layout : ℕ) (delegate : Option ObjId) : Type 0 where
  pub number : o.0 ≡ length old.objects
  pub room : HasRoomFor old 1 (length elements)
  pub heap : new ≡ with_array elements layout delegate old

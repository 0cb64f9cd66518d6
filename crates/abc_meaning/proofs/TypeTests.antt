-- The test of types decides what it is to decide.
use Rattle.std.proofs.Common.{◌≡◌, ◌≤◌, ℕ, pos, Bool, true, false, ◌&&◌, length, refl, sym, subst, arith}
use Rattle.std.specs.Prelude.{◌≤ℤ◌, T, ℤ, int_le}
use Rattle.std.specs.Int.Signed.{le_z_yes}
use Rattle.std.proofs.lemmas.Bool.{false≢true}
use Rattle.std.proofs.lemmas.Float.{T_from_true}
use Rattle.std.proofs.lemmas.List.{length-map}
use Rattle.abc_heap_values.specs.declared.values.Value.{Value}
use Rattle.abc_heap_values.specs.declared.values.Value.TheVariants as values
use Rattle.abc_heap_store.specs.Heap.{Heap, object_at}
use Rattle.abc_ops.specs.Types.{IsInstanceOf, IsInt, IsObjectOf, IsOf, IsUInt, NamesInterface}
use Rattle.abc_link_names.specs.Interfaces.{class_graph}
use Rattle.abc_link_names.specs.Linked.{IsLinkedFile, LinkedFile}
use Rattle.abc_link_names.specs.Numbering.{part_at}
use Rattle.abc_link_names.specs.declared.part.Part.{Part}
use Rattle.abc_link_names.specs.declared.part.Part.TheVariants as parts
use Rattle.abc_link_names.specs.declared.types.Ty.{Ty}
use Rattle.abc_link_names.specs.declared.types.Ty.TheVariants as types
use Rattle.abc_link_names.specs.Bases.{is_interface}
use Rattle.abc_verify_typing.proofs.Reaching.{below_reached, reached}
use Rattle.abc_meaning.specs.TypeLaws.{DecidesTypes}
use Rattle.abc_meaning.specs.Types.{is_instance_of, is_int, is_object_of, is_of_type, is_uint, leads_within, names_interface}
use Rattle.abc_meaning.proofs.Reaching.{leads_complete, leads_sound}

-- ---- numbers

no_test : (t : Bool) → t ≡ false → T t → ⊥
no_test true e u = false≢true (sym e)
no_test false e u = u

at_most : (a b : ℤ) → a ≤ℤ b → int_le a b ≡ true
at_most a b h = go (int_le a b) refl
  where
    go : (t : Bool) → int_le a b ≡ t → int_le a b ≡ true
    go true e = e
    go false e = absurd (no_test (int_le a b) e h.le)

int_sound : (v : Value) → is_int v ≡ true → IsInt v
int_sound (values.Num n) e = le_z_yes (T_from_true (int_le n (pos 2147483647)) e)
int_sound values.Undefined e = false≢true e
int_sound values.Null e = false≢true e
int_sound (values.Bool b) e = false≢true e
int_sound (values.Text s) e = false≢true e
int_sound (values.Space n) e = false≢true e
int_sound (values.Obj o) e = false≢true e

int_complete : (v : Value) → IsInt v → is_int v ≡ true
int_complete (values.Num n) h = at_most n (pos 2147483647) h
int_complete values.Undefined h = absurd h
int_complete values.Null h = absurd h
int_complete (values.Bool b) h = absurd h
int_complete (values.Text s) h = absurd h
int_complete (values.Space n) h = absurd h
int_complete (values.Obj o) h = absurd h

uint_sound : (v : Value) → is_uint v ≡ true → IsUInt v
uint_sound (values.Num n) e = le_z_yes (T_from_true (int_le (pos 0) n) e)
uint_sound values.Undefined e = false≢true e
uint_sound values.Null e = false≢true e
uint_sound (values.Bool b) e = false≢true e
uint_sound (values.Text s) e = false≢true e
uint_sound (values.Space n) e = false≢true e
uint_sound (values.Obj o) e = false≢true e

uint_complete : (v : Value) → IsUInt v → is_uint v ≡ true
uint_complete (values.Num n) h = at_most (pos 0) n h
uint_complete values.Undefined h = absurd h
uint_complete values.Null h = absurd h
uint_complete (values.Bool b) h = absurd h
uint_complete (values.Text s) h = absurd h
uint_complete (values.Space n) h = absurd h
uint_complete (values.Obj o) h = absurd h

-- ---- objects

object_sound : (l : LinkedFile) (h : Heap) (x : ℕ) (v : Value) → is_object_of l h x v ≡ true → IsObjectOf l h x v
object_sound l h x (values.Obj o) e = below_reached l (object_at h.objects o.0).layout (object_at h.objects o.0).layout x e
object_sound l h x values.Undefined e = false≢true e
object_sound l h x values.Null e = false≢true e
object_sound l h x (values.Num n) e = false≢true e
object_sound l h x (values.Bool b) e = false≢true e
object_sound l h x (values.Text s) e = false≢true e
object_sound l h x (values.Space n) e = false≢true e

object_complete : (l : LinkedFile) (h : Heap) (x : ℕ) (v : Value) → IsLinkedFile l → IsObjectOf l h x v → is_object_of l h x v ≡ true
object_complete l h x (values.Obj o) f b = let least : (object_at h.objects o.0).layout ≤ (object_at h.objects o.0).layout = omega arith in reached l f (object_at h.objects o.0).layout (object_at h.objects o.0).layout x least b
object_complete l h x values.Undefined f b = absurd b
object_complete l h x values.Null f b = absurd b
object_complete l h x (values.Num n) f b = absurd b
object_complete l h x (values.Bool c) f b = absurd b
object_complete l h x (values.Text s) f b = absurd b
object_complete l h x (values.Space n) f b = absurd b

-- ---- interfaces

both : (a b : Bool) → (a && b) ≡ true → (a ≡ true) × (b ≡ true)
both true b e = (refl, e)
both false b e = absurd (false≢true e)

and_true : (a b : Bool) → a ≡ true → b ≡ true → (a && b) ≡ true
and_true true b e f = f
and_true false b e f = absurd (false≢true e)

-- there is a list of targets for each class
graph_length : (l : LinkedFile) → length (class_graph l.file) ≡ length l.file.instances
graph_length l = length-map _ _

part_sound : (l : LinkedFile) (k : ℕ) (part : Part) → names_interface l k part ≡ true → NamesInterface l k part
part_sound l k (parts.Instance c) e = let h = both (is_interface l.file k) (leads_within (class_graph l.file) (length l.file.instances) c k) e in (h.0, leads_sound (class_graph l.file) (length l.file.instances) c k h.1)
part_sound l k (parts.Host h) e = false≢true e
part_sound l k (parts.ClassObject c) e = false≢true e
part_sound l k (parts.HostClassObject h) e = false≢true e
part_sound l k (parts.Global s) e = false≢true e
part_sound l k (parts.Activation b) e = false≢true e
part_sound l k (parts.Catch b c) e = false≢true e

part_complete : (l : LinkedFile) (k : ℕ) (part : Part) → NamesInterface l k part → names_interface l k part ≡ true
part_complete l k (parts.Instance c) h = and_true (is_interface l.file k) (leads_within (class_graph l.file) (length l.file.instances) c k) h.0 (subst (λ n. leads_within (class_graph l.file) n c k ≡ true) (graph_length l) (leads_complete (class_graph l.file) c k h.1))
part_complete l k (parts.Host c) h = absurd h
part_complete l k (parts.ClassObject c) h = absurd h
part_complete l k (parts.HostClassObject c) h = absurd h
part_complete l k (parts.Global s) h = absurd h
part_complete l k (parts.Activation b) h = absurd h
part_complete l k (parts.Catch b c) h = absurd h

instance_sound : (l : LinkedFile) (h : Heap) (k : ℕ) (v : Value) → is_instance_of l h k v ≡ true → IsInstanceOf l h k v
instance_sound l h k (values.Obj o) e = part_sound l k (part_at l.parts (object_at h.objects o.0).layout) e
instance_sound l h k values.Undefined e = false≢true e
instance_sound l h k values.Null e = false≢true e
instance_sound l h k (values.Num n) e = false≢true e
instance_sound l h k (values.Bool b) e = false≢true e
instance_sound l h k (values.Text s) e = false≢true e
instance_sound l h k (values.Space n) e = false≢true e

instance_complete : (l : LinkedFile) (h : Heap) (k : ℕ) (v : Value) → IsInstanceOf l h k v → is_instance_of l h k v ≡ true
instance_complete l h k (values.Obj o) b = part_complete l k (part_at l.parts (object_at h.objects o.0).layout) b
instance_complete l h k values.Undefined b = absurd b
instance_complete l h k values.Null b = absurd b
instance_complete l h k (values.Num n) b = absurd b
instance_complete l h k (values.Bool c) b = absurd b
instance_complete l h k (values.Text s) b = absurd b
instance_complete l h k (values.Space n) b = absurd b

-- ---- all types

sound : (l : LinkedFile) (h : Heap) (t : Ty) (v : Value) → is_of_type l h t v ≡ true → IsOf l h t v
sound l h types.Any v e = tt
sound l h types.Int v e = int_sound v e
sound l h types.UInt v e = uint_sound v e
sound l h (types.Of x) v e = object_sound l h x.0 v e
sound l h (types.Interface k) v e = instance_sound l h k v e
sound l h types.Void values.Undefined e = tt
sound l h types.Void values.Null e = false≢true e
sound l h types.Void (values.Num n) e = false≢true e
sound l h types.Void (values.Bool b) e = false≢true e
sound l h types.Void (values.Text s) e = false≢true e
sound l h types.Void (values.Space n) e = false≢true e
sound l h types.Void (values.Obj o) e = false≢true e
sound l h types.Object values.Undefined e = false≢true e
sound l h types.Object values.Null e = false≢true e
sound l h types.Object (values.Num n) e = tt
sound l h types.Object (values.Bool b) e = tt
sound l h types.Object (values.Text s) e = tt
sound l h types.Object (values.Space n) e = tt
sound l h types.Object (values.Obj o) e = tt
sound l h types.Number values.Undefined e = false≢true e
sound l h types.Number values.Null e = false≢true e
sound l h types.Number (values.Num n) e = tt
sound l h types.Number (values.Bool b) e = false≢true e
sound l h types.Number (values.Text s) e = false≢true e
sound l h types.Number (values.Space n) e = false≢true e
sound l h types.Number (values.Obj o) e = false≢true e
sound l h types.Boolean values.Undefined e = false≢true e
sound l h types.Boolean values.Null e = false≢true e
sound l h types.Boolean (values.Num n) e = false≢true e
sound l h types.Boolean (values.Bool b) e = tt
sound l h types.Boolean (values.Text s) e = false≢true e
sound l h types.Boolean (values.Space n) e = false≢true e
sound l h types.Boolean (values.Obj o) e = false≢true e
sound l h types.Text values.Undefined e = false≢true e
sound l h types.Text values.Null e = false≢true e
sound l h types.Text (values.Num n) e = false≢true e
sound l h types.Text (values.Bool b) e = false≢true e
sound l h types.Text (values.Text s) e = tt
sound l h types.Text (values.Space n) e = false≢true e
sound l h types.Text (values.Obj o) e = false≢true e
sound l h types.Space values.Undefined e = false≢true e
sound l h types.Space values.Null e = false≢true e
sound l h types.Space (values.Num n) e = false≢true e
sound l h types.Space (values.Bool b) e = false≢true e
sound l h types.Space (values.Text s) e = false≢true e
sound l h types.Space (values.Space n) e = tt
sound l h types.Space (values.Obj o) e = false≢true e

complete : (l : LinkedFile) (h : Heap) (t : Ty) (v : Value) → IsLinkedFile l → IsOf l h t v → is_of_type l h t v ≡ true
complete l h types.Any v f b = refl
complete l h types.Int v f b = int_complete v b
complete l h types.UInt v f b = uint_complete v b
complete l h (types.Of x) v f b = object_complete l h x.0 v f b
complete l h (types.Interface k) v f b = instance_complete l h k v b
complete l h types.Void values.Undefined f w = refl
complete l h types.Void values.Null f w = absurd w
complete l h types.Void (values.Num n) f w = absurd w
complete l h types.Void (values.Bool b) f w = absurd w
complete l h types.Void (values.Text s) f w = absurd w
complete l h types.Void (values.Space n) f w = absurd w
complete l h types.Void (values.Obj o) f w = absurd w
complete l h types.Object values.Undefined f w = absurd w
complete l h types.Object values.Null f w = absurd w
complete l h types.Object (values.Num n) f w = refl
complete l h types.Object (values.Bool b) f w = refl
complete l h types.Object (values.Text s) f w = refl
complete l h types.Object (values.Space n) f w = refl
complete l h types.Object (values.Obj o) f w = refl
complete l h types.Number values.Undefined f w = absurd w
complete l h types.Number values.Null f w = absurd w
complete l h types.Number (values.Num n) f w = refl
complete l h types.Number (values.Bool b) f w = absurd w
complete l h types.Number (values.Text s) f w = absurd w
complete l h types.Number (values.Space n) f w = absurd w
complete l h types.Number (values.Obj o) f w = absurd w
complete l h types.Boolean values.Undefined f w = absurd w
complete l h types.Boolean values.Null f w = absurd w
complete l h types.Boolean (values.Num n) f w = absurd w
complete l h types.Boolean (values.Bool b) f w = refl
complete l h types.Boolean (values.Text s) f w = absurd w
complete l h types.Boolean (values.Space n) f w = absurd w
complete l h types.Boolean (values.Obj o) f w = absurd w
complete l h types.Text values.Undefined f w = absurd w
complete l h types.Text values.Null f w = absurd w
complete l h types.Text (values.Num n) f w = absurd w
complete l h types.Text (values.Bool b) f w = absurd w
complete l h types.Text (values.Text s) f w = refl
complete l h types.Text (values.Space n) f w = absurd w
complete l h types.Text (values.Obj o) f w = absurd w
complete l h types.Space values.Undefined f w = absurd w
complete l h types.Space values.Null f w = absurd w
complete l h types.Space (values.Num n) f w = absurd w
complete l h types.Space (values.Bool b) f w = absurd w
complete l h types.Space (values.Text s) f w = absurd w
complete l h types.Space (values.Space n) f w = refl
complete l h types.Space (values.Obj o) f w = absurd w

pub decides_types : DecidesTypes
decides_types l h t v f = (sound l h t v, complete l h t v f)

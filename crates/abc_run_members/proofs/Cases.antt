-- What is done with what was found, case by case.
use Rattle.std.proofs.Common.{◌≡◌, ◌≤◌, ℕ, List, [], ◌∷◌, Bool, true, false, length, take, reverse, get_or, refl, sym, ap, ◌∙◌, subst, arith}
use Rattle.std.specs.declared.option.Option.{Option}
use Rattle.std.specs.Prelude.{not, ◌&&◌, ◌||◌, if◌then◌else◌}
use Rattle.abc_base.specs.declared.names.Fault.TheVariants as faults
use Rattle.abc_base.specs.declared.names.HostClass.TheVariants as hosts
use Rattle.abc_heap_values.specs.declared.values.ObjId.{ObjId}
use Rattle.abc_heap_values.specs.declared.values.Value.{Value}
use Rattle.abc_heap_values.specs.declared.values.Value.TheVariants as values
use Rattle.abc_link_names.specs.declared.types.Owner.{Owner}
use Rattle.abc_heap_store.specs.Heap.{Object, object_at}
use Rattle.abc_objects.specs.Values.{IsObject}
use Rattle.abc_objects.specs.Searches.{declared_found}
use Rattle.abc_objects.specs.Spaces.{name_holds_public}
use Rattle.abc_objects.specs.declared.found.Found.{Found}
use Rattle.abc_objects.specs.declared.found.Found.TheVariants as founds
use Rattle.abc_objects.specs.declared.found.Want.TheVariants.{Write}
use Rattle.abc_objects.specs.declared.name.Name.{Name}
use Rattle.abc_run_calls.specs.Calls.{settled_by}
use Rattle.abc_frames.specs.Frame.{Frame, arguments}
use Rattle.abc_run_state.specs.Operands.{operand_at}
use Rattle.abc_run_state.specs.Settling.{settles_how}
use Rattle.abc_run_state.specs.Stops.{IsOpen}
use Rattle.abc_run_state.specs.declared.state.How.{How}
use Rattle.abc_run_state.proofs.Turning.{open_first}
use Rattle.abc_meaning.specs.Calling.{Came, calls, got}
use Rattle.abc_meaning.specs.Members.{call_found, calls_name, find_on, read_found, reads, value_found, with_holder, write_found, write_property, write_slot, writes_to}
use Rattle.abc_meaning.specs.Setting.{Setting}
use Rattle.abc_meaning.specs.World.{Errs, Faults, Run, Stop, Stopped, Went, World, and_then, see, some, throws, ◌>>=◌, ◌>>◌}
use Rattle.abc_run_members.proofs.Parts.{asks_holder, holder_goes, holder_halts}
use Rattle.abc_run_members.proofs.Searched.{object_inside}
use Rattle.abc_run_members.specs.Members.{enters_on, public_written, slot_on, slot_written_if, value_read, value_written}

-- ---- a value is read

slot_found : (p : Setting) (k : ℕ) (c : Bool) (v : Value) (w : World) → value_found p (founds.Slot k c) v w ≡ slot_on v k w
slot_found p k c (values.Obj o) w = refl
slot_found p k c values.Undefined w = refl
slot_found p k c values.Null w = refl
slot_found p k c (values.Num n) w = refl
slot_found p k c (values.Bool b) w = refl
slot_found p k c (values.Text t) w = refl
slot_found p k c (values.Space n) w = refl

pub slot_at : (p : Setting) (found : Found) (k : ℕ) (c : Bool) (v : Value) (w : World) → found ≡ founds.Slot k c → value_found p found v w ≡ slot_on v k w
slot_at p found k c v w e = ap (λ (f : Found). value_found p f v w) e ∙ slot_found p k c v w

getter_read : (p : Setting) (m : ℕ) (v : Value) (w : World) → read_found p (founds.Getter m) v w ≡ enters_on p m v [] w
getter_read p m (values.Obj o) w = refl
getter_read p m values.Undefined w = refl
getter_read p m values.Null w = refl
getter_read p m (values.Num n) w = refl
getter_read p m (values.Bool b) w = refl
getter_read p m (values.Text t) w = refl
getter_read p m (values.Space n) w = refl

pub getter_at : (p : Setting) (found : Found) (m : ℕ) (v : Value) (w : World) → found ≡ founds.Getter m → read_found p found v w ≡ enters_on p m v [] w
getter_at p found m v w e = ap (λ (f : Found). read_found p f v w) e ∙ getter_read p m v w

method_read : (p : Setting) (owner : Owner) (m : ℕ) (v : Value) (w : World) → read_found p (founds.Method owner m) v w ≡ (value_read p (founds.Method owner m) v >>= λ x. got x) w
method_read p owner m (values.Obj o) w = refl
method_read p owner m values.Undefined w = refl
method_read p owner m values.Null w = refl
method_read p owner m (values.Num n) w = refl
method_read p owner m (values.Bool b) w = refl
method_read p owner m (values.Text t) w = refl
method_read p owner m (values.Space n) w = refl

pub value_is_read : (p : Setting) (found : Found) (v : Value) (w : World) → ((m : ℕ) → found ≡ founds.Getter m → ⊥) → read_found p found v w ≡ (value_read p found v >>= λ x. got x) w
value_is_read p (founds.Slot k c) v w apart = refl
value_is_read p (founds.Method owner m) v w apart = method_read p owner m v w
value_is_read p (founds.Getter m) v w apart = absurd (apart m refl)
value_is_read p (founds.Setter m) v w apart = refl
value_is_read p (founds.Property holder x) v w apart = refl
value_is_read p (founds.Element holder k) v w apart = refl
value_is_read p (founds.Length holder) v w apart = refl
value_is_read p founds.WrongSide v w apart = refl
value_is_read p founds.Missing v w apart = refl

pub value_plain : (p : Setting) (found : Found) (v : Value) (w : World) → ((owner : Owner) (m : ℕ) → found ≡ founds.Method owner m → ⊥) → value_read p found v w ≡ value_found p found v w
value_plain p (founds.Slot k c) v w apart = refl
value_plain p (founds.Method owner m) v w apart = absurd (apart owner m refl)
value_plain p (founds.Getter m) v w apart = refl
value_plain p (founds.Setter m) v w apart = refl
value_plain p (founds.Property holder x) v w apart = refl
value_plain p (founds.Element holder k) v w apart = refl
value_plain p (founds.Length holder) v w apart = refl
value_plain p founds.WrongSide v w apart = refl
value_plain p founds.Missing v w apart = refl

-- only objects have slots and methods

pub slot_object : (v : Value) (k : ℕ) (w : World) → ((o : ObjId) → v ≡ values.Obj o → ⊥) → IsOpen (slot_on v k w) → ⊥
slot_object (values.Obj o) k w apart h = apart o refl
slot_object values.Undefined k w apart h = h
slot_object values.Null k w apart h = h
slot_object (values.Num n) k w apart h = h
slot_object (values.Bool b) k w apart h = h
slot_object (values.Text t) k w apart h = h
slot_object (values.Space n) k w apart h = h

pub method_object : (p : Setting) (owner : Owner) (m : ℕ) (v : Value) (w : World) → ((o : ObjId) → v ≡ values.Obj o → ⊥) → IsOpen (value_read p (founds.Method owner m) v w) → ⊥
method_object p owner m (values.Obj o) w apart h = apart o refl
method_object p owner m values.Undefined w apart h = h
method_object p owner m values.Null w apart h = h
method_object p owner m (values.Num n) w apart h = h
method_object p owner m (values.Bool b) w apart h = h
method_object p owner m (values.Text t) w apart h = h
method_object p owner m (values.Space n) w apart h = h

-- ---- a value is called

method_called : (p : Setting) (owner : Owner) (m : ℕ) (v receiver : Value) (args : List Value) (w : World) → call_found p (founds.Method owner m) v receiver args w ≡ enters_on p m v args w
method_called p owner m (values.Obj o) receiver args w = refl
method_called p owner m values.Undefined receiver args w = refl
method_called p owner m values.Null receiver args w = refl
method_called p owner m (values.Num n) receiver args w = refl
method_called p owner m (values.Bool b) receiver args w = refl
method_called p owner m (values.Text t) receiver args w = refl
method_called p owner m (values.Space n) receiver args w = refl

pub method_at : (p : Setting) (found : Found) (owner : Owner) (m : ℕ) (v receiver : Value) (args : List Value) (w : World) → found ≡ founds.Method owner m → call_found p found v receiver args w ≡ enters_on p m v args w
method_at p found owner m v receiver args w e = ap (λ (f : Found). call_found p f v receiver args w) e ∙ method_called p owner m v receiver args w

pub getter_called : (p : Setting) (m : ℕ) (v receiver : Value) (args : List Value) (w : World) → IsOpen (call_found p (founds.Getter m) v receiver args w) → call_found p (founds.Getter m) v receiver args w ≡ Stopped w (Faults faults.GetterCall)
getter_called p m (values.Obj o) receiver args w h = refl
getter_called p m values.Undefined receiver args w h = absurd h
getter_called p m values.Null receiver args w h = absurd h
getter_called p m (values.Num n) receiver args w h = absurd h
getter_called p m (values.Bool b) receiver args w h = absurd h
getter_called p m (values.Text t) receiver args w h = absurd h
getter_called p m (values.Space n) receiver args w h = absurd h

pub call_open : (p : Setting) (found : Found) (m : ℕ) (v receiver : Value) (args : List Value) (how : How) (f : Frame) (w : World) → found ≡ founds.Getter m → IsOpen (settled_by how f (call_found p found v receiver args) w) → IsOpen (call_found p (founds.Getter m) v receiver args w)
call_open p found m v receiver args how f w is h =
    open_first (call_found p (founds.Getter m) v receiver args w) (settles_how how f) (subst (λ (x : Found). IsOpen (settled_by how f (call_found p x v receiver args) w)) is h)

pub value_called : (p : Setting) (found : Found) (v receiver : Value) (args : List Value) (w : World) → ((owner : Owner) (m : ℕ) → found ≡ founds.Method owner m → ⊥) → ((m : ℕ) → found ≡ founds.Getter m → ⊥)
    → call_found p found v receiver args w ≡ (value_found p found v >>= λ f. calls p f receiver args) w
value_called p (founds.Slot k c) v receiver args w apart unlike = refl
value_called p (founds.Method owner m) v receiver args w apart unlike = absurd (apart owner m refl)
value_called p (founds.Getter m) v receiver args w apart unlike = absurd (unlike m refl)
value_called p (founds.Setter m) v receiver args w apart unlike = refl
value_called p (founds.Property holder x) v receiver args w apart unlike = refl
value_called p (founds.Element holder k) v receiver args w apart unlike = refl
value_called p (founds.Length holder) v receiver args w apart unlike = refl
value_called p founds.WrongSide v receiver args w apart unlike = refl
value_called p founds.Missing v receiver args w apart unlike = refl

-- ---- a value is written

slot_allowed : (p : Setting) (o : ObjId) (k : ℕ) (x : Value) (constant initial : Bool) (w : World)
    → (let m : Run Came = if constant && not initial then throws hosts.ReferenceError else (write_slot p o k x >> got values.Undefined) in m w) ≡ (slot_written_if (initial || not constant) p o k x >>= λ u. got values.Undefined) w
slot_allowed p o k x true true w = refl
slot_allowed p o k x true false w = refl
slot_allowed p o k x false true w = refl
slot_allowed p o k x false false w = refl

pub value_is_written : (p : Setting) (o : ObjId) (name : Name) (x : Value) (initial : Bool) (found : Found) (w : World) → ((m : ℕ) → found ≡ founds.Setter m → ⊥)
    → write_found p o name x initial found w ≡ (value_written p o name x initial found >>= λ u. got values.Undefined) w
value_is_written p o name x initial (founds.Slot k c) w apart = slot_allowed p o k x c initial w
value_is_written p o name x initial (founds.Method owner m) w apart = refl
value_is_written p o name x initial (founds.Getter m) w apart = refl
value_is_written p o name x initial (founds.Setter m) w apart = absurd (apart m refl)
value_is_written p o name x initial (founds.Property holder y) w apart = refl
value_is_written p o name x initial (founds.Element holder k) w apart = refl
value_is_written p o name x initial (founds.Length holder) w apart = refl
value_is_written p o name x initial founds.WrongSide w apart = refl
value_is_written p o name x initial founds.Missing w apart = missing (name_holds_public p.linked name.spaces)
  where
    missing : (b : Bool) → (let m : Run Came = if b then (write_property p o name.text x >> got values.Undefined) else throws hosts.ReferenceError in m w) ≡ ((if b then write_property p o name.text x else throws hosts.ReferenceError) >>= λ u. got values.Undefined) w
    missing true = refl
    missing false = refl

-- where nothing was found, a property is written
pub missing_written : (p : Setting) (o : ObjId) (name : Name) (x : Value) (initial : Bool) (found : Found) (w : World) → found ≡ founds.Missing
    → write_found p o name x initial found w ≡ (value_written p o name x initial founds.Missing >>= λ u. got values.Undefined) w
missing_written p o name x initial found w is =
    ap (λ (f : Found). write_found p o name x initial f w) is ∙ value_is_written p o name x initial founds.Missing w (λ m e. no_setter m e)
  where
    no_setter : (m : ℕ) → founds.Missing ≡ founds.Setter m → ⊥
    no_setter m e = cc

-- a search for a write finds nothing else
pub no_value : (p : Setting) (o : ObjId) (name : Name) (x : Value) (initial : Bool) (found : Found) (w : World)
    → ((k : ℕ) (c : Bool) → found ≡ founds.Slot k c → ⊥) → (found ≡ founds.Missing → ⊥) → ((owner : Owner) (m : ℕ) → found ≡ founds.Method owner m → ⊥) → (found ≡ founds.WrongSide → ⊥)
    → IsOpen (value_written p o name x initial found w) → ⊥
no_value p o name x initial (founds.Slot k c) w a b d e h = a k c refl
no_value p o name x initial founds.Missing w a b d e h = b refl
no_value p o name x initial (founds.Method owner m) w a b d e h = d owner m refl
no_value p o name x initial founds.WrongSide w a b d e h = e refl
no_value p o name x initial (founds.Getter m) w a b d e h = h
no_value p o name x initial (founds.Setter m) w a b d e h = h
no_value p o name x initial (founds.Property holder y) w a b d e h = h
no_value p o name x initial (founds.Element holder k) w a b d e h = h
no_value p o name x initial (founds.Length holder) w a b d e h = h

-- ---- by a name

pub reads_as : (p : Setting) (v : Value) (name : Name) (found : Found) (w : World) → asks_holder v w ≡ Went w tt → found ≡ find_on p v name w → reads p v name w ≡ read_found p found v w
reads_as p v name found w e is = holder_goes v (see (find_on p v name) >>= λ x. read_found p x v) w w e ∙ ap (λ (x : Found). read_found p x v w) (sym is)

pub calls_as : (p : Setting) (v receiver : Value) (name : Name) (args : List Value) (found : Found) (w : World) → asks_holder v w ≡ Went w tt → found ≡ find_on p v name w → calls_name p v receiver name args w ≡ call_found p found v receiver args w
calls_as p v receiver name args found w e is = holder_goes v (see (find_on p v name) >>= λ x. call_found p x v receiver args) w w e ∙ ap (λ (x : Found). call_found p x v receiver args w) (sym is)

writes_plain : (p : Setting) (v : Value) (name : Name) (x : Value) (initial : Bool) (w : World) → ((o : ObjId) → v ≡ values.Obj o → ⊥) → writes_to p v name x initial w ≡ with_holder v (throws hosts.ReferenceError) w
writes_plain p (values.Obj o) name x initial w apart = absurd (apart o refl)
writes_plain p values.Undefined name x initial w apart = refl
writes_plain p values.Null name x initial w apart = refl
writes_plain p (values.Num n) name x initial w apart = refl
writes_plain p (values.Bool b) name x initial w apart = refl
writes_plain p (values.Text t) name x initial w apart = refl
writes_plain p (values.Space n) name x initial w apart = refl

pub writes_refused : (p : Setting) (v : Value) (name : Name) (x : Value) (initial : Bool) (w : World) → ((o : ObjId) → v ≡ values.Obj o → ⊥) → asks_holder v w ≡ Went w tt → writes_to p v name x initial w ≡ Stopped w (Errs hosts.ReferenceError)
writes_refused p v name x initial w apart e = writes_plain p v name x initial w apart ∙ holder_goes v (throws hosts.ReferenceError) w w e

pub writes_halt : (p : Setting) (v : Value) (name : Name) (x : Value) (initial : Bool) (w n : World) (why : Stop) → asks_holder v w ≡ Stopped n why → writes_to p v name x initial w ≡ Stopped n why
writes_halt p (values.Obj o) name x initial w n why e = absurd cc
writes_halt p values.Undefined name x initial w n why e = holder_halts values.Undefined (throws hosts.ReferenceError) w n why e
writes_halt p values.Null name x initial w n why e = holder_halts values.Null (throws hosts.ReferenceError) w n why e
writes_halt p (values.Num k) name x initial w n why e = absurd cc
writes_halt p (values.Bool b) name x initial w n why e = absurd cc
writes_halt p (values.Text t) name x initial w n why e = absurd cc
writes_halt p (values.Space k) name x initial w n why e = absurd cc

pub writes_as : (p : Setting) (o : ObjId) (name : Name) (x : Value) (initial : Bool) (layout : ℕ) (found : Found) (w : World) → IsObject w.heap o → layout ≡ (object_at w.heap.objects o.0).layout → found ≡ declared_found p.linked w.heap layout layout name Write
    → writes_to p (values.Obj o) name x initial w ≡ write_found p o name x initial found w
writes_as p o name x initial layout found w inner a b =
    ap (λ (r : Option Object). and_then (some r w) (λ ob. see (λ u. declared_found p.linked u.heap ob.layout ob.layout name Write) >>= write_found p o name x initial)) (object_inside w.heap.objects o.0 inner)
    ∙ ap (λ (k : ℕ). write_found p o name x initial (declared_found p.linked w.heap k k name Write) w) (sym a)
    ∙ ap (λ (f : Found). write_found p o name x initial f w) (sym b)

-- ---- a setter, and other values that are written

one_taken : (vs : List Value) (x : Value) → 1 ≤ length vs → x ≡ get_or vs 0 values.Undefined → reverse (take 1 vs) ≡ x ∷ []
one_taken [] x b e = absurd (omega (arith, b))
one_taken (v ∷ vs) x b e = ap (λ (y : Value). y ∷ []) (sym e)

pub setter_written : (p : Setting) (o : ObjId) (name : Name) (x : Value) (initial : Bool) (found : Found) (m : ℕ) (f : Frame) (w : World) → 1 ≤ length f.stack → x ≡ operand_at 0 f → found ≡ founds.Setter m
    → write_found p o name x initial found w ≡ enters_on p m (values.Obj o) (arguments 1 f) w
setter_written p o name x initial found m f w b e is =
    ap (λ (y : Found). write_found p o name x initial y w) is ∙ ap (λ (vs : List Value). enters_on p m (values.Obj o) vs w) (sym (one_taken f.stack x b e))

pub public_kept : (p : Setting) (o : ObjId) (name : Name) (x : Value) (w : World) (b : Bool) → b ≡ name_holds_public p.linked name.spaces → b ≡ true → public_written p o name x w ≡ write_property p o name.text x w
public_kept p o name x w b e t = ap (λ (c : Bool). (if c then write_property p o name.text x else throws hosts.ReferenceError) w) (sym e ∙ t)

pub public_refused : (p : Setting) (o : ObjId) (name : Name) (x : Value) (w : World) (b : Bool) → b ≡ name_holds_public p.linked name.spaces → b ≡ false → public_written p o name x w ≡ Stopped w (Errs hosts.ReferenceError)
public_refused p o name x w b e t = ap (λ (c : Bool). (if c then write_property p o name.text x else throws hosts.ReferenceError) w) (sym e ∙ t)

-- What is deleted.
use Rattle.std.proofs.Common.{◌≡◌, ◌∙◌, ℕ, ◌+◌, ◌<◌, Bool, true, false, length, sym, ap, eq-eqb, ne_eqb, if◌then◌else◌}
use Rattle.abc_heap_values.specs.declared.values.ObjId.{ObjId}
use Rattle.abc_heap_values.specs.declared.values.Value.{Value}
use Rattle.abc_heap_values.specs.declared.values.Value.TheVariants.{Bool as Truth, Obj}
use Rattle.abc_heap_store.specs.Heap.{Heap, object_at}
use Rattle.abc_link_names.specs.Numbering.{part_at}
use Rattle.abc_objects.specs.declared.found.Found.{Found}
use Rattle.abc_objects.specs.declared.name.Name.{Name}
use Rattle.abc_frames.specs.Frame.{Frame}
use Rattle.abc_meaning.specs.Simple.{flag}
use Rattle.abc_run_state.proofs.Things.{object_is}
use Rattle.abc_run_state.specs.Operands.{operand_at}
use Rattle.abc_run_state.specs.Outer.{at_heap}
use Rattle.abc_run_state.specs.Stops.{IsOpen}
use Rattle.abc_run_state.proofs.Turning.{open_first}
use Rattle.abc_meaning.specs.Members.{delete_found, deletes, deletes_own, dynamic_in, find_on, is_dynamic}
use Rattle.abc_meaning.specs.Setting.{Setting, is_dynamic_part}
use Rattle.abc_meaning.specs.World.{Outcome, Run, Stop, Stopped, Went, World, and_then, changes, pure, ◌>>=◌, ◌>>◌}
use Rattle.abc_run_names.specs.Deleted.{deletes_named}
use Rattle.abc_run_names.specs.Named.{name_form_at, named_here, name_parts_count}
use Rattle.abc_run_names.proofs.Receiving.{pushes_open}

pub dynamic_is : (p : Setting) (o : ObjId) (w : World) (b : Bool) → o.0 < length w.heap.objects → b ≡ is_dynamic_part p (part_at p.linked.parts (object_at w.heap.objects o.0).layout) → b ≡ is_dynamic p (Obj o) w
dynamic_is p o w b t e = e ∙ sym (ap (dynamic_in p) (object_is w.heap.objects o.0 t))

-- ---- what the holder has, where the object is the holder

abbrev deleting : Bool → Run (Unit {0}) → World → Outcome Bool
deleting b m w = let r : Run Bool = if b then m >> pure true else pure true in r w

pub kept_there : (h o : ObjId) (m : Run (Unit {0})) (w : World) → (h.0 ≡ o.0 → ⊥) → deletes_own h o m w ≡ Went w true
kept_there h o m w ne = ap (λ b. deleting b m w) (ne_eqb h.0 o.0 ne)

pub deleted_own : (h o : ObjId) (f : Heap → Heap) (w : World) (new : Heap) → h.0 ≡ o.0 → new ≡ f w.heap → deletes_own h o (changes f (λ g. tt)) w ≡ Went (at_heap new w) true
deleted_own h o f w new e is = ap (λ b. deleting b (changes f (λ g. tt)) w) (eq-eqb h.0 o.0 e) ∙ ap (λ (g : Heap). Went (at_heap g w) true) (sym is)

-- ---- by whether the object is dynamic

abbrev deciding : Setting → ObjId → Name → Found → World → Bool → Outcome Bool
deciding p o name found w b = let r : Run Bool = if b then delete_found p o name.text found else pure false in r w

pub sealed : (p : Setting) (o : ObjId) (name : Name) (w : World) (b : Bool) → b ≡ false → b ≡ is_dynamic p (Obj o) w → deletes p (Obj o) name w ≡ Went w false
sealed p o name w b not_so is = ap (deciding p o name (find_on p (Obj o) name w) w) (sym is ∙ not_so)

pub decided : (p : Setting) (o : ObjId) (name : Name) (w new : World) (found : Found) (b may : Bool) → b ≡ true → b ≡ is_dynamic p (Obj o) w → found ≡ find_on p (Obj o) name w → delete_found p o name.text found w ≡ Went new may → deletes p (Obj o) name w ≡ Went new may
decided p o name w new found b may so is e went =
    ap (deciding p o name (find_on p (Obj o) name w) w) (sym is ∙ so)
    ∙ ap (λ f. delete_found p o name.text f w) (sym e)
    ∙ went

-- ---- the instruction

then_deleted : Setting → Value → Outcome Name → Outcome Value
then_deleted p v r = and_then (and_then r (deletes p v)) (λ b. pure (Truth b))

abbrev pub removing : Setting → ℕ → Frame → Run Value
removing p n f = flag (named_here p n 0 f >>= deletes p (operand_at (name_parts_count (name_form_at p n)) f))

pub remove_named : (p : Setting) (n : ℕ) (f : Frame) (w a : World) (why : Stop) → named_here p n 0 f w ≡ Stopped a why → removing p n f w ≡ Stopped a why
unfolding then_deleted
remove_named p n f w a why e = ap (then_deleted p (operand_at (name_parts_count (name_form_at p n)) f)) e

name_first : (p : Setting) (n : ℕ) (f : Frame) (v : Value) (w a : World) (name : Name) → v ≡ operand_at (name_parts_count (name_form_at p n)) f → named_here p n 0 f w ≡ Went a name → removing p n f w ≡ and_then (deletes p v name a) (λ b. pure (Truth b))
unfolding then_deleted
name_first p n f v w a name is e = ap (then_deleted p (operand_at (name_parts_count (name_form_at p n)) f)) e ∙ ap (λ x. and_then (deletes p x name a) (λ b. pure (Truth b))) (sym is)

pub remove_stopped : (p : Setting) (n : ℕ) (f : Frame) (v : Value) (w a c : World) (name : Name) (why : Stop) → v ≡ operand_at (name_parts_count (name_form_at p n)) f → named_here p n 0 f w ≡ Went a name → deletes p v name a ≡ Stopped c why → removing p n f w ≡ Stopped c why
remove_stopped p n f v w a c name why is e d = name_first p n f v w a name is e ∙ ap (λ r. and_then r (λ b. pure (Truth b))) d

pub removed : (p : Setting) (n : ℕ) (f : Frame) (v : Value) (w a c : World) (name : Name) (b : Bool) → v ≡ operand_at (name_parts_count (name_form_at p n)) f → named_here p n 0 f w ≡ Went a name → deletes p v name a ≡ Went c b → removing p n f w ≡ Went c (Truth b)
removed p n f v w a c name b is e d = name_first p n f v w a name is e ∙ ap (λ r. and_then r (λ b. pure (Truth b))) d

pub open_named : (p : Setting) (n : ℕ) (f : Frame) (w : World) → IsOpen (deletes_named p n f w) → IsOpen (named_here p n 0 f w)
open_named p n f w h =
    let parts = name_parts_count (name_form_at p n) in
    let d = deletes p (operand_at parts f) in
    open_first (named_here p n 0 f w) d
    (open_first (and_then (named_here p n 0 f w) d) (λ b. pure (Truth b))
    (pushes_open (removing p n f) (parts + 1) f w h))

-- What a super operation finds.
use Rattle.std.proofs.Common.{◌≡◌, ◌∙◌, ℕ, ◌+◌, ◌<◌, length, refl, sym, ap, subst}
use Rattle.std.specs.declared.option.Option.{Option}
use Rattle.abc_heap_values.specs.declared.values.ObjId.{ObjId}
use Rattle.abc_heap_values.specs.declared.values.Value.{Value}
use Rattle.abc_heap_values.specs.declared.values.Value.TheVariants.{Undefined, Null, Num, Bool as Truth, Text, Space, Obj}
use Rattle.abc_heap_store.specs.Heap.{Heap, Object}
use Rattle.abc_link_names.specs.Linked.{LinkedFile, above}
use Rattle.abc_objects.specs.Candidates.{found_candidate}
use Rattle.abc_objects.specs.Searches.{declared_found}
use Rattle.abc_objects.specs.declared.found.Found.{Found}
use Rattle.abc_objects.specs.declared.found.Found.TheVariants as founds
use Rattle.abc_objects.specs.declared.found.Want.{Want}
use Rattle.abc_objects.specs.declared.name.Name.{Name}
use Rattle.abc_frames.specs.Frame.{Frame, arguments}
use Rattle.abc_meaning.specs.Supers.{on_receiver, strict}
use Rattle.abc_run_state.proofs.Things.{object_is}
use Rattle.abc_run_members.specs.Found.{IsDeclared, found_above}
use Rattle.abc_run_calls.specs.Calls.{settled_by}
use Rattle.abc_run_members.specs.Members.{IsFoundThere, parts_at}
use Rattle.abc_run_names.specs.Named.{named_here}
use Rattle.abc_run_names.specs.Receivers.{IsReceiver, receiver_object}
use Rattle.abc_run_names.proofs.Receiving.{receiver_open}
use Rattle.abc_run_state.specs.Operands.{operand_at}
use Rattle.abc_run_state.specs.Stops.{IsOpen}
use Rattle.abc_run_state.specs.declared.state.How.{How}
use Rattle.abc_run_state.specs.declared.state.How.TheVariants.{Drop, Push}
use Rattle.abc_run_state.proofs.Turning.{open_first}
use Rattle.abc_meaning.specs.Setting.{Setting}
use Rattle.abc_meaning.specs.World.{Outcome, Run, Stop, Stopped, World, and_then, see, some, ◌>>=◌}
use Rattle.abc_run_members.specs.Supers.{super_call, calls_super_on, gets_super, super_read, sets_super, super_found_here, super_write}

-- ---- it is there

pub declared_there : (l : LinkedFile) (h : Heap) (f : Found) → IsDeclared l f → IsFoundThere l h f
declared_there l h (founds.Property holder x) is = absurd is
declared_there l h (founds.Method owner m) is = is
declared_there l h f is = tt

-- ---- on a receiver

received : {X : Type 0} (v : Value) (f : ObjId → Run X) (w : World) → on_receiver v f w ≡ and_then (receiver_object v w) f
received Undefined f w = refl
received Null f w = refl
received (Num n) f w = refl
received (Truth b) f w = refl
received (Text t) f w = refl
received (Space n) f w = refl
received (Obj o) f w = refl

pub receives_open : {X : Type 0} (v : Value) (f : ObjId → Run X) (w : World) → IsOpen (on_receiver v f w) → IsReceiver v
receives_open v f w h = receiver_open v w (open_first (receiver_object v w) f (subst IsOpen (received v f w) h))

pub receives_stopped : {X : Type 0} (v : Value) (f : ObjId → Run X) (w : World) (why : Stop) → receiver_object v w ≡ Stopped w why → on_receiver v f w ≡ Stopped w why
receives_stopped v f w why e = received v f w ∙ ap (λ o. and_then o f) e

pub receives_object : {X : Type 0} (v : Value) (o : ObjId) (f : ObjId → Run X) (w : World) → v ≡ Obj o → on_receiver v f w ≡ f o w
receives_object v o f w e = ap (λ x. on_receiver x f w) e

found_is : {X : Type 0} (p : Setting) (from : ℕ) (o : ObjId) (name : Name) (want : Want) (k : Found → Run X) (w : World) → o.0 < length w.heap.objects → (super_found_here p from o name want >>= k) w ≡ k (found_above p.linked w.heap from o name want) w
found_is {X = X} p from o name want k w b = ap going (object_is w.heap.objects o.0 b)
  where
    going : Option Object → Outcome X
    going ob = and_then (and_then (some ob w) (λ it. see (λ u. strict (declared_found p.linked u.heap it.layout (above p.linked from) name want)))) k

pub super_is : {X : Type 0} (p : Setting) (from : ℕ) (v : Value) (o : ObjId) (name : Name) (want : Want) (found : Found) (k : ObjId → Found → Run X) (w : World) → v ≡ Obj o → o.0 < length w.heap.objects → found ≡ found_above p.linked w.heap from o name want
    → on_receiver v (λ x. super_found_here p from x name want >>= k x) w ≡ k o found w
super_is p from v o name want found k w is there e = receives_object v o (λ x. super_found_here p from x name want >>= k x) w is ∙ found_is p from o name want (k o) w there ∙ ap (λ f. k o f w) (sym e)

-- ---- by the name of the instruction, with the number of its parts and the receiver at hand

pub gets_as : (p : Setting) (n parts from : ℕ) (v : Value) (f : Frame) (w : World) → parts ≡ parts_at p n → v ≡ operand_at parts f → gets_super p n from f w ≡ settled_by (Push (parts + 1)) f (named_here p n 0 f >>= super_read p from v) w
gets_as p n parts from v f w a b =
    ap (λ (k : ℕ). settled_by (Push (k + 1)) f (named_here p n 0 f >>= super_read p from (operand_at k f)) w) (sym a)
    ∙ ap (λ (x : Value). settled_by (Push (parts + 1)) f (named_here p n 0 f >>= super_read p from x) w) (sym b)

pub sets_as : (p : Setting) (n parts from : ℕ) (v x : Value) (f : Frame) (w : World) → parts ≡ parts_at p n → v ≡ operand_at (1 + parts) f → x ≡ operand_at 0 f
    → sets_super p n from f w ≡ settled_by (Drop (parts + 2)) f (named_here p n 1 f >>= λ name. super_write p from v name x) w
sets_as p n parts from v x f w a b c =
    ap (λ (k : ℕ). settled_by (Drop (k + 2)) f (named_here p n 1 f >>= λ name. super_write p from (operand_at (1 + k) f) name (operand_at 0 f)) w) (sym a)
    ∙ ap (λ (y : Value). settled_by (Drop (parts + 2)) f (named_here p n 1 f >>= λ name. super_write p from y name (operand_at 0 f)) w) (sym b)
    ∙ ap (λ (y : Value). settled_by (Drop (parts + 2)) f (named_here p n 1 f >>= λ name. super_write p from v name y) w) (sym c)

pub calls_as : (p : Setting) (n parts from count : ℕ) (v : Value) (how : How) (f : Frame) (w : World) → parts ≡ parts_at p n → v ≡ operand_at (count + parts) f
    → super_call p n from count how f w ≡ settled_by how f (named_here p n count f >>= λ name. calls_super_on p from v name (arguments count f)) w
calls_as p n parts from count v how f w a b =
    ap (λ (k : ℕ). settled_by how f (named_here p n count f >>= λ name. calls_super_on p from (operand_at (count + k) f) name (arguments count f)) w) (sym a)
    ∙ ap (λ (y : Value). settled_by how f (named_here p n count f >>= λ name. calls_super_on p from y name (arguments count f)) w) (sym b)

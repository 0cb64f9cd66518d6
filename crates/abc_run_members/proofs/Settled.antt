-- What comes of a part of a step, and settles over the newest frame.
use Rattle.std.proofs.Common.{◌≡◌, ℕ, refl, sym, ap, ◌∙◌, subst}
use Rattle.abc_heap_values.specs.declared.values.Value.{Value}
use Rattle.abc_heap_values.specs.declared.values.Value.TheVariants as values
use Rattle.abc_meaning.specs.At.{Act}
use Rattle.abc_run_calls.specs.Calls.{settled_by}
use Rattle.abc_run_calls.specs.Entering.{above_taken, enters_owned_above}
use Rattle.abc_frames.specs.Frame.{Frame, Frames, arguments, newest}
use Rattle.abc_frames.specs.declared.records.Wait.{Wait}
use Rattle.abc_run_state.specs.Settling.{after_settling, settles_how, settling, taken_by, wait_of}
use Rattle.abc_run_state.specs.Stops.{IsOpen}
use Rattle.abc_run_state.specs.Turns.{GoesOn, Halts, Turned, bare_newest, on_top, turn_of, turned_to}
use Rattle.abc_run_state.specs.declared.state.How.{How}
use Rattle.abc_run_state.specs.declared.state.How.TheVariants.{Drop, Push}
use Rattle.abc_meaning.specs.Calling.{Came, Got, calls_frame, got}
use Rattle.abc_meaning.specs.Entering.{enters_owned}
use Rattle.abc_meaning.specs.Setting.{Setting}
use Rattle.abc_meaning.specs.World.{Outcome, Run, Stop, Stopped, Went, World, and_then, ◌>>=◌}
use Rattle.abc_run_members.proofs.Parts.{part_halts}
use Rattle.abc_run_members.specs.Members.{enters_found}

-- ---- what comes may be said otherwise

pub came_same : (p : Setting) (q : Frames) (c : Came → Run Act) (a b : Run Came) (w : World) (t : Turned) → a w ≡ b w → turn_of p q ((b >>= c) w) ≡ t → turn_of p q ((a >>= c) w) ≡ t
came_same p q c a b w t e h = ap (λ (o : Outcome Came). turn_of p q (and_then o c)) e ∙ h

pub came_open : (c : Came → Run Act) (a b : Run Came) (w : World) → a w ≡ b w → IsOpen ((a >>= c) w) → IsOpen ((b >>= c) w)
came_open c a b w e h = subst (λ (o : Outcome Came). IsOpen (and_then o c)) e h

pub came_halts : (p : Setting) (q : Frames) (c : Came → Run Act) (a : Run Came) (w n : World) (why : Stop) → a w ≡ Stopped n why → turn_of p q ((a >>= c) w) ≡ Halts n (bare_newest q) why
came_halts p q c a w n why e = ap (λ (o : Outcome Came). turn_of p q (and_then o c)) e

-- a value settles at once
got_turns : (p : Setting) (how : How) (f : Frame) (q : Frames) (w : World) (v : Value) → turned_to p w q (settling how f (Got v)) ≡ GoesOn w (on_top (after_settling how v f) q)
got_turns p (Push k) f q w v = refl
got_turns p (Drop k) f q w v = refl

-- a value that stands
pub value_goes : (p : Setting) (q new : Frames) (how : How) (x : Value) (act : Outcome Act) (w : World) → act ≡ settles_how how (newest q) (Got x) w → new ≡ on_top (after_settling how x (newest q)) q → turn_of p q act ≡ GoesOn w new
value_goes p q new how x act w e to = ap (turn_of p q) e ∙ got_turns p how (newest q) q w x ∙ ap (GoesOn w) (sym to)

-- what a part gives, over the frames that it left as they were, or it stops
pub came_goes : {X : Type 0} (p : Setting) (q mid new : Frames) (how : How) (m : Run X) (v : X → Value) (w n : World) (x : X) → m w ≡ Went n x → mid ≡ q → new ≡ on_top (after_settling how (v x) (newest mid)) mid → turn_of p q (settled_by how (newest q) (m >>= λ y. got (v y)) w) ≡ GoesOn n new
came_goes {X = X} p q mid new how m v w n x e same to =
    ap (λ (o : Outcome X). turn_of p q (and_then (and_then o (λ y. got (v y))) (settles_how how (newest q)))) e
    ∙ got_turns p how (newest q) q n (v x)
    ∙ ap (GoesOn n) (sym (to ∙ ap (λ (r : Frames). on_top (after_settling how (v x) (newest r)) r) same))

pub came_stops : {X : Type 0} (p : Setting) (q mid : Frames) (how : How) (m : Run X) (v : X → Value) (w n : World) (why : Stop) → m w ≡ Stopped n why → mid ≡ q → turn_of p q (settled_by how (newest q) (m >>= λ y. got (v y)) w) ≡ Halts n (bare_newest mid) why
came_stops p q mid how m v w n why e same = part_halts p q mid m (λ y. got (v y)) (settles_how how (newest q)) w n why e same

-- a part goes on with a value, which settles, or stops
pub value_runs : {X : Type 0} (p : Setting) (how : How) (q mid new : Frames) (a : Run Came) (m : Run X) (v : X → Value) (w n : World) (x : X)
    → a w ≡ (m >>= λ y. got (v y)) w → m w ≡ Went n x → mid ≡ q → new ≡ on_top (after_settling how (v x) (newest mid)) mid → turn_of p q (settled_by how (newest q) a w) ≡ GoesOn n new
value_runs p how q mid new a m v w n x is e same to = came_same p q (settles_how how (newest q)) a (m >>= λ y. got (v y)) w (GoesOn n new) is (came_goes p q mid new how m v w n x e same to)

pub value_halts : {X : Type 0} (p : Setting) (how : How) (q new : Frames) (a : Run Came) (m : Run X) (k : X → Run Came) (w n : World) (why : Stop)
    → a w ≡ (m >>= k) w → m w ≡ Stopped n why → new ≡ q → turn_of p q (settled_by how (newest q) a w) ≡ Halts n (bare_newest new) why
value_halts p how q new a m k w n why is e same = came_same p q (settles_how how (newest q)) a (m >>= k) w (Halts n (bare_newest new) why) is (part_halts p q new m k (settles_how how (newest q)) w n why e same)

-- ---- a method that is entered

entered_settled : (how : How) (f : Frame) (o : Outcome Frame) → and_then (and_then o calls_frame) (settles_how how f) ≡ and_then o (above_taken (taken_by how) (wait_of how) f)
entered_settled (Push k) f (Went n g) = refl
entered_settled (Drop k) f (Went n g) = refl
entered_settled how f (Stopped n why) = refl

enters_is : (p : Setting) (m : ℕ) (v : Value) (count : ℕ) (how : How) (f : Frame) (w : World) → IsOpen (enters_found p m v count how f w) → enters_found p m v count how f w ≡ enters_owned_above p m v count (taken_by how) (wait_of how) f w
enters_is p m (values.Obj o) count how f w h = entered_settled how f (enters_owned p m (values.Obj o) (arguments count f) w)
enters_is p m values.Undefined count how f w h = absurd h
enters_is p m values.Null count how f w h = absurd h
enters_is p m (values.Num n) count how f w h = absurd h
enters_is p m (values.Bool b) count how f w h = absurd h
enters_is p m (values.Text t) count how f w h = absurd h
enters_is p m (values.Space n) count how f w h = absurd h

pub enters_as : (p : Setting) (m : ℕ) (v : Value) (count : ℕ) (how : How) (f : Frame) (w : World) (taken : ℕ) (wait : Wait) → taken ≡ taken_by how → wait ≡ wait_of how → IsOpen (enters_found p m v count how f w)
    → enters_found p m v count how f w ≡ enters_owned_above p m v count taken wait f w
enters_as p m v count how f w taken wait t u h =
    enters_is p m v count how f w h
    ∙ ap (λ (n : ℕ). enters_owned_above p m v count n (wait_of how) f w) (sym t)
    ∙ ap (λ (x : Wait). enters_owned_above p m v count taken x f w) (sym u)

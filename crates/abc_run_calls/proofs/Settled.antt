-- From what came to the frame over which it settles.
use Rattle.std.proofs.Common.{◌≡◌, ℕ, refl, sym, ap, ◌∙◌}
use Rattle.abc_heap_values.specs.declared.values.Value.{Value}
use Rattle.abc_frames.specs.Frame.{Frame, Frames, arguments, newest}
use Rattle.abc_frames.specs.declared.records.Wait.{Wait}
use Rattle.abc_run_state.specs.Settling.{settles_how, taken_by, wait_of, wait_with}
use Rattle.abc_run_state.specs.Turns.{Halts, bare_newest, turn_of}
use Rattle.abc_run_state.specs.declared.state.How.{How}
use Rattle.abc_run_state.specs.declared.state.How.TheVariants.{Push, Drop}
use Rattle.abc_meaning.specs.Calling.{Came, Makes, calls_frame}
use Rattle.abc_meaning.specs.Entering.{enters}
use Rattle.abc_meaning.specs.Objects.{Place}
use Rattle.abc_meaning.specs.Setting.{Setting}
use Rattle.abc_meaning.specs.World.{Outcome, Run, Stop, Stopped, Went, World, and_then, pure}
use Rattle.abc_run_calls.specs.Entering.{above_taken, enters_above}
use Rattle.abc_run_calls.specs.Calls.{enters_settled, settled_by}

-- nothing came
pub none_came : (p : Setting) (q : Frames) (how : How) (m : Run Came) (w after : World) (why : Stop) → m w ≡ Stopped after why → turn_of p q (settled_by how (newest q) m w) ≡ Halts after (bare_newest q) why
none_came p q how m w after why e = ap (λ o. turn_of p q (and_then o (settles_how how (newest q)))) e

-- ---- a method that is entered

entered_settles : (how : How) (f : Frame) (o : Outcome Frame) → and_then (and_then o calls_frame) (settles_how how f) ≡ and_then o (above_taken (taken_by how) (wait_of how) f)
entered_settles (Push n) f (Went w g) = refl
entered_settles (Drop n) f (Went w g) = refl
entered_settles how f (Stopped w why) = refl

pub enters_settled_is : (p : Setting) (n : ℕ) (this : Value) (at : Place) (count taken : ℕ) (wait : Wait) (how : How) (f : Frame) (w : World) → taken ≡ taken_by how → wait ≡ wait_of how → enters_settled p n this at count how f w ≡ enters_above p n this at count taken wait f w
enters_settled_is p n this at count taken wait how f w et ew =
    entered_settles how f (enters p n this at (arguments count f) w)
    ∙ ap (λ k. enters_above p n this at count k (wait_of how) f w) (sym et)
    ∙ ap (λ k. enters_above p n this at count taken k f w) (sym ew)

-- with the object that it makes
pub maker_settles : (how : How) (f : Frame) (made : Value) (o : Outcome Frame) → and_then (and_then o (λ g. pure (Makes g made))) (settles_how how f) ≡ and_then o (above_taken (taken_by how) (wait_with how made) f)
maker_settles (Push n) f made (Went w g) = refl
maker_settles (Drop n) f made (Went w g) = refl
maker_settles how f made (Stopped w why) = refl

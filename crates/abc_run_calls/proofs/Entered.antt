-- From the first locals of a method to the method that is entered.
use Rattle.std.proofs.Common.{◌≡◌, ℕ, List, ◌∷◌, Bool, true, drop, set, sym, ap, ◌∙◌}
use Rattle.std.specs.Prelude.{None, Some}
use Rattle.std.specs.declared.option.Option.{Option}
use Rattle.abc_heap_values.specs.declared.values.Value.{Value}
use Rattle.abc_frames.specs.Frame.{Frame, Frames, arguments as operands, newest}
use Rattle.abc_frames.specs.declared.records.Wait.{Wait}
use Rattle.abc_frames.specs.declared.records.Wait.TheVariants.{Again}
use Rattle.abc_run_state.proofs.Turning.{open_first}
use Rattle.abc_run_state.specs.Turns.{Turned, turn_of}
use Rattle.abc_file_types.specs.declared.methods.Method.{Method}
use Rattle.abc_link_names.specs.PartsByNumber.{script_at}
use Rattle.abc_meaning.specs.Entering.{arguments_for, enters, enters_owned, frame_for, global}
use Rattle.abc_meaning.specs.Objects.{Place, place, place_of_owner}
use Rattle.abc_meaning.specs.Setting.{Setting, method_of}
use Rattle.abc_run_state.specs.Stops.{IsOpen}
use Rattle.abc_meaning.specs.World.{Outcome, Run, Went, World, and_then, some, ◌>>=◌}
use Rattle.abc_meaning.specs.At.{Act}
use Rattle.abc_run_calls.specs.Arguments.{makes_arguments, first_receiver}
use Rattle.abc_link_names.specs.Owners.{owner_of}
use Rattle.abc_run_calls.specs.Entering.{above_taken, enters_above, enters_owned_above, puts_on, starts_above}

-- ---- the method that is entered

abbrev entering : Setting → (n : ℕ) → Value → Place → List Value → Method → Run Frame
entering p n this at given m = arguments_for p m given >>= frame_for p n m this at given

entered_first : (p : Setting) (n : ℕ) (this : Value) (at : Place) (vs : List Value) (count taken : ℕ) (wait : Wait) (f : Frame) (w after : World) → makes_arguments p n (operands count f) w ≡ Went after vs → enters_above p n this at count taken wait f w ≡ puts_on p n at this vs count taken wait f after
entered_first p n this at vs count taken wait f w after = go (method_of p n)
  where
    go : (x : Option Method) → and_then (some x w) (λ m. arguments_for p m (operands count f)) ≡ Went after vs
        → and_then (and_then (some x w) (entering p n this at (operands count f))) (above_taken taken wait f) ≡ and_then (some x after) (λ m. frame_for p n m this at (operands count f) vs >>= above_taken taken wait f)
    go None e = cc
    go (Some m) e = ap (λ o. and_then (and_then o (frame_for p n m this at (operands count f))) (above_taken taken wait f)) e

-- a method of an owner is entered where its owner keeps it
pub owned_is : (p : Setting) (n : ℕ) (this : Value) (at : Place) (count taken : ℕ) (wait : Wait) (f : Frame) (w : World) → place_of_owner (owner_of p.linked.file n) w ≡ Went w at
    → enters_owned_above p n this count taken wait f w ≡ enters_above p n this at count taken wait f w
owned_is p n this at count taken wait f w e = ap (λ (r : Outcome Place). and_then (and_then r (λ x. enters p n this x (operands count f))) (above_taken taken wait f)) e

pub owned_open : (p : Setting) (n : ℕ) (this : Value) (count taken : ℕ) (wait : Wait) (f : Frame) (w : World) → IsOpen (enters_owned_above p n this count taken wait f w) → IsOpen (place_of_owner (owner_of p.linked.file n) w)
owned_open p n this count taken wait f w h = open_first (place_of_owner (owner_of p.linked.file n) w) (λ x. enters p n this x (operands count f)) (open_first (enters_owned p n this (operands count f) w) (above_taken taken wait f) h)

-- `q` are the frames before, `mid` when the first locals are made; these are `items`
pub entered_is : (p : Setting) (n : ℕ) (this : Value) (at : Place) (items : List Value) (count taken : ℕ) (wait : Wait) (q mid : Frames) (w after : World) → mid ≡ q → items ≡ this ∷ drop 1 items → makes_arguments p n (operands count (newest q)) w ≡ Went after (drop 1 items)
    → enters_above p n this at count taken wait (newest q) w ≡ puts_on p n at (first_receiver items) (drop 1 items) count taken wait (newest mid) after
entered_is p n this at items count taken wait q mid w after same first e =
    entered_first p n this at (drop 1 items) count taken wait (newest q) w after e
    ∙ ap (λ (k : Frames). puts_on p n at this (drop 1 items) count taken wait (newest k) after) (sym same)
    ∙ ap (λ (v : Value). puts_on p n at v (drop 1 items) count taken wait (newest mid) after) (sym (ap first_receiver first))

pub entered_on : (p : Setting) (q mid : Frames) (o m : Outcome Act) (t : Turned) → mid ≡ q → o ≡ m → turn_of p mid m ≡ t → turn_of p q o ≡ t
entered_on p q mid o m t same e h = ap (turn_of p q) e ∙ ap (λ k. turn_of p k m) (sym same) ∙ h

-- ---- a script that is started

pub starts_is : (p : Setting) (s : ℕ) (f : Frame) (w : World) (started : List Bool) (this : Value) (init : ℕ) → started ≡ set w.started s true → this ≡ global s (record w { started = started }) → init ≡ (script_at p.linked.file s).init
    → starts_above p s f w ≡ enters_above p init this (place s None) 0 0 Again f (record w { started = started })
starts_is p s f w started this init es et ei =
    ap (λ (bs : List Bool). enters_above p (script_at p.linked.file s).init (global s w) (place s None) 0 0 Again f (record w { started = bs })) (sym es)
    ∙ ap (λ (v : Value). enters_above p (script_at p.linked.file s).init v (place s None) 0 0 Again f (record w { started = started })) (sym et)
    ∙ ap (λ n. enters_above p n this (place s None) 0 0 Again f (record w { started = started })) (sym ei)

-- From a state that a run reaches to what the code of its newest frame's instruction relies on, and from what that leaves to the step.
use Rattle.std.proofs.Common.{◌≡◌, ◌≢◌, ℕ, ◌<◌, ◌^◌, List, ◌∷◌, length, map, refl, sym, ap, ◌∙◌, subst}
use Rattle.std.specs.Prelude.{Ok}
use Rattle.std.specs.declared.option.Option.{Option}
use Rattle.std.specs.declared.result.Result.{Result}
use Rattle.abc_meaning.specs.Calls.{value_at_end, value_returned}
use Rattle.abc_heap_values.specs.declared.values.Value.{Value}
use Rattle.abc_run_dispatch.proofs.Led.{runs_here}
use Rattle.abc_run_dispatch.specs.Ready.{CanStep, IsEquipped}
use Rattle.abc_run_finish.specs.Ending.{IsSized}
use Rattle.abc_run_finish.proofs.Finished.{ended_in}
use Rattle.abc_meaning_sound.proofs.Sounded.{frames_run}
use Rattle.abc_meaning.specs.Running.{IsRunning}
use Rattle.abc_machine.proofs.Sounding.{step_is, turn_fair}
use Rattle.abc_run_finish.proofs.Turned.{entered_gives_none, living_is}
use Rattle.abc_run_finish.specs.Fairly.{IsFairTurn}
use Rattle.abc_run_finish.specs.Steps.{IsReached, StepsAs, StepsIn, left_here, step_of_turn}
use Rattle.abc_run_finish.specs.declared.halts.Halt.{Halt}
use Rattle.abc_meaning.specs.Sound.{IsSound}
use Rattle.abc_meaning.specs.Step.{runs}
use Rattle.abc_meaning.specs.Throwing.{Machine, Stepped}
use Rattle.abc_run_values.specs.Spelled.{IsSpelled}
use Rattle.abc_link_names.specs.Linked.{LinkedFile}
use Rattle.abc_verify_typing.specs.Instructions.{opcode}
use Rattle.abc_frames.specs.Frame.{Frame, Frames, first_size, newest, newest_size, room_for, under}
use Rattle.abc_meaning.specs.At.{Above, Act, Goes, Returns, Stays}
use Rattle.abc_run_state.specs.Outer.{Outer, setting_in, world}
use Rattle.abc_run_state.specs.Standing.{IsSet}
use Rattle.abc_run_state.specs.Stops.{IsOpen}
use Rattle.abc_run_state.specs.Turns.{Gives, Leaves, Turned, turn_of_answer, bare_newest, size_for, turn_of}
use Rattle.abc_meaning.specs.World.{Errs, Faults, Fills, Outcome, Sticks, Stopped, Throws, Went, World}
use Rattle.abc_meaning.specs.Setting.{Setting, routine_of}
use Rattle.abc_run_state.specs.declared.state.Left.{Left}
use Rattle.abc_run_state.specs.declared.state.Left.TheVariants as lefts
use Rattle.abc_run_state.specs.declared.state.State.{State}
use Rattle.abc_run_state.specs.declared.state.Stop.{Stop}
use Rattle.abc_file_types.specs.Ready.{CanSpell}
use Rattle.abc_file_types.specs.declared.code.Instr.{Instr}
use Rattle.abc_file_types.specs.declared.code.Instr.TheVariants as instrs

spelled : (n : ℕ) (i : Instr) → CanSpell n i → opcode i < 2 ^ 8 → IsSpelled i
spelled n (instrs.Plain op) s b = record { is = s; low = b }
spelled n (instrs.One op x) s b = (record { is = s.0; low = b }, s.1)
spelled n (instrs.Two op x y) s b = (record { is = s.0; low = b }, s.1, s.2)
spelled n (instrs.Branch op t) s b = record { is = s.0; low = b }
spelled n (instrs.Switch t ts) s b = tt
spelled n (instrs.Byte z) s b = tt
spelled n (instrs.Short z) s b = tt
spelled n (instrs.ScopeObject x) s b = tt
spelled n (instrs.Debug kind name reg extra) s b = tt

open_of : (o : Outcome Act) → ((n : World) → o ≢ Stopped n Sticks) → IsOpen o
open_of (Went n act) h = tt
open_of (Stopped n (Throws v)) h = tt
open_of (Stopped n (Errs c)) h = tt
open_of (Stopped n (Faults fault)) h = tt
open_of (Stopped n (Fills limit)) h = tt
open_of (Stopped n Sticks) h = h n refl

-- ---- an act that gives a value back returned it

gives_returned : (p : Setting) (q : Frames) (o : Outcome Act) (n : World) (k : Frames) (v : Value) → turn_of p q o ≡ Gives n k v → value_returned o ≡ v
gives_returned p q (Went w (Goes (Stays f))) n k v e = cc
gives_returned p q (Went w (Goes (Above g f))) n k v e = absurd (entered_gives_none (room_for q (size_for p g)) (size_for p g) w g f q n k v e)
gives_returned p q (Went w (Returns x)) n k v e = cc
gives_returned p q (Stopped w why) n k v e = cc

module _ (l : LinkedFile) (out : Outer) (s : State) (reached : IsReached l out s) (live : 0 < length s.frames.living) where
  abbrev p : Setting
  p = setting_in l out

  abbrev here : World
  here = world s out

  abbrev top : Frame
  top = newest s.frames

  sound : IsSound p reached.typings (record { world = here; frames = top ∷ under s.frames.living })
  sound =
      let q : List Frame → Machine = λ fs. record { world = here; frames = fs } in
      subst (λ (fs : List Frame). IsSound p reached.typings (q fs)) (living_is s.frames live) reached.sound

  size_is : newest_size s.frames ≡ size_for p top
  size_is = ap first_size (reached.sized.sizes ∙ ap (map (size_for p)) (living_is s.frames live))

  running : IsRunning p here top
  running = frames_run p reached.typings here top (under s.frames.living) reached.verified reached.typed sound

  set_here : IsSet l s
  set_here = (let t = running.there in record { over = reached.sound.world.stands; frame = record { stack = t.stack; locals = t.locals; scopes = t.scopes; saved = t.saved; home = t.home } })

  -- an instruction stands at its place, and can be run
  pub can_step : CanStep l out s
  can_step =
      let k = running.instruction in
      let free = open_of (runs p top (routine_of p top.method) here) running.free in
      record {
        routine = k.routine;
        body = k.body;
        instr = k.instr;
        at = k.at;
        run = record {
          set = set_here;
          live = live;
          place = k.next;
          size = size_is;
          spelled = spelled (length k.routine.code) k.instr k.can k.byte;
          free = subst (λ (o : Outcome Act). IsOpen o) (runs_here p here top k.routine k.instr k.body k.at) free;
        };
      }

  pub equipped : IsEquipped l s
  equipped = record { known = reached.known; started = reached.sound.world.scripts }

  -- ---- what the instruction left

  module _ (left : Result Left Stop) (new : State) (leaves : Leaves l out (runs p top (routine_of p top.method)) s left new) where
    pub fair_left : IsFairTurn p (turn_of_answer p left (world new out) new.frames)
    fair_left = subst (IsFairTurn p) leaves (turn_fair l out s reached live)

    -- what is done with it is the step
    pub steps_left : (r : Result Unit Halt) (last : State) (before now : Option (List ℕ)) → StepsIn (left_here l out new left) out r last before now → StepsAs l out s r last before now
    steps_left r last before now =
        let same = step_is l out s reached live ∙ ap (λ (t : Turned). step_of_turn p t) leaves in
        subst (λ (x : Stepped). StepsIn x out r last before now) (sym same)

    -- what it left to be given back is what it returned
    pub returned_left : (v : Value) → left ≡ Ok (lefts.Returns v) → value_at_end p here s.frames.living ≡ v
    returned_left v is =
        let o = runs p top (routine_of p top.method) here in
        let gives : turn_of p s.frames o ≡ Gives (world new out) (bare_newest new.frames) v = leaves ∙ ap (λ (x : Result Left Stop). turn_of_answer p x (world new out) new.frames) is in
        ap (λ (fs : List Frame). value_at_end p here fs) (living_is s.frames live) ∙ gives_returned p s.frames o (world new out) (bare_newest new.frames) v gives

  -- where it left nothing, the step is done
  module _ (left : Result Left Stop) (new : State) (leaves : Leaves l out (runs p top (routine_of p top.method)) s left new) (goes : left ≡ Ok lefts.Goes) where
    pub goes_sized : IsSized p new.arena.limits new.frames
    goes_sized = (subst (λ (x : Result Left Stop). IsFairTurn p (turn_of_answer p x (world new out) new.frames)) goes (fair_left left new leaves)).held.sized

    pub goes_step : (before : Option (List ℕ)) → StepsAs l out s (Ok tt) new before before
    goes_step before =
        let done : StepsIn (left_here l out new (Ok lefts.Goes)) out (Ok tt) new before before = ended_in (left_here l out new (Ok lefts.Goes)) out (Ok tt) new before before refl refl in
        steps_left left new leaves (Ok tt) new before before (subst (λ (x : Result Left Stop). StepsIn (left_here l out new x) out (Ok tt) new before before) (sym goes) done)

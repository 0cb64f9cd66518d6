-- From what a group answers to what is left of the instruction.
use Rattle.std.proofs.Common.{◌≡◌, sym, ap, ◌∙◌, subst}
use Rattle.std.specs.Prelude.{Some, Ok, Err, slice_get}
use Rattle.std.specs.declared.option.Option.{Option}
use Rattle.std.specs.declared.result.Result.{Result}
use Rattle.abc_run_calls.specs.Calls.{CanFinish}
use Rattle.abc_meaning.specs.Step.{does_instr, runs}
use Rattle.abc_run_values.specs.Here.{act_here, act_in}
use Rattle.abc_run_values.specs.Ready.{CanRun}
use Rattle.abc_run_values.specs.Returned.{IsReturned}
use Rattle.abc_link_names.specs.Linked.{LinkedFile}
use Rattle.abc_frames.specs.Frame.{Frame, newest}
use Rattle.abc_run_state.specs.Outer.{Outer, setting_in, world}
use Rattle.abc_run_state.specs.Turns.{Turned, turn_of}
use Rattle.abc_meaning.specs.World.{World}
use Rattle.abc_meaning.specs.Setting.{Setting, routine_of}
use Rattle.abc_run_state.specs.declared.state.Left.{Left}
use Rattle.abc_run_state.specs.declared.state.Left.TheVariants as lefts
use Rattle.abc_run_state.specs.declared.state.State.{State}
use Rattle.abc_run_state.specs.declared.state.Stop.{Stop}
use Rattle.abc_file_types.specs.declared.code.Instr.{Instr}
use Rattle.abc_verify_typing.specs.Routines.{Routine}

-- ---- what returns leaves no more

pub returned_finishes : (l : LinkedFile) (result : Result Left Stop) (s : State) → IsReturned result → CanFinish l result s
returned_finishes l (Ok lefts.Goes) s h = tt
returned_finishes l (Ok (lefts.Returns v)) s h = tt
returned_finishes l (Ok (lefts.Traces count how)) s h = absurd h
returned_finishes l (Ok (lefts.Asks n count how)) s h = absurd h
returned_finishes l (Err e) s h = tt

-- ---- another spelling of the instruction

pub run_as : (l : LinkedFile) (out : Outer) (s : State) (i j : Instr) → i ≡ j → CanRun l out s i → CanRun l out s j
run_as l out s i j e can = subst (CanRun l out s) e can

pub turned_as : (l : LinkedFile) (out : Outer) (s : State) (i j : Instr) (x : Turned) → i ≡ j → turn_of (setting_in l out) s.frames (act_here (setting_in l out) (newest s.frames) j (world s out)) ≡ x → turn_of (setting_in l out) s.frames (act_here (setting_in l out) (newest s.frames) i (world s out)) ≡ x
turned_as l out s i j x e r = ap (λ (k : Instr). turn_of (setting_in l out) s.frames (act_here (setting_in l out) (newest s.frames) k (world s out))) e ∙ r

-- ---- the instruction at the frame's place is what its routine runs

pub runs_here : (p : Setting) (w : World) (f : Frame) (r : Routine) (i : Instr) → routine_of p f.method ≡ Some r → slice_get r.code f.place ≡ Some i → runs p f (routine_of p f.method) w ≡ act_here p f i w
runs_here p w f r i body at =
    ap (λ (o : Option Routine). runs p f o w) body
    ∙ ap (λ (o : Option Instr). does_instr p r f o w) at
    ∙ sym (ap (λ (o : Option Routine). act_in p f i o w) body)

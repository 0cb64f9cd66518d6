-- An instruction whose step isn't stuck: its tests hold, and it does what its act says.
use Rattle.std.proofs.Common.{◌≡◌, Bool, true, false, refl, ap, ◌∙◌, subst}
use Rattle.std.specs.Prelude.{None, Some}
use Rattle.std.specs.declared.option.Option.{Option}
use Rattle.abc_meaning.specs.At.{Act, Doing}
use Rattle.abc_meaning.specs.Table.{act_of}
use Rattle.abc_meaning.specs.Step.{does, does_row, or_stuck}
use Rattle.abc_meaning.specs.Tests.{at_frame, can_run}
use Rattle.abc_verify_typing.specs.Instructions.{opcode}
use Rattle.abc_verify_typing.specs.Rows.{Shape, row_at}
use Rattle.abc_frames.specs.Frame.{Frame}
use Rattle.abc_run_state.specs.Stops.{IsOpen}
use Rattle.abc_file_types.specs.declared.code.Instr.{Instr}
use Rattle.abc_verify_typing.specs.Effects.{Here}
use Rattle.abc_verify_typing.specs.Routines.{Routine}
use Rattle.abc_meaning.specs.Setting.{Setting, routine_of}
use Rattle.abc_meaning.specs.World.{Outcome, World}
use Rattle.abc_run_values.specs.Here.{act_here, act_in}

abbrev pub here_of : Setting → Routine → Frame → Instr → Shape → Here
here_of p r f i row = record { file = p.linked; method = r; place = f.place; instr = i; row = row }

pub record IsOpened (p : Setting) (f : Frame) (i : Instr) (w : World) (row : Shape) (act : Doing) : Type 0 where
  pub routine : Routine
  pub body : routine_of p f.method ≡ Some routine
  pub tests : can_run p (here_of p routine f i row) f w ≡ true
  pub does : act_here p f i w ≡ act (at_frame p (here_of p routine f i row) f) w

pub opened : (p : Setting) (f : Frame) (i : Instr) (w : World) (row : Shape) (act : Doing) → row_at (opcode i) ≡ Some row → act_of (opcode i) ≡ Some act → IsOpen (act_here p f i w) → IsOpened p f i w row act
opened p f i w row act e a free = go (routine_of p f.method) refl
  where
    test : (r : Routine) (b : Bool) → can_run p (here_of p r f i row) f w ≡ b → IsOpen (or_stuck b (act (at_frame p (here_of p r f i row) f)) w) → b ≡ true
    test r true t h = refl
    test r false t h = absurd h

    go : (o : Option Routine) → routine_of p f.method ≡ o → IsOpened p f i w row act
    go None b = absurd (subst (λ (o : Option Routine). IsOpen (act_in p f i o w)) b free)
    go (Some r) b =
        let h = here_of p r f i row in
        let first : act_here p f i w ≡ does_row p r f i (row_at (opcode i)) w = ap (λ (o : Option Routine). act_in p f i o w) b in
        let second : does_row p r f i (row_at (opcode i)) w ≡ does p h f (act_of (opcode i)) w = ap (λ (o : Option Shape). does_row p r f i o w) e in
        let third : does p h f (act_of (opcode i)) w ≡ or_stuck (can_run p h f w) (act (at_frame p h f)) w = ap (λ (o : Option Doing). does p h f o w) a in
        let all = first ∙ second ∙ third in
        let t : can_run p h f w ≡ true = test r (can_run p h f w) refl (subst (λ (o : Outcome Act). IsOpen o) all free) in
        record { routine = r; body = b; tests = t; does = all ∙ ap (λ (x : Bool). or_stuck x (act (at_frame p h f)) w) t }

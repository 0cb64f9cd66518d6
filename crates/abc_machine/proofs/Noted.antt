-- Which script a step starts, and the lines of the step by that.
use Rattle.std.proofs.Common.{◌≡◌, ◌≢◌, ℕ, ◌<◌, ◌^◌, List, [], ◌∷◌, ◌++◌, length, refl, sym, ap, ◌∙◌, subst, append-nil, inl, inr, arith}
use Rattle.std.specs.Prelude.{Bool, IsSome, Some, None, Ok, Err}
use Rattle.std.specs.Io.KnownBytes.{append_known}
use Rattle.std.specs.declared.option.Option.{Option}
use Rattle.std.specs.declared.result.Result.{Result}
use Rattle.abc_base.specs.Sinks.{GrowsByFront, WritesAll}
use Rattle.abc_base.specs.declared.source.Failed.{Failed}
use Rattle.abc_base.proofs.Writing.{front_first}
use Rattle.abc_machine.proofs.Sounding.{scripts_few, step_is}
use Rattle.abc_run_finish.proofs.Turned.{living_is}
use Rattle.abc_run_finish.specs.Steps.{IsReached, StepsIn, left_here, machine, step_here, step_of_turn}
use Rattle.abc_run_finish.specs.declared.halts.Halt.{Halt}
use Rattle.abc_run_finish.specs.declared.halts.Halt.TheVariants as halts
use Rattle.abc_machine.specs.Logging.{LogsAs, LogsLeft, if_written, line_at, lines_here, out_left}
use Rattle.abc_machine.proofs.Kept.{none_started}
use Rattle.abc_machine.proofs.Lined.{front_on, whole_on, wrote_none}
use Rattle.abc_log.specs.Lines.{out_line, start_line}
use Rattle.abc_meaning.specs.Logs.{step_lines, line_of, lines_of_step, world_left, wrote_since}
use Rattle.abc_meaning.specs.Step.{runs, step_of}
use Rattle.abc_meaning.specs.Throwing.{Ends, Stepped, Steps, last_script}
use Rattle.abc_meaning.proofs.Stepping.{first_starts, steps_change}
use Rattle.abc_meaning.specs.Front.{Changes, left_by}
use Rattle.abc_link_names.specs.Linked.{LinkedFile}
use Rattle.abc_log.proofs.Noting.{same_length}
use Rattle.abc_log.specs.Starts.{IsOneMore, started_from}
use Rattle.abc_frames.specs.Frame.{Frame, newest}
use Rattle.abc_run_state.specs.Outer.{Outer, setting_in, world}
use Rattle.abc_run_state.specs.Turns.{Leaves, Turned}
use Rattle.abc_meaning.specs.World.{World}
use Rattle.abc_meaning.specs.Setting.{Setting, routine_of}
use Rattle.abc_run_state.specs.declared.state.Left.{Left}
use Rattle.abc_run_state.specs.declared.state.State.{State}
use Rattle.abc_run_state.specs.declared.state.Stop.{Stop}

-- ---- a step starts one script at most

left_is : (r : Stepped) → left_by r ≡ world_left r
left_is (Steps q) = refl
left_is (Ends w e) = refl

one_more : (old new : World) → Changes old new → IsOneMore old.started new.started
one_more old new (inl w) = inl w.started
one_more old new (inr s) = inr (s.script, s.is)

-- those that count as started after a step do in the state that it leaves
pub steps_started : (r : Stepped) (out : Outer) (done : Result Unit Halt) (new : State) (x y : Option (List ℕ)) → done ≢ Err halts.Fails → StepsIn r out done new x y → (world_left r).started ≡ new.started
steps_started r out (Ok u) new x y well g = ap (λ (q : Stepped). (world_left q).started) g.goes
steps_started r out (Err (halts.Returns v)) new x y well e = ap (λ (q : Stepped). (world_left q).started) e.ends
steps_started r out (Err (halts.Ends end)) new x y well e = ap (λ (q : Stepped). (world_left q).started) e.ends
steps_started r out (Err halts.Fails) new x y well f = absurd (well refl)

module _ (l : LinkedFile) (out : Outer) (s : State) where
  abbrev p : Setting
  p = setting_in l out

  pub step_one_more : IsOneMore s.started (world_left (step_here l out s)).started
  step_one_more = subst (λ (n : World). IsOneMore s.started n.started) (left_is (step_here l out s)) (one_more (world s out) (left_by (step_here l out s)) (steps_change p (machine s out)))

  -- flags that can be counted stay so
  pub few_flags : (now : List Bool) → IsReached l out s → IsOneMore s.started now → length now < 2 ^ 32
  few_flags now reached more =
      let flags = reached.sound.world.scripts in
      omega (arith, same_length s.started now more, flags, scripts_few l out s reached)

  -- ---- the step that begins a run

  start_wrote : s.frames.living ≡ [] → (world_left (step_here l out s)).wrote ≡ out.wrote
  start_wrote none =
      let first = first_starts p (world s out) in
      let here : (left_by (step_here l out s)).wrote ≡ out.wrote = subst (λ (fs : List Frame). (left_by (step_of p (world s out) fs)).wrote ≡ out.wrote) (sym none) first.wrote in
      ap (λ (n : World). n.wrote) (sym (left_is (step_here l out s))) ∙ here

  -- it has one line
  pub start_lines : s.frames.living ≡ [] → lines_here l out s ≡ start_line (last_script p)
  start_lines none =
      let now = (world_left (step_here l out s)).started in
      let bytes = wrote_since (world s out) (world_left (step_here l out s)) in
      ap (λ (fs : List Frame). line_of p (machine s out) now fs ++ out_line bytes) none
      ∙ ap (λ (bs : List ℕ). start_line (last_script p) ++ out_line bs) (wrote_none (world s out) (world_left (step_here l out s)) (start_wrote none))
      ∙ append-nil (start_line (last_script p))

  pub start_logs : s.frames.living ≡ [] → (written : Result Unit Failed) (done : Result Unit Halt) (new : State) (x y : Option (List ℕ)) → done ≢ Err halts.Fails → StepsIn (step_here l out s) out done new None None → WritesAll x y written (start_line (last_script p)) → LogsAs l out s (if_written written done) new x y
  start_logs none (Ok u) done new x y well step line = record {
    step = λ f. step;
    whole = λ f. subst (λ (lines : List ℕ). IsSome x → y ≡ append_known x lines) (sym (start_lines none)) line;
    front = λ e. absurd (well e);
  }
  start_logs none (Err f) done new x y well step line = record {
    step = λ g. absurd (g refl);
    whole = λ g. absurd (g refl);
    front = λ e. subst (λ (lines : List ℕ). IsSome x → GrowsByFront x y lines) (sym (start_lines none)) line;
  }

  -- ---- an instruction

  line_same : (o : Option ℕ) (f : Frame) → step_lines o f ≡ line_at o f.method f.place
  line_same (Some n) f = refl
  line_same None f = refl

  module _ (reached : IsReached l out s) (live : 0 < length s.frames.living) (left : Result Left Stop) (new : State) (leaves : Leaves l out (runs p (newest s.frames) (routine_of p (newest s.frames).method)) s left new) where
    pub step_left : step_here l out s ≡ left_here l out new left
    step_left = step_is l out s reached live ∙ ap (λ (t : Turned). step_of_turn p t) leaves

    -- the scripts that count as started after the instruction do after the step
    pub started_left : (world_left (left_here l out new left)).started ≡ new.started
    started_left = none_started p left (world new out) new.frames

    pub left_one_more : IsOneMore s.started new.started
    left_one_more = subst (IsOneMore s.started) (ap (λ (r : Stepped). (world_left r).started) step_left ∙ started_left) step_one_more

    -- the step's lines
    pub lines_are : lines_here l out s ≡ line_at (started_from 0 s.started new.started) (newest s.frames).method (newest s.frames).place ++ out_left l out new left
    lines_are =
        ap (λ (r : Stepped). lines_of_step p (machine s out) r) step_left
        ∙ ap (λ (now : List Bool). line_of p (machine s out) now s.frames.living ++ out_left l out new left) started_left
        ∙ ap (λ (fs : List Frame). line_of p (machine s out) new.started fs ++ out_left l out new left) (living_is s.frames live)
        ∙ ap (λ (line : List ℕ). line ++ out_left l out new left) (line_same (started_from 0 s.started new.started) (newest s.frames))

    -- ---- its line, and then what it leaves to be done

    module _ (script : Option ℕ) (method place : ℕ) (script_is : script ≡ started_from 0 s.started new.started) (method_is : method ≡ (newest s.frames).method) (place_is : place ≡ (newest s.frames).place) where
      lines_so : line_at script method place ++ out_left l out new left ≡ lines_here l out s
      lines_so =
          let rest = out_left l out new left in
          ap (λ (o : Option ℕ). line_at o method place ++ rest) script_is
          ∙ ap (λ (m : ℕ). line_at (started_from 0 s.started new.started) m place ++ rest) method_is
          ∙ ap (λ (i : ℕ). line_at (started_from 0 s.started new.started) (newest s.frames).method i ++ rest) place_is
          ∙ sym lines_are

      pub logs_on : (done : Result Unit Halt) (last : State) (x y z : Option (List ℕ)) → (IsSome x → y ≡ append_known x (line_at script method place)) → LogsLeft l out new left done last y z → LogsAs l out s done last x z
      logs_on done last x y z first a =
          let line = line_at script method place in
          let rest = out_left l out new left in
          record {
            step = λ f. subst (λ (r : Stepped). StepsIn r out done last None None) (sym step_left) (a.step f);
            whole = λ f. subst (λ (lines : List ℕ). IsSome x → z ≡ append_known x lines) lines_so (whole_on x y z line rest first (a.whole f));
            front = λ e. subst (λ (lines : List ℕ). IsSome x → GrowsByFront x z lines) lines_so (front_on x y z line rest first (a.front e));
          }

      -- where the line wasn't written, nothing is done
      pub logs_front : (last : State) (x y : Option (List ℕ)) → (IsSome x → GrowsByFront x y (line_at script method place)) → LogsAs l out s (Err halts.Fails) last x y
      logs_front last x y first = record {
        step = λ f. absurd (f refl);
        whole = λ f. absurd (f refl);
        front = λ e. subst (λ (lines : List ℕ). IsSome x → GrowsByFront x y lines) lines_so (λ some. front_first x y (line_at script method place) (out_left l out new left) (first some));
      }

    pub seen_left : (done : Result Unit Halt) (last : State) (x z : Option (List ℕ)) → LogsLeft l out new left done last x z → done ≢ Err halts.Fails → new.started ≡ last.started
    seen_left done last x z a well = sym started_left ∙ steps_started (left_here l out new left) out done last None None well (a.step well)

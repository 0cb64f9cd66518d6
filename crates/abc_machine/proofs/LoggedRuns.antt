-- From line to line.
use Rattle.std.proofs.Common.{◌≡◌, ◌≢◌, ℕ, zero, suc, ◌-◌, List, [], ◌++◌, refl, sym, ap, ◌∙◌, subst, append_assoc, arith}
use Rattle.std.specs.Prelude.{IsSome, None, Ok, Err}
use Rattle.std.specs.Io.KnownBytes.{append_known}
use Rattle.std.specs.declared.option.Option.{Option}
use Rattle.std.specs.declared.result.Result.{Result}
use Rattle.abc_base.proofs.Writing.{front_first, front_second}
use Rattle.abc_base.specs.Sinks.{GrowsByFront}
use Rattle.abc_machine.proofs.Lined.{told_on, whole_on}
use Rattle.abc_machine.specs.Logging.{lines_here}
use Rattle.abc_meaning.specs.Lines.{end_line}
use Rattle.abc_meaning.specs.Logs.{lines_of_step, logs_for, then_logs}
use Rattle.abc_machine.specs.Logged.{HasAllBut, lines_for}
use Rattle.abc_machine.specs.Runs.{Begun, IsRunAt, outer, machine_after}
use Rattle.abc_machine.specs.Spent.{EndsWith, GoesTo, SpendsAs, reply_for}
use Rattle.abc_machine.specs.declared.replies.Reply.{Reply}
use Rattle.abc_machine.specs.declared.replies.Reply.TheVariants as replies
use Rattle.abc_machine.proofs.Opening.{append_none}
use Rattle.abc_machine.proofs.Reaching.{next_is, stepped}
use Rattle.abc_machine.proofs.Untold.{ended_of, runs_are}
use Rattle.abc_meaning.specs.Meaning.{Ended, runs_for, then_runs}
use Rattle.abc_meaning.specs.Step.{step}
use Rattle.abc_meaning.specs.Throwing.{Ends, Machine, Stepped, Steps}
use Rattle.abc_meaning.specs.Openings.{setting as setting_of}
use Rattle.abc_run_finish.specs.Outward.{adding}
use Rattle.abc_link_names.specs.Linked.{LinkedFile}
use Rattle.abc_run_finish.specs.declared.halts.Halt.{Halt}
use Rattle.abc_run_finish.specs.declared.halts.Halt.TheVariants as halts
use Rattle.abc_run_finish.specs.Steps.{machine, step_here}
use Rattle.abc_run_finish.specs.declared.ended.Ended.TheVariants as ended
use Rattle.abc_run_state.specs.Outer.{Outer, world}
use Rattle.abc_meaning.specs.Setting.{Setting}
use Rattle.abc_run_state.specs.declared.state.State.{State}

-- ---- a step, by what the machine answers

some_lines : (l : LinkedFile) (out : Outer) (s : State) (fuel : ℕ) → (fuel ≡ 0 → ⊥) → lines_here l out s ≡ lines_for l out s fuel
some_lines l out s zero f = absurd (f refl)
some_lines l out s (suc n) f = refl

fails_back : (h : Halt) → reply_for h ≡ replies.WriteFault → h ≡ halts.Fails
fails_back halts.Fails e = refl
fails_back (halts.Returns v) e = absurd cc
fails_back (halts.Ends (ended.Uncaught thrown)) e = absurd cc
fails_back (halts.Ends (ended.Profile method index fault)) e = absurd cc
fails_back (halts.Ends (ended.Full limit)) e = absurd cc

-- the answer of a step that ends
abbrev pub ended_so : Reply → Result Unit Reply
ended_so e = Err e

module _ (r : Result Unit Halt) (h : Halt) (e : Reply) (is : r ≡ Err h) (told : e ≡ reply_for h) where
  pub well_step : ended_so e ≢ ended_so replies.WriteFault → r ≢ Err halts.Fails
  well_step f q =
      let same : h ≡ halts.Fails = cc in
      f (ap ended_so (told ∙ ap reply_for same))

  pub failed_step : ended_so e ≡ ended_so replies.WriteFault → r ≡ Err halts.Fails
  failed_step q =
      let fault : e ≡ replies.WriteFault = cc in
      is ∙ ap (λ (x : Halt). Err x) (fails_back h (sym told ∙ fault))

-- a step that goes on, or ends otherwise, didn't fail
pub well_on : (r : Result Unit Reply) (u : Unit) → r ≡ Ok u → r ≢ Err replies.WriteFault
well_on r u is e = absurd (let other = sym is ∙ e in cc)

pub well_reply : (r : Result Unit Reply) (e : Reply) → r ≡ Err e → e ≢ replies.WriteFault → r ≢ Err replies.WriteFault
well_reply r e is f q = f (let same = sym is ∙ q in cc)

-- its lines, where there was fuel for it
pub none_for : (l : LinkedFile) (out : Outer) (s : State) (fuel : ℕ) (x : Option (List ℕ)) → fuel ≡ 0 → x ≡ append_known x (lines_for l out s fuel)
none_for l out s fuel x e = append_none x ∙ ap (λ (n : ℕ). append_known x (lines_for l out s n)) (sym e)

pub whole_for : (l : LinkedFile) (out : Outer) (s : State) (fuel : ℕ) (x y : Option (List ℕ)) → (fuel ≡ 0 → ⊥) → (IsSome x → y ≡ append_known x (lines_here l out s)) → IsSome x → y ≡ append_known x (lines_for l out s fuel)
whole_for l out s fuel x y f a some = a some ∙ ap (append_known x) (some_lines l out s fuel f)

pub front_for : (l : LinkedFile) (out : Outer) (s : State) (fuel : ℕ) (x y : Option (List ℕ)) → (fuel ≡ 0 → ⊥) → (IsSome x → GrowsByFront x y (lines_here l out s)) → IsSome x → GrowsByFront x y (lines_for l out s fuel)
front_for l out s fuel x y f a some = subst (GrowsByFront x y) (some_lines l out s fuel f) (a some)

-- ---- one step more

module _ (l : LinkedFile) (b : Begun) where
  abbrev p : Setting
  p = setting_of l b.formulas

  abbrev at : ℕ → Machine
  at left = machine_after p (b.fuel - left) b.first

  -- the log from there
  abbrev pub rest : ℕ → List ℕ
  rest left = logs_for p left (at left)

  abbrev pub all : List ℕ
  all = logs_for p b.fuel b.first

  abbrev last : List ℕ
  last = end_line l.file (runs_for p b.fuel b.first).end

  rest_by : (left : ℕ) (s : State) (r : Stepped) → IsRunAt l b (suc left) s None None → step_here l (outer l b (suc left)) s ≡ r → rest (suc left) ≡ lines_here l (outer l b (suc left)) s ++ then_logs p r (logs_for p left)
  rest_by left s r a e =
      ap (λ (q : Machine). lines_of_step p q (step p q) ++ then_logs p (step p q) (logs_for p left)) (sym a.is)
      ∙ ap (λ (x : Stepped). lines_here l (outer l b (suc left)) s ++ then_logs p x (logs_for p left)) e

  -- how all steps end, by those from there
  end_by : (fuel : ℕ) (s : State) → IsRunAt l b fuel s None None → (runs_for p b.fuel b.first).end ≡ (runs_for p fuel (at fuel)).end
  end_by fuel s a = ap (λ (e : Ended). e.end) (runs_are p b.fuel b.first ∙ ap ended_of a.goes ∙ sym (runs_are p fuel (at fuel)))

  end_step : (left : ℕ) (s : State) (r : Stepped) → IsRunAt l b (suc left) s None None → step_here l (outer l b (suc left)) s ≡ r → (runs_for p b.fuel b.first).end ≡ (then_runs r (runs_for p left)).end
  end_step left s r a e = end_by (suc left) s a ∙ ap (λ (x : Stepped). (then_runs x (runs_for p left)).end) (stepped l b left s None None a ∙ e)

  more_lines : (x y z : Option (List ℕ)) (lines next : List ℕ) → HasAllBut (lines ++ next) all x y → (IsSome y → z ≡ append_known y lines) → HasAllBut next all x z
  more_lines x y z lines next a more = record {
    lines = a.lines ++ lines;
    is = a.is ∙ sym (append_assoc a.lines lines next);
    told = whole_on x y z a.lines lines a.told more;
  }

  -- no line is written
  begun_whole : (x : Option (List ℕ)) → HasAllBut (rest b.fuel) all x x
  begun_whole x =
      let none : 0 ≡ b.fuel - b.fuel = omega arith in
      record { lines = []; is = ap (λ (n : ℕ). logs_for p b.fuel (machine_after p n b.first)) none; told = λ some. append_none x }

  pub lines_begun : (fuel : ℕ) (x : Option (List ℕ)) → b.fuel ≡ fuel → HasAllBut (rest fuel) all x x
  lines_begun fuel x e = subst (λ (n : ℕ). HasAllBut (rest n) all x x) e (begun_whole x)

  module _ (s new : State) (x y z : Option (List ℕ)) where
    on_suc : (left : ℕ) → IsRunAt l b (suc left) s None None → GoesTo l (outer l b (suc left)) s new None None → HasAllBut (rest (suc left)) all x y → (IsSome y → z ≡ append_known y (lines_here l (outer l b (suc left)) s)) → HasAllBut (rest left) all x z
    on_suc left a g lines more =
        let out = outer l b (suc left) in
        let q : Machine = machine new (adding g.goes.bytes out) in
        let next : at left ≡ q = next_is l b left s None None (Steps q) a g.goes.goes in
        let here : rest (suc left) ≡ lines_here l out s ++ rest left = rest_by left s (Steps q) a g.goes.goes ∙ ap (λ (m : Machine). lines_here l out s ++ logs_for p left m) (sym next) in
        more_lines x y z (lines_here l out s) (rest left) (subst (λ (ls : List ℕ). HasAllBut ls all x y) here lines) more

    -- the step goes on
    pub lines_on : (fuel left : ℕ) (r : Result Unit Reply) (u : Unit) → IsRunAt l b fuel s None None → r ≡ Ok u → SpendsAs l (outer l b fuel) s fuel r new left None None → HasAllBut (rest fuel) all x y → (IsSome y → z ≡ append_known y (lines_for l (outer l b fuel) s fuel)) → HasAllBut (rest left) all x z
    lines_on fuel left r u a is spent lines more =
        let d = subst (λ (q : Result Unit Reply). SpendsAs l (outer l b fuel) s fuel q new left None None) is spent in
        on_suc left (subst (λ (n : ℕ). IsRunAt l b n s None None) d.0 a) (subst (λ (n : ℕ). GoesTo l (outer l b n) s new None None) d.0 d.1) (subst (λ (n : ℕ). HasAllBut (rest n) all x y) d.0 lines) (subst (λ (n : ℕ). IsSome y → z ≡ append_known y (lines_for l (outer l b n) s n)) d.0 more)

    -- ---- no step more is taken

    end_suc : (left : ℕ) (e : Reply) → IsRunAt l b (suc left) s None None → EndsWith l (outer l b (suc left)) s new e None None → HasAllBut (rest (suc left)) all x y → (IsSome y → z ≡ append_known y (lines_here l (outer l b (suc left)) s)) → HasAllBut last all x z
    end_suc left e a d lines more =
        let out = outer l b (suc left) in
        let r : Stepped = Ends (world new out) d.end in
        let same : last ≡ end_line l.file d.end = ap (end_line l.file) (end_step left s r a d.ends.ends) in
        let here : rest (suc left) ≡ lines_here l out s ++ last = rest_by left s r a d.ends.ends ∙ ap (λ (ls : List ℕ). lines_here l out s ++ ls) (sym same) in
        more_lines x y z (lines_here l out s) last (subst (λ (ls : List ℕ). HasAllBut ls all x y) here lines) more

    ends_lines : (fuel left : ℕ) (e : Reply) → fuel ≡ suc left → IsRunAt l b fuel s None None → EndsWith l (outer l b fuel) s new e None None → HasAllBut (rest fuel) all x y → (IsSome y → z ≡ append_known y (lines_for l (outer l b fuel) s fuel)) → HasAllBut last all x z
    ends_lines fuel left e f a d lines more =
        end_suc left e (subst (λ (n : ℕ). IsRunAt l b n s None None) f a) (subst (λ (n : ℕ). EndsWith l (outer l b n) s new e None None) f d) (subst (λ (n : ℕ). HasAllBut (rest n) all x y) f lines) (subst (λ (n : ℕ). IsSome y → z ≡ append_known y (lines_for l (outer l b n) s n)) f more)

    spent_zero : IsRunAt l b 0 s None None → HasAllBut (rest 0) all x y → (IsSome y → z ≡ append_known y []) → HasAllBut last all x z
    spent_zero a lines more =
        let same : rest 0 ≡ last = ap (end_line l.file) (sym (end_by 0 s a)) in
        more_lines x y z [] last (subst (λ (ls : List ℕ). HasAllBut ls all x y) same lines) more

    spent_lines : (fuel : ℕ) → fuel ≡ 0 → IsRunAt l b fuel s None None → HasAllBut (rest fuel) all x y → (IsSome y → z ≡ append_known y (lines_for l (outer l b fuel) s fuel)) → HasAllBut last all x z
    spent_lines fuel f a lines more =
        spent_zero (subst (λ (n : ℕ). IsRunAt l b n s None None) f a) (subst (λ (n : ℕ). HasAllBut (rest n) all x y) f lines) (subst (λ (n : ℕ). IsSome y → z ≡ append_known y (lines_for l (outer l b n) s n)) f more)

    lines_by : (fuel left : ℕ) (e : Reply) → e ≢ replies.WriteFault → IsRunAt l b fuel s None None → SpendsAs l (outer l b fuel) s fuel (Err e) new left None None → HasAllBut (rest fuel) all x y → (IsSome y → z ≡ append_known y (lines_for l (outer l b fuel) s fuel)) → HasAllBut last all x z
    lines_by fuel left (replies.Value v) well a d lines more = ends_lines fuel left (replies.Value v) d.0 a d.1 lines more
    lines_by fuel left (replies.Uncaught thrown) well a d lines more = ends_lines fuel left (replies.Uncaught thrown) d.0 a d.1 lines more
    lines_by fuel left (replies.Profile method index fault) well a d lines more = ends_lines fuel left (replies.Profile method index fault) d.0 a d.1 lines more
    lines_by fuel left replies.FuelSpent well a d lines more = spent_lines fuel d.0 a lines more
    lines_by fuel left (replies.Full limit) well a d lines more = ends_lines fuel left (replies.Full limit) d.0 a d.1 lines more
    lines_by fuel left replies.WriteFault well a d lines more = absurd (well refl)

    -- the log but for its last line
    pub lines_end : (fuel left : ℕ) (r : Result Unit Reply) (e : Reply) → e ≢ replies.WriteFault → IsRunAt l b fuel s None None → r ≡ Err e → SpendsAs l (outer l b fuel) s fuel r new left None None → HasAllBut (rest fuel) all x y → (IsSome y → z ≡ append_known y (lines_for l (outer l b fuel) s fuel)) → HasAllBut last all x z
    lines_end fuel left r e well a is spent lines more =
        lines_by fuel left e well a (subst (λ (q : Result Unit Reply). SpendsAs l (outer l b fuel) s fuel q new left None None) is spent) lines more

    -- a front of it, where the step's lines failed
    rest_front : (fuel : ℕ) → IsRunAt l b fuel s None None → (more : List ℕ) × (rest fuel ≡ lines_for l (outer l b fuel) s fuel ++ more)
    rest_front zero a = (rest zero, refl)
    rest_front (suc left) a = (then_logs p (step_here l (outer l b (suc left)) s) (logs_for p left), rest_by left s (step_here l (outer l b (suc left)) s) a refl)

    pub lines_front : (fuel : ℕ) → IsRunAt l b fuel s None None → HasAllBut (rest fuel) all x y → (IsSome y → GrowsByFront y z (lines_for l (outer l b fuel) s fuel)) → IsSome x → GrowsByFront x z all
    lines_front fuel a lines front some =
        let told = lines.told some in
        let more = rest_front fuel a in
        let here : GrowsByFront y z (rest fuel) = subst (GrowsByFront y z) (sym more.1) (front_first y z (lines_for l (outer l b fuel) s fuel) more.0 (front (told_on x y lines.lines told some))) in
        subst (GrowsByFront x z) (sym lines.is) (front_second x z lines.lines (rest fuel) (subst (λ (o : Option (List ℕ)). GrowsByFront o z (rest fuel)) told here))

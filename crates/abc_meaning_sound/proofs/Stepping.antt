-- A step from a sound state leaves a sound state, or ends, and is never stuck: from what the groups show.
use Rattle.std.proofs.Common.{◌≡◌, ℕ, zero, suc, ◌+◌, ◌≤◌, List, [], ◌∷◌, length, refl, sym, ◌∙◌, subst, arith, eqb-true}
use Rattle.std.specs.Prelude.{Bool, true, false, ◌&&◌, cond, is_some, nat_eq, Some, None, if◌then◌else◌}
use Rattle.std.specs.declared.option.Option.{Option}
use Rattle.abc_verify_typing.specs.Instructions.{opcode}
use Rattle.abc_verify_typing.specs.Rows.{Shape, find, row_at, table_of_rows}
use Rattle.abc_verify_typing.specs.Lists.{Each}
use Rattle.abc_verify_typing.specs.Standing.{here_with}
use Rattle.abc_verify_typing.proofs.Fine.{stands}
use Rattle.abc_verify_typing.proofs.Lists.{Each2-length}
use Rattle.abc_verify_typing.proofs.Member.{and_left, and_right}
use Rattle.abc_meaning.specs.Entering.{starts_script}
use Rattle.abc_frames.specs.Frame.{Frame}
use Rattle.abc_meaning.specs.Setting.{Setting, routine_of}
use Rattle.abc_meaning.specs.World.{World}
use Rattle.abc_meaning.specs.At.{Doing}
use Rattle.abc_meaning.specs.Table.{act_of, acts, find_act}
use Rattle.abc_meaning.specs.Meaning.{runs_for, then_runs}
use Rattle.abc_meaning.specs.Sound.{AreTypings, FrameSound, FramesFit, FramesSound, IsOfKind, IsSound, ScopeHolds, SteppedSound, Typings, WorldSound}
use Rattle.abc_meaning.specs.Step.{does, does_instr, does_row, runs, step, step_of, or_stuck}
use Rattle.abc_meaning.specs.Tests.{at_frame}
use Rattle.abc_meaning.specs.Throwing.{Ends, Machine, Stepped, Steps, Stuck, last_script}
use Rattle.abc_meaning.proofs.Unwinding.{newest}
use Rattle.abc_meaning_sound.specs.Given.{FileGiven, OpsGiven}
use Rattle.abc_meaning_sound.specs.Keeping.{ActSound, DoingSound, EntrySound, Fares, GroupsHold, Ready}
use Rattle.abc_meaning_sound.proofs.Entered.{starts_fares}
use Rattle.abc_meaning_sound.proofs.Settled.{NewSound, acted_sound, started_sound}
use Rattle.abc_meaning_sound.proofs.Tests.{runs_on}

-- each opcode of the rows has an act
abbrev all_have : List (ℕ × Shape) → List (ℕ × Doing) → Bool
all_have [] ds = true
all_have (x ∷ xs) ds = is_some (find_act x.0 ds) && all_have xs ds

every_row_acts : all_have table_of_rows acts ≡ true
unfolding table_of_rows acts
every_row_acts = refl

has_act : (o : ℕ) (xs : List (ℕ × Shape)) (ds : List (ℕ × Doing)) (x : Shape) → all_have xs ds ≡ true → find o xs ≡ Some x → (d : Doing) × (find_act o ds ≡ Some d)
has_act o [] ds x e q = absurd cc
has_act o (y ∷ xs) ds x e q = go (λ k. has_act o xs ds x (and_right (is_some (find_act y.0 ds)) _ e) k) (nat_eq o y.0) refl q
  where
    present : (r : Option Doing) → find_act o ds ≡ r → is_some r ≡ true → (d : Doing) × (find_act o ds ≡ Some d)
    present None is t = absurd cc
    present (Some d) is t = (d, is)

    go : (find o xs ≡ Some x → (d : Doing) × (find_act o ds ≡ Some d)) → (b : Bool) → nat_eq o y.0 ≡ b → cond b (Some y.1) (find o xs) ≡ Some x → (d : Doing) × (find_act o ds ≡ Some d)
    go more true is q = present (find_act o ds) refl (subst (λ i. is_some (find_act i ds) ≡ true) (sym (eqb-true o y.0 is)) (and_left _ _ e))
    go more false is q = more q

act_found : (o : ℕ) (x : Shape) → row_at o ≡ Some x → (d : Doing) × (act_of o ≡ Some d)
unfolding row_at act_of
act_found o x e = has_act o table_of_rows acts x every_row_acts e

-- an entry of the table, from the row that stands there
pub entry_sound : (p : Setting) (typings : Typings) (o : ℕ) (x : Shape) (d : Doing) → row_at o ≡ Some x → DoingSound p typings o x d → EntrySound p typings (o, d)
entry_sound p typings o x d e h y q = let same : x ≡ y = (let z : Some x ≡ Some y = sym e ∙ q in cc) in subst (λ i. DoingSound p typings o i d) same h

entry_found : (p : Setting) (typings : Typings) (o : ℕ) (ds : List (ℕ × Doing)) (d : Doing) → Each (EntrySound p typings) ds → find_act o ds ≡ Some d → EntrySound p typings (o, d)
entry_found p typings o [] d h e = absurd cc
entry_found p typings o (c ∷ ds) d h e = go (λ q. entry_found p typings o ds d h.1 q) (nat_eq o c.0) refl e
  where
    go : (find_act o ds ≡ Some d → EntrySound p typings (o, d)) → (b : Bool) → nat_eq o c.0 ≡ b → (if b then Some c.1 else find_act o ds) ≡ Some d → EntrySound p typings (o, d)
    go more true is q = let same : c.1 ≡ d = cc in subst (λ i. EntrySound p typings (i, d)) (sym (eqb-true o c.0 is)) (subst (λ i. EntrySound p typings (c.0, i)) same h.0)
    go more false is q = more q

all_sound : (p : Setting) (typings : Typings) → GroupsHold p typings → (o : ℕ) (x : Shape) (d : Doing) → row_at o ≡ Some x → act_of o ≡ Some d → DoingSound p typings o x d
unfolding act_of
all_sound p typings h o x d e q = entry_found p typings o acts d h q x e

module _ (p : Setting) (file : FileGiven p) (ops : OpsGiven p) (typings : Typings) (typed : AreTypings p typings) (groups : GroupsHold p typings) (news : NewSound p file typings typed) where
  -- an instruction
  pub runs_fares : (w : World) (f : Frame) → WorldSound p w → FrameSound p typings w.heap f → Fares p w (runs p f (routine_of p f.method) w) (ActSound p typings f)
  runs_fares w f s h =
      let r = h.stands.routine in
      let state = h.typed.state in
      let st = stands p.linked r f.place state ((typed f.method r h.stands.body).fine f.place state h.typed.typed) in
      let deep = subst (λ x. length f.stack + Rattle.abc_meaning.specs.Sound.put_by_return x ≤ r.max_stack + Rattle.abc_meaning.specs.Sound.taken_by_return x) h.idle h.stands.stack in
      let stack = Each2-length (IsOfKind p.linked w.heap) state.stack f.stack h.typed.is.stack in
      let high = h.stands.scopes in
      let scopes = Each2-length (ScopeHolds p.linked w.heap) state.scopes f.scopes h.typed.is.scopes in
      let ready : Ready p typings w f r state st.instr st.row = record {
        world = s;
        body = h.stands.body;
        home = h.stands.home;
        saved = h.stands.saved;
        idle = h.idle;
        sized = record { stack = omega (arith, deep, stack); scopes = omega (arith, high, scopes); locals = Each2-length (IsOfKind p.linked w.heap) state.locals f.locals h.typed.is.locals ∙ h.stands.locals };
        at = st.at;
        row_is = st.is;
        typed = h.typed.typed;
        is = h.typed.is;
        kept = st.kept;
      } in
      let d = act_found (opcode st.instr) st.row st.is in
      let fit = runs_on p file.linked typings w f r state st.instr st.row ready in
      let fares = all_sound p typings groups (opcode st.instr) st.row d.0 st.is d.1 w f r state st.instr ready refl in
      let here_is = here_with p.linked r f.place st.instr st.row in
      let a = at_frame p here_is f in
      let in_test : Fares p w (does p here_is f (Some d.0) w) (ActSound p typings f) = subst (λ b. Fares p w (or_stuck b (d.0 a) w) (ActSound p typings f)) (sym fit) fares in
      let in_act : Fares p w (does_row p r f st.instr (Some st.row) w) (ActSound p typings f) = subst (λ o. Fares p w (does p here_is f o w) (ActSound p typings f)) (sym d.1) in_test in
      let in_row : Fares p w (does_instr p r f (Some st.instr) w) (ActSound p typings f) = subst (λ o. Fares p w (does_row p r f st.instr o w) (ActSound p typings f)) (sym st.is) in_act in
      let in_code : Fares p w (runs p f (Some r) w) (ActSound p typings f) = subst (λ o. Fares p w (does_instr p r f o w) (ActSound p typings f)) (sym st.at) in_row in
      subst (λ o. Fares p w (runs p f o w) (ActSound p typings f)) (sym h.stands.body) in_code

  pub step_sound : (q : Machine) → IsSound p typings q → SteppedSound p typings (step p q)
  step_sound q z = go q.world q.frames z.world z.frames z.room
    where
      go : (w : World) (fs : List Frame) → WorldSound p w → FramesSound p typings w.heap fs → FramesFit p w.heap.limits fs → SteppedSound p typings (step_of p w fs)
      go w [] s h l = started_sound p file typings typed w (starts_script p (last_script p) w) (starts_fares p file ops typings typed w (last_script p) s (let one = file.one_script in omega (arith, one)))
      go w (f ∷ fs) s h l = acted_sound p file typings typed news w f fs (runs p f (routine_of p f.method) w) (newest p typings w.heap f h.0) h.1 l (runs_fares w f s h.0)

  -- a run of any fuel
  pub run_sound : (fuel : ℕ) (q : Machine) → IsSound p typings q → (runs_for p fuel q).end ≡ Stuck → ⊥
  run_sound zero q z e = absurd cc
  run_sound (suc n) q z e = go (λ k s. run_sound n k s) (step p q) (step_sound q z) e
    where
      go : ((k : Machine) → IsSound p typings k → (runs_for p n k).end ≡ Stuck → ⊥) → (x : Stepped) → SteppedSound p typings x → (then_runs x (runs_for p n)).end ≡ Stuck → ⊥
      go rec (Steps k) s e = rec k s e
      go rec (Ends w end) s e = s.0 e

-- A fault that ends a run of a verified file is told at an instruction.
use Rattle.std.proofs.Common.{◌≡◌, ℕ, zero, suc, ◌-◌, ◌<◌, List, [], ◌∷◌, length, refl, sym, ap, ◌∙◌, subst, arith}
use Rattle.std.specs.Prelude.{Some, None, slice_get}
use Rattle.std.specs.declared.option.Option.{Option}
use Rattle.abc_base.specs.declared.names.Fault.{Fault}
use Rattle.abc_heap_values.specs.declared.values.Value.{Value}
use Rattle.abc_heap_store.specs.declared.records.Limit.{Limit}
use Rattle.abc_link_names.specs.PartsByNumber.{body_at, script_at}
use Rattle.abc_link_names.specs.Owners.{body_of}
use Rattle.abc_frames.specs.Frame.{Frame}
use Rattle.abc_frames.specs.declared.records.Wait.TheVariants as waits
use Rattle.abc_verify_typing.specs.Lists.{Each}
use Rattle.abc_verify_typing.specs.Routines.{Routine, routine}
use Rattle.abc_verify_typing.specs.declared.state.State.{State}
use Rattle.abc_verify_typing.proofs.Fine.{stands}
use Rattle.abc_meaning.specs.Entering.{starts_script}
use Rattle.abc_meaning.specs.Setting.{Setting, routine_in, routine_of}
use Rattle.abc_meaning.specs.World.{Outcome, Stopped, Went, World}
use Rattle.abc_meaning.specs.At.{Act, Goes, Returns, Top, waiting_frame}
use Rattle.abc_meaning.specs.ThrowLaws.{IsVerifiedSetting}
use Rattle.abc_meaning.specs.Meaning.{Ran, first_state, first_world, meaning, meaning_if, runs_for, then_runs, too_small}
use Rattle.abc_meaning.specs.Sound.{AreTypings, FrameSound, FramesSound, IsSound, SteppedSound, Typings, WaitingSound}
use Rattle.abc_meaning.specs.Step.{after_act, gives_back, after_resume, resumes, runs, after_start, step, step_of}
use Rattle.abc_meaning.specs.Throwing.{Ends, Machine, Profile, Stepped, Steps, fault_at, last_script}
use Rattle.abc_meaning_sound.proofs.Filed.{body_is}
use Rattle.abc_meaning_sound.proofs.Verified.{file_given}
use Rattle.abc_meaning_sound.proofs.Lists.{inside}
use Rattle.abc_meaning_sound.proofs.Never.{are_typings, stays_sound, the_first_is_sound, typings}
use Rattle.abc_meaning_sound.specs.Placed.{FaultsArePlaced}
use Rattle.abc_meaning.specs.Told.{IsInstruction}
use Rattle.abc_meaning_sound.proofs.Stopping.{TellsAt, puts_tells, settles_tells, stops_tells}

module _ (p : Setting) (typings : Typings) (v : IsVerifiedSetting p) (typed : AreTypings p typings) where
  -- a place that has a state is an instruction
  pub placed : (n i : ℕ) (r : Routine) (s : State) → routine_of p n ≡ Some r → typings n i ≡ Some s → IsInstruction p.linked.file n i
  placed n i r s e at = go (body_of p.linked.file n) refl e
    where
      go : (o : Option ℕ) → body_of p.linked.file n ≡ o → routine_in p o ≡ Some r → IsInstruction p.linked.file n i
      go None q f = absurd cc
      go (Some b) q f =
          let same : routine p.linked b ≡ r = cc in
          let here = stands p.linked r i s ((typed n r e).fine i s at) in
          record {
            body = b;
            of_method = q;
            low = (body_is p.linked v.linked n b q).low;
            inside = subst (λ (x : Routine). i < length x.code) (sym same) (inside r.code i here.instr here.at);
          }

  newest_placed : (w : World) (f : Frame) → FrameSound p typings w.heap f → IsInstruction p.linked.file f.method f.place
  newest_placed w f s = placed f.method f.place s.stands.routine s.typed.state s.stands.body s.typed.typed

  below_placed : (w : World) (f : Frame) → WaitingSound p typings w.heap f → IsInstruction p.linked.file f.method f.place
  below_placed w f s = placed f.method f.place s.stands.routine s.catches.state s.stands.body s.catches.typed

  -- the init of the last script, at its first instruction
  pub init_placed : IsInstruction p.linked.file (script_at p.linked.file (last_script p)).init 0
  init_placed =
      let given = file_given p v.linked in
      let some = given.one_script in
      let low : last_script p < length p.linked.file.scripts = omega (arith, some) in
      let owned = given.inits (last_script p) low in
      let init = (script_at p.linked.file (last_script p)).init in
      let start = (typed init owned.body.routine owned.body.body).start in
      placed init 0 owned.body.routine start.0 owned.body.body start.1

  -- ---- a step

  module _ (m i : ℕ) (fault : Fault) where
    pub there : (n j : ℕ) (x : Fault) → IsInstruction p.linked.file n j → Profile n j x ≡ Profile m i fault → IsInstruction p.linked.file m i
    there n j x is e =
        let a : n ≡ m = cc in
        let b : j ≡ i = cc in
        subst (λ (k : ℕ). IsInstruction p.linked.file k i) a (subst (λ (k : ℕ). IsInstruction p.linked.file n k) b is)

    first_placed : (o : Outcome Frame) → TellsAt (after_start p o) m i fault → IsInstruction p.linked.file m i
    first_placed (Went w f) t = absurd (puts_tells p m i fault w f [] t)
    first_placed (Stopped w why) t =
        let k = stops_tells p m i fault w [] why t in
        there (script_at p.linked.file (last_script p)).init 0 k.0 init_placed k.1

    resumed_placed : (f : Frame) (fs : List Frame) (o : Outcome Top) → IsInstruction p.linked.file f.method f.place → TellsAt (after_resume p f fs o) m i fault → IsInstruction p.linked.file m i
    resumed_placed f fs (Went w top) is t = absurd (settles_tells p m i fault w fs top t)
    resumed_placed f fs (Stopped w why) is t =
        let k = stops_tells p m i fault w (f ∷ fs) why t in
        there f.method f.place k.0 is k.1

    returned_placed : (w n : World) (x : Value) (fs : List Frame) → Each (WaitingSound p typings w.heap) fs → TellsAt (gives_back p n x fs) m i fault → IsInstruction p.linked.file m i
    returned_placed w n x [] s t = let e = t.1 in absurd cc
    returned_placed w n x (f ∷ fs) s t = resumed_placed f fs (resumes p (waiting_frame waits.Not f) f.wait x n) (below_placed w f s.0) t

    acted_placed : (w : World) (f : Frame) (fs : List Frame) (o : Outcome Act) → FramesSound p typings w.heap (f ∷ fs) → TellsAt (after_act p f fs o) m i fault → IsInstruction p.linked.file m i
    acted_placed w f fs (Went n (Goes top)) s t = absurd (settles_tells p m i fault n fs top t)
    acted_placed w f fs (Went n (Returns x)) s t = returned_placed w n x fs s.1 t
    acted_placed w f fs (Stopped n why) s t =
        let k = stops_tells p m i fault n (f ∷ fs) why t in
        there f.method f.place k.0 (newest_placed w f s.0) k.1

    pub step_placed : (w : World) (fs : List Frame) → FramesSound p typings w.heap fs → TellsAt (step_of p w fs) m i fault → IsInstruction p.linked.file m i
    step_placed w [] s t = first_placed (starts_script p (last_script p) w) t
    step_placed w (f ∷ fs) s t = acted_placed w f fs (runs p f (routine_of p f.method) w) s t

    -- ---- a run

    run_placed : (fuel : ℕ) (q : Machine) → IsSound p typings q → (runs_for p fuel q).end ≡ Profile m i fault → IsInstruction p.linked.file m i
    run_placed zero q s e = absurd cc
    run_placed (suc fuel) q s e = go (run_placed fuel) (step p q) refl (stays_sound p typings q v typed s) e
      where
        go : ((n : Machine) → IsSound p typings n → (runs_for p fuel n).end ≡ Profile m i fault → IsInstruction p.linked.file m i) → (r : Stepped) → step p q ≡ r → SteppedSound p typings r → (then_runs r (runs_for p fuel)).end ≡ Profile m i fault → IsInstruction p.linked.file m i
        go more (Steps n) k h f = more n h f
        go more (Ends w x) k h f = step_placed q.world q.frames s.frames (w, k ∙ ap (Ends w) f)

pub faults_placed : FaultsArePlaced
unfolding meaning
faults_placed p limits fuel wrote m i fault v counted e = go (too_small (first_world p limits).heap) refl e
  where
    go : (o : Option Limit) → too_small (first_world p limits).heap ≡ o → meaning_if o (runs_for p fuel (first_state p limits)) ≡ Ran wrote (Profile m i fault) → IsInstruction p.linked.file m i
    go (Some limit) q f = absurd cc
    go None q f =
        let all = are_typings p v in
        let end : (runs_for p fuel (first_state p limits)).end ≡ Profile m i fault = cc in
        run_placed p (typings p v) v all m i fault fuel (first_state p limits) (the_first_is_sound p (typings p v) limits v all counted q) end

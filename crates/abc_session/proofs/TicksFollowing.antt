-- The run and the calls after it as one run: what comes of all follows from what comes of each.
use Rattle.std.proofs.Common.{◌≡◌, ◌≢◌, ℕ, ◌≤◌, List, None, Some, Err, refl, sym, ap, ◌∙◌, subst, arith}
use Rattle.std.specs.Prelude.{IsSome}
use Rattle.std.specs.Io.KnownBytes.{append_known}
use Rattle.std.specs.declared.option.Option.{Option}
use Rattle.abc_base.specs.Sinks.{GrowsByFront}
use Rattle.abc_base.specs.declared.formula.Formula.{Formula}
use Rattle.abc_meaning.specs.Calls.{session, silent}
use Rattle.abc_meaning.specs.Exports.{IsScriptMethod}
use Rattle.abc_heap_store.specs.declared.records.Limit.{Limit}
use Rattle.abc_heap_store.specs.declared.records.Limits.{Limits}
use Rattle.abc_meaning.specs.Meaning.{Ended, Meaning, Ran, first_state, first_world, meaning, meaning_if, ran, runs_for, too_small}
use Rattle.abc_meaning.specs.Throwing as meant
use Rattle.abc_meaning.specs.World.{World}
use Rattle.abc_meaning.specs.Setting.{Setting}
use Rattle.abc_objects.specs.Opening.{formula_names}
use Rattle.abc_link_names.specs.Linked.{LinkedFile}
use Rattle.abc_machine.specs.declared.ends.End.{End}
use Rattle.abc_machine.specs.declared.ends.End.TheVariants as ends
use Rattle.abc_machine.specs.Ended.{HasRun, IsEndOf, RunsAs}
use Rattle.abc_machine.specs.Machines.{IsOpened, IsReadyToCall, Opened, world_run}
use Rattle.abc_session.proofs.Calling.{IsRun, calls_are_run, fails_after, kept_session, runs_after}
use Rattle.abc_session.specs.Ticks.{with_output_before, calls_meaning, calls_run, then_follows, ticks, ticks_run}
use Rattle.abc_session.specs.Told.{Tried}

-- an opened machine's meaning is its run
pub run_is : (p : Setting) (limits : Limits) (fuel : ℕ) → too_small (first_world p limits).heap ≡ None → meaning p limits fuel ≡ ran (runs_for p fuel (first_state p limits))
unfolding meaning
run_is p limits fuel fits = ap (λ (o : Option Limit). meaning_if o (runs_for p fuel (first_state p limits))) fits

ticks_are_run : (p : Setting) (method fuel times : ℕ) (w : World) → IsRun (ticks_run p method fuel times w)
ticks_are_run p method fuel times w = calls_are_run p.linked.file (session p.linked w (ticks method fuel p.formulas 0 times))

-- a run that is done wrote all that is meant
was_done : (w : World) (e : meant.End) (m : Meaning) (old mid : Option (List ℕ)) (end : End) → m ≡ Ran w.wrote e → end ≡ ends.Done → RunsAs m old mid end → (IsSome old → mid ≡ append_known old w.wrote) × (e ≡ meant.Done)
was_done w e m old mid end is d (RunsAs.ended wrote f x so got) =
    let bytes : wrote ≡ w.wrote = cc in
    let same : f ≡ e = cc in
    (subst (λ (l : List ℕ). IsSome old → mid ≡ append_known old l) bytes got, sym same ∙ subst (IsEndOf f) d so)
was_done w e m old mid end is d (RunsAs.failed wrote f front) = absurd cc

-- a run that ended otherwise is all
follows_not : (w : World) (e : meant.End) (more : World → Meaning) → e ≢ meant.Done → then_follows w e more ≡ Ran w.wrote e
follows_not w meant.Done more not = absurd (not refl)
follows_not w (meant.Uncaught t) more not = refl
follows_not w (meant.Profile m i fault) more not = refl
follows_not w meant.FuelSpent more not = refl
follows_not w (meant.Full limit) more not = refl
follows_not w meant.Stuck more not = refl

-- a run that couldn't write
fails_follows : (w : World) (e : meant.End) (more : World → Meaning) (old new : Option (List ℕ)) → IsRun (more w) → (IsSome old → GrowsByFront old new w.wrote) → RunsAs (then_follows w e more) old new ends.WriteFault
fails_follows w meant.Done more old new r front = fails_after w.wrote (more w) old new r front
fails_follows w (meant.Uncaught t) more old new r front = RunsAs.failed w.wrote (meant.Uncaught t) front
fails_follows w (meant.Profile m i fault) more old new r front = RunsAs.failed w.wrote (meant.Profile m i fault) front
fails_follows w meant.FuelSpent more old new r front = RunsAs.failed w.wrote meant.FuelSpent front
fails_follows w (meant.Full limit) more old new r front = RunsAs.failed w.wrote (meant.Full limit) front
fails_follows w meant.Stuck more old new r front = RunsAs.failed w.wrote meant.Stuck front

end_not : (e : meant.End) (end : End) → IsEndOf e end → end ≢ ends.Done → e ≢ meant.Done
end_not e ends.Done is not d = not refl
end_not e (ends.Uncaught t) is not d = let f : meant.Uncaught t ≡ meant.Done = sym is ∙ d in cc
end_not e (ends.Profile m i fault) is not d = let f : meant.Profile m i fault ≡ meant.Done = sym is ∙ d in cc
end_not e ends.FuelSpent is not d = let f : meant.FuelSpent ≡ meant.Done = sym is ∙ d in cc
end_not e (ends.Full limit) is not d = let f : meant.Full limit ≡ meant.Done = sym is ∙ d in cc
end_not e ends.WriteFault is not d = is

run_alone : (w : World) (e : meant.End) (more : World → Meaning) (m : Meaning) (old new : Option (List ℕ)) (end : End) → m ≡ Ran w.wrote e → IsRun (more w) → end ≢ ends.Done → RunsAs m old new end → RunsAs (then_follows w e more) old new end
run_alone w e more m old new end is r not (RunsAs.ended wrote f x so got) =
    let bytes : wrote ≡ w.wrote = cc in
    let same : f ≡ e = cc in
    let here : IsEndOf e x = subst (λ (y : meant.End). IsEndOf y x) same so in
    subst (λ (y : Meaning). RunsAs y old new x) (sym (follows_not w e more (end_not e x here not))) (RunsAs.ended w.wrote e x here (subst (λ (l : List ℕ). IsSome old → new ≡ append_known old l) bytes got))
run_alone w e more m old new end is r not (RunsAs.failed wrote f front) =
    let bytes : wrote ≡ w.wrote = cc in
    fails_follows w e more old new r (subst (λ (l : List ℕ). IsSome old → GrowsByFront old new l) bytes front)

module _ (p : Setting) (limits : Limits) (fuel times method : ℕ) (fits : too_small (first_world p limits).heap ≡ None) where
  abbrev run : Ended
  run = runs_for p fuel (first_state p limits)

  -- the run ended otherwise than Done
  pub run_stops : (old new : Option (List ℕ)) (end : End) → end ≢ ends.Done → RunsAs (meaning p limits fuel) old new end → RunsAs (calls_meaning p limits fuel times method) old new end
  unfolding calls_meaning
  run_stops old new end not x =
      run_alone run.world run.end (ticks_run p method fuel times) (meaning p limits fuel) old new end (run_is p limits fuel fits) (ticks_are_run p method fuel times run.world) not x

  -- the run was done, and then the calls
  pub run_goes_on : (old mid new : Option (List ℕ)) (w : World) (end : End) → w ≡ silent run.world → RunsAs (meaning p limits fuel) old mid ends.Done → RunsAs (ticks_run p method fuel times w) mid new end → RunsAs (calls_meaning p limits fuel times method) old new end
  unfolding calls_meaning
  run_goes_on old mid new w end kept x more =
      let d = was_done run.world run.end (meaning p limits fuel) old mid ends.Done (run_is p limits fuel fits) refl x in
      let same = ap (calls_run p.linked.file) (kept_session p.linked w run.world (ticks method fuel p.formulas 0 times) kept) in
      let y = subst (λ (m : Meaning). RunsAs m mid new end) same more in
      let follows = ap (λ (e : meant.End). then_follows run.world e (ticks_run p method fuel times)) d.1 in
      subst (λ (m : Meaning). RunsAs m old new end) (sym follows) (runs_after (ticks_run p method fuel times run.world) run.world.wrote old mid new end d.0 y)

-- ---- counts of faults

pub causes : (n m k : ℕ) (e end : End) → HasRun n m e → HasRun m k end → HasRun n k end
causes n m k e end h i =
    let first = h.later in
    let second = i.later in
    record { later = omega (arith, first, second); failed = λ f. let rose = i.failed f in omega (arith, first, rose) }

pub no_fault : (n m : ℕ) → n ≤ m → HasRun n m ends.Done
no_fault n m le = record { later = le; failed = λ f. absurd cc }

pub tried_fault : (n m k : ℕ) (end : End) → n ≤ m → Tried m k (Err end) → HasRun n k end
tried_fault n m k end le t =
    let later = t.later in
    record { later = omega (arith, le, later); failed = λ f. let rose = t.failed (ap (λ (x : End). Err x) f) in omega (arith, le, rose) }

-- ---- the session between the run and the calls

pub not_run : (old : Opened) (fs : List Formula) → IsOpened old.linked fs old.limits old → old.ended ≡ None
not_run old fs opened = ap (λ (m : Opened). m.ended) opened.is

pub same_names : (old : Opened) (fs : List Formula) → IsOpened old.linked fs old.limits old → formula_names fs ≡ old.names
same_names old fs opened = sym (ap (λ (m : Opened). m.names) opened.is)

module _ (old new : Opened) (fs : List Formula) (fuel : ℕ) (method : ℕ) (result : End) (opened : IsOpened old.linked fs old.limits old) where
  pub gets_ready : new.ended ≡ Some result → result ≡ ends.Done → new.closed ≡ old.closed → IsReadyToCall new
  gets_ready ended done same = record { done = ended ∙ ap (λ (x : End). Some x) done; still = same ∙ ap (λ (m : Opened). m.closed) opened.is }

  not_fault : result ≡ ends.Done → result ≢ ends.WriteFault
  not_fault done f = let g : ends.Done ≡ ends.WriteFault = sym done ∙ f in cc

  pub names_stay : result ≡ ends.Done → (old.ended ≡ None → result ≢ ends.WriteFault → new.names ≡ old.names) → formula_names fs ≡ new.names
  names_stay done keep = same_names old fs opened ∙ sym (keep (not_run old fs opened) (not_fault done))

  pub method_stays : new.linked ≡ old.linked → IsScriptMethod (record { linked = old.linked; formulas = fs }) method → IsScriptMethod (record { linked = new.linked; formulas = fs }) method
  method_stays same exported = subst (λ (l : LinkedFile). IsScriptMethod (record { linked = l; formulas = fs }) method) (sym same) exported

  pub run_then_calls : (times : ℕ) (before mid now : Option (List ℕ)) (end : End) → result ≡ ends.Done → new.linked ≡ old.linked
      → (old.ended ≡ None → RunsAs (meaning (record { linked = old.linked; formulas = fs }) old.limits fuel) before mid result) → (old.ended ≡ None → result ≢ ends.WriteFault → new.world ≡ silent (world_run old fs fuel))
      → RunsAs (ticks_run (record { linked = new.linked; formulas = fs }) method fuel times new.world) mid now end → RunsAs (calls_meaning (record { linked = old.linked; formulas = fs }) old.limits fuel times method) before now end
  run_then_calls times before mid now end done same ran left more =
      let p : Setting = record { linked = old.linked; formulas = fs } in
      let first = subst (λ (x : End). RunsAs (meaning p old.limits fuel) before mid x) done (ran (not_run old fs opened)) in
      let then = subst (λ (l : LinkedFile). RunsAs (ticks_run (record { linked = l; formulas = fs }) method fuel times new.world) mid now end) same more in
      run_goes_on p old.limits fuel times method opened.fits before mid now new.world end (left (not_run old fs opened) (not_fault done)) first then

  pub run_only : (times : ℕ) (before now : Option (List ℕ)) → result ≢ ends.Done → (old.ended ≡ None → RunsAs (meaning (record { linked = old.linked; formulas = fs }) old.limits fuel) before now result)
      → RunsAs (calls_meaning (record { linked = old.linked; formulas = fs }) old.limits fuel times method) before now result
  run_only times before now not ran = run_stops (record { linked = old.linked; formulas = fs }) old.limits fuel times method opened.fits before now result not (ran (not_run old fs opened))

-- How a run ends follows from its meaning and from what the machine answers.
use Rattle.std.proofs.Common.{◌≡◌, ◌≢◌, ℕ, ◌<◌, inl, inr, List, [], length, get_or, Some, refl, sym, ap, subst, arith}
use Rattle.std.specs.Prelude.{unwrap_or}
use Rattle.std.proofs.lemmas.Option.{slice_get-get_or}
use Rattle.std.specs.declared.option.Option.{Option}
use Rattle.abc_base.specs.Hosts.{AreFormulas}
use Rattle.abc_base.specs.Sinks.{GrowsByFront}
use Rattle.abc_base.specs.declared.formula.Formula.{Formula}
use Rattle.abc_base.specs.declared.names.Fault.{Fault}
use Rattle.abc_base.specs.declared.status.Status.{Status}
use Rattle.abc_base.specs.declared.status.Status.TheVariants as status
use Rattle.abc_bodies.specs.Places.{ArePlaces}
use Rattle.abc_cli_answers.proofs.Ending.{line_ends}
use Rattle.abc_cli_answers.specs.Answers.{Answer, bytes_answer}
use Rattle.abc_cli_answers.specs.End.{Channel, channel, Got, GivesLine, RunsTo}
use Rattle.abc_cli.specs.Endings.{HasCodePlace, IsPlacedEnd, end_answer, open_answer}
use Rattle.abc_cli_answers.specs.Lines.{fuel_spent_text, limit_text, no_memory_text, uncaught_text}
use Rattle.abc_cli.specs.Meant.{IsEnded, IsMeant, bytes_and_line}
use Rattle.abc_meaning.specs.Lines.{thrown_name}
use Rattle.abc_heap_store.specs.declared.records.Limit.{Limit}
use Rattle.abc_heap_store.specs.declared.records.Limits.{Limits}
use Rattle.abc_link_names.specs.PartsByNumber.{body_at, no_body}
use Rattle.abc_meaning.specs.ThrowLaws.{IsVerifiedSetting}
use Rattle.abc_meaning.specs.Meaning.{Meaning, Ran, TooSmall, first_state, first_world, meaning, meaning_if, runs_for, too_small}
use Rattle.abc_meaning.specs.Throwing as meant
use Rattle.abc_meaning.specs.Setting.{Setting}
use Rattle.abc_objects.specs.declared.error.OpenError.{OpenError}
use Rattle.abc_objects.specs.declared.error.OpenError.TheVariants as errors
use Rattle.abc_link_names.specs.Linked.{LinkedFile}
use Rattle.abc_file_types.specs.declared.tables.Abc.{Abc}
use Rattle.abc_machine.specs.declared.ends.End.{End}
use Rattle.abc_machine.specs.declared.ends.End.TheVariants as ends
use Rattle.abc_machine.specs.Ended.{HasRun, IsEndOf, RunsAs}
use Rattle.abc_machine.specs.Machines.{IsOpened, Opened}
use Rattle.abc_meaning.specs.Told.{IsInstruction}
use Rattle.abc_verify.specs.Verified.{IsVerifiedOf}
use Rattle.abc_cli_answers.proofs.Runs.{told_quiet}

-- ---- ends of the machine

-- what is answered of an end, with what was written
abbrev full : Abc → List (List ℕ) → List ℕ → End → Answer
full v starts wrote end = record (end_answer v starts end) { out = wrote }

is_ended : (v : Abc) (starts : List (List ℕ)) (wrote : List ℕ) (e : meant.End) (end : End) → IsEndOf e end → IsEnded v starts wrote e (full v starts wrote end)
is_ended v starts wrote e ends.Done is = subst (λ (x : meant.End). IsEnded v starts wrote x (full v starts wrote ends.Done)) (sym is) refl
is_ended v starts wrote e (ends.Uncaught t) is = subst (λ (x : meant.End). IsEnded v starts wrote x (full v starts wrote (ends.Uncaught t))) (sym is) refl
is_ended v starts wrote e (ends.Profile m i fault) is = subst (λ (x : meant.End). IsEnded v starts wrote x (full v starts wrote (ends.Profile m i fault))) (sym is) refl
is_ended v starts wrote e ends.FuelSpent is = subst (λ (x : meant.End). IsEnded v starts wrote x (full v starts wrote ends.FuelSpent)) (sym is) refl
is_ended v starts wrote e (ends.Full limit) is = subst (λ (x : meant.End). IsEnded v starts wrote x (full v starts wrote (ends.Full limit))) (sym is) refl
is_ended v starts wrote e ends.WriteFault is = absurd is

-- every end but a stuck one has an answer
pub some_answer : (v : Abc) (starts : List (List ℕ)) (wrote : List ℕ) (e : meant.End) → (e ≡ meant.Stuck → ⊥) → (a : Answer) × IsEnded v starts wrote e a × (a.out ≡ wrote)
some_answer v starts wrote meant.Done free = (bytes_answer wrote, refl, refl)
some_answer v starts wrote (meant.Uncaught t) free = (bytes_and_line status.Uncaught wrote (uncaught_text (thrown_name v t)), refl, refl)
some_answer v starts wrote (meant.Profile m i fault) free = (full v starts wrote (ends.Profile m i fault), refl, refl)
some_answer v starts wrote meant.FuelSpent free = (bytes_and_line status.Fuel wrote fuel_spent_text, refl, refl)
some_answer v starts wrote (meant.Full limit) free = (bytes_and_line status.Limit wrote (limit_text limit), refl, refl)
some_answer v starts wrote meant.Stuck free = absurd (free refl)

module _ (v : Abc) (starts : List (List ℕ)) (old new : Option (List ℕ)) (n k : ℕ) (err : Channel) (s : Status) where
  abbrev out : Channel
  out = channel old new n k

  -- an end but Done has a line of its own
  line_told : (m : Meaning) (a : Answer) → IsMeant v starts m a → a.status ≢ status.Done → Got out a.out → GivesLine err a s → RunsTo (IsMeant v starts m) ⊥ out err s
  line_told m a is not got line = RunsTo.other (line_ends (λ x. IsMeant v starts m x × (x.status ≢ status.Done)) ⊥ out err a s (is, not) got line)

  ended_runs : (wrote : List ℕ) (e : meant.End) (end : End) → IsEndOf e end → Got out wrote → GivesLine err (end_answer v starts end) s → (end ≡ ends.Done → (s ≡ status.Done) × Got err []) → RunsTo (IsMeant v starts (Ran wrote e)) ⊥ out err s
  ended_runs wrote e ends.Done is got line silent = RunsTo.done (bytes_answer wrote) (is_ended v starts wrote e ends.Done is) refl got (silent refl).1 (silent refl).0
  ended_runs wrote e (ends.Uncaught t) is got line silent = line_told (Ran wrote e) (full v starts wrote (ends.Uncaught t)) (is_ended v starts wrote e (ends.Uncaught t) is) (λ h. cc) got line
  ended_runs wrote e (ends.Profile m i fault) is got line silent = line_told (Ran wrote e) (full v starts wrote (ends.Profile m i fault)) (is_ended v starts wrote e (ends.Profile m i fault) is) (λ h. cc) got line
  ended_runs wrote e ends.FuelSpent is got line silent = line_told (Ran wrote e) (full v starts wrote ends.FuelSpent) (is_ended v starts wrote e ends.FuelSpent is) (λ h. cc) got line
  ended_runs wrote e (ends.Full limit) is got line silent = line_told (Ran wrote e) (full v starts wrote (ends.Full limit)) (is_ended v starts wrote e (ends.Full limit) is) (λ h. cc) got line
  ended_runs wrote e ends.WriteFault is got line silent = absurd is

-- the output and the end of a meaning that is never stuck, and the line of the end
pub run_ends : (v : Abc) (starts : List (List ℕ)) (m : Meaning) (old new : Option (List ℕ)) (n k : ℕ) (err : Channel) (end : End) (s : Status)
    → ((wrote : List ℕ) → m ≡ Ran wrote meant.Stuck → ⊥) → RunsAs m old new end → HasRun n k end → GivesLine err (end_answer v starts end) s
    → (end ≡ ends.Done → (s ≡ status.Done) × Got err []) → RunsTo (IsMeant v starts m) ⊥ (channel old new n k) err s
run_ends v starts m old new n k err end s never (RunsAs.ended wrote e x is got) cause line silent = ended_runs v starts old new n k err s wrote e x is got line silent
run_ends v starts m old new n k err end s never (RunsAs.failed wrote e front) cause line silent =
    let a = some_answer v starts wrote e (λ h. never wrote (ap (Ran wrote) h)) in
    RunsTo.cut a.0 a.1 (cause.failed refl) (λ some. subst (λ (x : List ℕ). GrowsByFront old new x) (sym a.2) (front some)) line

-- a run with a line is not done
pub run_quiet : (v : Abc) (starts : List (List ℕ)) (err : Channel) (end : End) (s : Status) → GivesLine err (end_answer v starts end) s → s ≡ status.Done → end ≡ ends.Done
run_quiet v starts err ends.Done s line d = refl
run_quiet v starts err (ends.Uncaught t) s (inl g) d = let k : s ≡ status.Uncaught = g.1 in absurd cc
run_quiet v starts err (ends.Uncaught t) s (inr g) d = let k : s ≡ status.WriteFault = g.2 in absurd cc
run_quiet v starts err (ends.Profile m i fault) s (inl g) d = let k : s ≡ status.Profile = g.1 in absurd cc
run_quiet v starts err (ends.Profile m i fault) s (inr g) d = let k : s ≡ status.WriteFault = g.2 in absurd cc
run_quiet v starts err ends.FuelSpent s (inl g) d = let k : s ≡ status.Fuel = g.1 in absurd cc
run_quiet v starts err ends.FuelSpent s (inr g) d = let k : s ≡ status.WriteFault = g.2 in absurd cc
run_quiet v starts err (ends.Full limit) s (inl g) d = let k : s ≡ status.Limit = g.1 in absurd cc
run_quiet v starts err (ends.Full limit) s (inr g) d = let k : s ≡ status.WriteFault = g.2 in absurd cc
run_quiet v starts err ends.WriteFault s (inl g) d = let k : s ≡ status.WriteFault = g.1 in absurd cc
run_quiet v starts err ends.WriteFault s (inr g) d = let k : s ≡ status.WriteFault = g.2 in absurd cc

-- ---- places

-- an instruction of a method has a place
has_place : (v : Abc) (starts : List (List ℕ)) (m i : ℕ) → ArePlaces v.bodies starts → IsInstruction v m i → HasCodePlace v starts m i
has_place v starts m i p at =
    let b = at.body in
    let long = p.each b (body_at v b) (slice_get-get_or v.bodies b no_body at.low) in
    let count = p.count in
    let low = at.low in
    let inside = at.inside in
    let here : (b < length starts) × (i < length (get_or starts b [])) = (omega (arith, count, low), omega (arith, long, inside)) in
    subst (λ (o : Option ℕ). (unwrap_or o 0 < length starts) × (i < length (get_or starts (unwrap_or o 0) []))) (sym at.of_method) here

end_placed : (v : Abc) (starts : List (List ℕ)) (wrote : List ℕ) (e : meant.End) (end : End) → ArePlaces v.bodies starts → ((n i : ℕ) (fault : Fault) → e ≡ meant.Profile n i fault → IsInstruction v n i) → IsEndOf e end → IsPlacedEnd v starts end
end_placed v starts wrote e ends.Done p at is = tt
end_placed v starts wrote e (ends.Uncaught t) p at is = tt
end_placed v starts wrote e (ends.Profile n i fault) p at is = has_place v starts n i p (at n i fault is)
end_placed v starts wrote e ends.FuelSpent p at is = tt
end_placed v starts wrote e (ends.Full limit) p at is = tt
end_placed v starts wrote e ends.WriteFault p at is = tt

pub run_placed : (v : Abc) (starts : List (List ℕ)) (m : Meaning) (old new : Option (List ℕ)) (end : End) → ArePlaces v.bodies starts
    → ((wrote : List ℕ) (n i : ℕ) (fault : Fault) → m ≡ Ran wrote (meant.Profile n i fault) → IsInstruction v n i) → RunsAs m old new end → IsPlacedEnd v starts end
run_placed v starts m old new end p at (RunsAs.ended wrote e x is got) = end_placed v starts wrote e x p (λ n i fault h. at wrote n i fault (ap (Ran wrote) h)) is
run_placed v starts m old new end p at (RunsAs.failed wrote e front) = tt

-- ---- no machine

-- a limit below what every run begins with
pub small_meant : (p : Setting) (limits : Limits) (fuel : ℕ) (limit : Limit) → too_small (first_world p limits).heap ≡ Some limit → meaning p limits fuel ≡ TooSmall limit
unfolding meaning
small_meant p limits fuel limit e = ap (λ (o : Option Limit). meaning_if o (runs_for p fuel (first_state p limits))) e

-- ---- a run that is done has no line

pub ended_quiet : (v : Abc) (starts : List (List ℕ)) (wrote : List ℕ) (e : meant.End) (a : Answer) → IsEnded v starts wrote e a → a.status ≡ status.Done → a.err ≡ []
ended_quiet v starts wrote meant.Done a is d = ap (λ (x : Answer). x.err) is
ended_quiet v starts wrote (meant.Uncaught t) a is d = let k = ap (λ (x : Answer). x.status) is in absurd cc
ended_quiet v starts wrote (meant.Profile m i fault) a is d = let k = ap (λ (x : Answer). x.status) is in absurd cc
ended_quiet v starts wrote meant.FuelSpent a is d = let k = ap (λ (x : Answer). x.status) is in absurd cc
ended_quiet v starts wrote (meant.Full limit) a is d = let k = ap (λ (x : Answer). x.status) is in absurd cc
ended_quiet v starts wrote meant.Stuck a is d = absurd is

pub meant_quiet : (v : Abc) (starts : List (List ℕ)) (m : Meaning) (a : Answer) → IsMeant v starts m a → a.status ≡ status.Done → a.err ≡ []
meant_quiet v starts (TooSmall limit) a is d = let k = ap (λ (x : Answer). x.status) is in absurd cc
meant_quiet v starts (Ran wrote e) a is d = ended_quiet v starts wrote e a is d

pub ended_not_usage : (v : Abc) (starts : List (List ℕ)) (wrote : List ℕ) (e : meant.End) (a : Answer) → IsEnded v starts wrote e a → a.status ≡ status.Usage → ⊥
ended_not_usage v starts wrote meant.Done a x e = let k = ap (λ (y : Answer). y.status) x in cc
ended_not_usage v starts wrote (meant.Uncaught t) a x e = let k = ap (λ (y : Answer). y.status) x in cc
ended_not_usage v starts wrote (meant.Profile m i fault) a x e = let k = ap (λ (y : Answer). y.status) x in cc
ended_not_usage v starts wrote meant.FuelSpent a x e = let k = ap (λ (y : Answer). y.status) x in cc
ended_not_usage v starts wrote (meant.Full limit) a x e = let k = ap (λ (y : Answer). y.status) x in cc
ended_not_usage v starts wrote meant.Stuck a x e = x

pub meant_not_usage : (v : Abc) (starts : List (List ℕ)) (m : Meaning) (a : Answer) → IsMeant v starts m a → a.status ≡ status.Usage → ⊥
meant_not_usage v starts (TooSmall limit) a x e = let k = ap (λ (y : Answer). y.status) x in cc
meant_not_usage v starts (Ran wrote end) a x e = ended_not_usage v starts wrote end a x e

-- the end that has no line
pub done_line : (v : Abc) (starts : List (List ℕ)) (end : End) (err : Channel) → end ≡ ends.Done → Got err [] → GivesLine err (end_answer v starts end) status.Done
done_line v starts end err e got = subst (λ (x : End). GivesLine err (end_answer v starts x) status.Done) (sym e) (inl (got, refl))

-- ---- a machine that was opened

pub unopened_quiet : (err : Channel) (e : OpenError) (s : Status) → GivesLine err (open_answer e) s → s ≡ status.Done → ⊥
unopened_quiet err errors.NoMemory s line d = told_quiet err status.NoMemory no_memory_text s (λ h. cc) line d
unopened_quiet err (errors.TooSmall limit) s line d = told_quiet err status.Limit (limit_text limit) s (λ h. cc) line d

-- a machine for a verified file can be run
pub machine_verified : (l : LinkedFile) (fs : List Formula) (limits : Limits) (m : Opened) → IsOpened l fs limits m → IsVerifiedOf l.file l → AreFormulas fs → IsVerifiedSetting (record { linked = m.linked; formulas = fs })
machine_verified l fs limits m is v host =
    let all : IsVerifiedSetting (record { linked = l; formulas = fs }) = record { fits = v.linked.fits; linked = v.linked; typed = v.typed; host = host } in
    subst (λ (x : LinkedFile). IsVerifiedSetting (record { linked = x; formulas = fs })) (sym (ap (λ (x : Opened). x.linked) is.is)) all

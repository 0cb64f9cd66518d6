-- How `gen` ends: a run of the generated file, and then the lines on it.
use Rattle.std.proofs.Common.{◌≡◌, ◌≢◌, ◌⊎◌, ℕ, ◌+◌, ◌≤◌, inl, inr, List, [], ◌++◌, Some, refl, sym, ap, subst, arith}
use Rattle.std.specs.declared.option.Option.{Option}
use Rattle.abc_base.specs.declared.formula.Formula.{Formula}
use Rattle.abc_base.specs.declared.status.Status.{Status}
use Rattle.abc_base.specs.declared.status.Status.TheVariants as status
use Rattle.abc_base.proofs.Writing.{front_first}
use Rattle.abc_bodies.specs.Places.{ArePlaces}
use Rattle.abc_cli_answers.specs.Generated.{generated_file}
use Rattle.abc_cli_answers.specs.Measured.{size_lines}
use Rattle.abc_cli_answers.specs.Placed.{IsReadAgain}
use Rattle.abc_meaning.specs.Meaning.{meaning}
use Rattle.abc_link_names.specs.Linked.{LinkedFile}
use Rattle.abc_file_types.specs.declared.tables.Abc.{Abc}
use Rattle.abc_file_types.specs.Files.{Fits, file_bytes}
use Rattle.abc_file_types.proofs.Whole.{read_spelled}
use Rattle.abc_cli_answers.specs.declared.command.GenOptions.{GenOptions}
use Rattle.abc_cli_answers.specs.Answers.{Answer, OfFileRead, On, Unverified, bytes_answer}
use Rattle.abc_cli_answers.specs.End.{Channel, channel, Got, GivesBytes, GivesLine, HasFailed, IsEnd, RunsTo}
use Rattle.abc_cli_answers.specs.Stops.{Stops, stop_answer, stop_of_verified}
use Rattle.abc_cli_answers.specs.declared.stop.Stop.{Stop}
use Rattle.abc_cli.specs.Runs.{Gen, RunOfFile, default_options}
use Rattle.abc_cli.specs.Meant.{IsMeant, limits_of}
use Rattle.abc_session.proofs.Pieces.{front_both, got_both}
use Rattle.abc_cli_answers.proofs.Ending.{bytes_failed, rose_later, weaker}
use Rattle.abc_cli_answers.proofs.Runs.{runs_weaker}
use Rattle.abc_cli_answers.proofs.Unverified.{verified_stops}
use Rattle.abc_cli.proofs.CommandRuns.{runs_not_usage, unverified_runs, verified_runs}
use Rattle.abc_verify.proofs.Verifying.{read_verified_is, unverified_refuses}
use Rattle.abc_verify.specs.FileRefusing.{IsUnverified, IsUnverifiedBy}
use Rattle.abc_verify.specs.Verified.{IsVerifiedOf}
use Rattle.abc_verify.specs.declared.verified_error.VerifiedError.{VerifiedError}
use Rattle.abc_verify.specs.declared.verified_error.VerifiedError.TheVariants as errors

-- ---- the bytes of a file that was made, as an input that would be read

-- nothing fails that isn't read
abbrev input_of : List ℕ → Channel
input_of bytes = channel (Some bytes) (Some bytes) 0 0

never_failed : (bytes : List ℕ) → HasFailed (input_of bytes) → ⊥
never_failed bytes r = omega (arith, r)

pub fits_again : (v : Abc) (starts : List (List ℕ)) → IsReadAgain v starts → Fits v
fits_again v starts again = (file_bytes v, (read_spelled (v, starts) (file_bytes v) again.0, again.1))

pub own_verified : (v : Abc) (l : LinkedFile) → IsVerifiedOf v l → IsVerifiedOf l.file l
own_verified v l is = record { file = refl; linked = is.linked; numbered = is.numbered; typed = is.typed }

pub own_places : (v : Abc) (l : LinkedFile) (starts : List (List ℕ)) → IsVerifiedOf v l → ArePlaces v.bodies starts → ArePlaces l.file.bodies starts
own_places v l starts is places = subst (λ (w : Abc). ArePlaces w.bodies starts) (sym is.file) places

-- a file that is there already isn't refused for a failed read
abbrev unread : VerifiedError → Type 0
unread errors.ReadFault = ⊥
unread other = Unit {0}

never_read : (v : Abc) (starts : List (List ℕ)) (e : VerifiedError) → IsUnverified v starts e → unread e
never_read v starts e (IsUnverified.unlinked rule i h) = tt
never_read v starts e (IsUnverified.untyped l m b i rule is linked numbered h) = tt

module _ (fs : List Formula) (v : Abc) (starts : List (List ℕ)) (again : IsReadAgain v starts) where
  abbrev AsRead : Answer → Type 0
  AsRead = On (OfFileRead (RunOfFile default_options fs)) (Some (file_bytes v))

  as_read : (F : Type 0) (out err : Channel) (s : Status) → (F → ⊥) → RunsTo AsRead F out err s → RunsTo (OfFileRead (RunOfFile default_options fs) (file_bytes v)) ⊥ out err s
  as_read F out err s never end = runs_weaker AsRead (OfFileRead (RunOfFile default_options fs) (file_bytes v)) F ⊥ out err s (λ a x. x) never end

  pub file_runs : (l : LinkedFile) (out err : Channel) (s : Status) → IsVerifiedOf v l
      → RunsTo (IsMeant l.file starts (meaning (record { linked = l; formulas = fs }) (limits_of default_options) default_options.fuel)) ⊥ out err s
      → RunsTo (OfFileRead (RunOfFile default_options fs) (file_bytes v)) ⊥ out err s
  file_runs l out err s is end =
      as_read ⊥ out err s (λ h. h) (verified_runs default_options fs l starts (Some (file_bytes v)) ⊥ out err s (read_verified_is (Some (file_bytes v)) v starts l again is) end)

  pub file_unverified : (e : VerifiedError) (stop : Stop) (out err : Channel) (s : Status) → IsUnverifiedBy v starts e → stop ≡ stop_of_verified e → Got out [] → GivesLine err (stop_answer stop) s
      → RunsTo (OfFileRead (RunOfFile default_options fs) (file_bytes v)) ⊥ out err s
  file_unverified e stop out err s h is got line =
      as_read (HasFailed (input_of (file_bytes v))) out err s (never_failed (file_bytes v))
      (unverified_runs default_options fs (input_of (file_bytes v)) out err stop s
      (subst (λ (x : Stop). Stops (OfFileRead Unverified) (input_of (file_bytes v)) x) (sym is)
      (verified_stops (input_of (file_bytes v)) e (unverified_refuses (Some (file_bytes v)) v starts e again h) (no_fault e h)))
      got line)
    where
      no_fault : (e : VerifiedError) → IsUnverifiedBy v starts e → e ≡ errors.ReadFault → HasFailed (input_of (file_bytes v))
      no_fault (errors.Refused place reason) h is = absurd cc
      no_fault (errors.Link rule i) h is = absurd cc
      no_fault (errors.Verify m offset rule) h is = absurd cc
      no_fault errors.ReadFault h is = absurd (never_read v starts errors.ReadFault h)
      no_fault errors.NoMemory h is = absurd cc

-- ---- one piece after the other

done_or : (t : Status) → (t ≡ status.Done) ⊎ (t ≢ status.Done)
done_or status.Done = inl refl
done_or t = inr (λ h. cc)

-- ---- the run, and the lines

module _ (o : GenOptions) (fs : List Formula) where
  abbrev Ran : Answer → Type 0
  Ran = OfFileRead (RunOfFile default_options fs) (file_bytes (generated_file o.seed o.methods))

  abbrev lines : List ℕ
  lines = size_lines (generated_file o.seed o.methods)

  -- a run that isn't done
  undone : (out err : Channel) (s : Status) → RunsTo Ran ⊥ out err s → s ≢ status.Done → IsEnd (Gen o fs) ⊥ out err s
  undone out err s (RunsTo.done a x d got e is) not = absurd (not is)
  undone out err s (RunsTo.other end) not = weaker (λ a. Ran a × (a.status ≢ status.Done)) (Gen o fs) ⊥ ⊥ out err s (λ a x. Gen.not_done x.0 x.1) (λ h. h) end
  undone out err s (RunsTo.cut a x rose front line) not = go (done_or a.status)
    where
      go : (a.status ≡ status.Done) ⊎ (a.status ≢ status.Done) → IsEnd (Gen o fs) ⊥ out err s
      go (inl e) = bytes_failed (Gen o fs) ⊥ out err (bytes_answer (a.out ++ lines)) s (Gen.done a x e refl) rose (λ some. front_first out.before out.after a.out lines (front some)) line
      go (inr is_other) = bytes_failed (Gen o fs) ⊥ out err a s (Gen.not_done x is_other) rose front line

  -- a run that is done wrote all of an answer that is
  record IsDone (out : Channel) : Type 0 where
    answer : Answer
    ran : Ran answer
    is : answer.status ≡ status.Done
    got : Got out answer.out

  other_undone : (out err : Channel) (s : Status) → IsEnd (λ a. Ran a × (a.status ≢ status.Done)) ⊥ out err s → s ≡ status.Done → ⊥
  other_undone out err s (IsEnd.defined a x y z) e = x.1 e
  other_undone out err s (IsEnd.read_fault x y z) e = x
  other_undone out err s (IsEnd.no_memory y z) e = cc
  other_undone out err s (IsEnd.out_failed a x y z w) e = cc
  other_undone out err s (IsEnd.both_failed a x y z w v) e = cc
  other_undone out err s (IsEnd.line_failed a x y z w) e = cc
  other_undone out err s (IsEnd.read_line_failed x y z w) e = x
  other_undone out err s (IsEnd.memory_line_failed y z w) e = cc

  is_done : (out err : Channel) (s : Status) → RunsTo Ran ⊥ out err s → s ≡ status.Done → IsDone out
  is_done out err s (RunsTo.done a x d got e is) f = record { answer = a; ran = x; is = d; got = got }
  is_done out err s (RunsTo.other end) f = absurd (other_undone out err s end f)
  is_done out err s (RunsTo.cut a x rose front (inl line)) f = let k : s ≡ status.WriteFault = line.1 in absurd cc
  is_done out err s (RunsTo.cut a x rose front (inr line)) f = let k : s ≡ status.WriteFault = line.2 in absurd cc

  -- and then the lines are given
  then_lines : (old mid new : Option (List ℕ)) (n m k : ℕ) (before err : Channel) (r s : Status) → RunsTo Ran ⊥ (channel old mid n m) before r → r ≡ status.Done → n ≤ m → GivesBytes (channel mid new m k) err lines s
      → IsEnd (Gen o fs) ⊥ (channel old new n k) err s
  then_lines old mid new n m k before err r s x d le (inl g) =
      let b = is_done (channel old mid n m) before r x d in
      subst (λ (t : Status). IsEnd (Gen o fs) ⊥ (channel old new n k) err t) (sym g.2)
      (IsEnd.defined (bytes_answer (b.answer.out ++ lines)) (Gen.done b.answer b.ran b.is refl) (got_both old mid new b.answer.out lines b.got g.0) g.1)
  then_lines old mid new n m k before err r s x d le (inr g) =
      let b = is_done (channel old mid n m) before r x d in
      bytes_failed (Gen o fs) ⊥ (channel old new n k) err (bytes_answer (b.answer.out ++ lines)) s (Gen.done b.answer b.ran b.is refl) (rose_later n m k le g.0) (front_both old mid new b.answer.out lines b.got g.1) g.2

-- ---- the file and the lines that were made

pub made_undone : (o : GenOptions) (fs : List Formula) (v : Abc) (out err : Channel) (s : Status) → v ≡ generated_file o.seed o.methods → RunsTo (OfFileRead (RunOfFile default_options fs) (file_bytes v)) ⊥ out err s → s ≢ status.Done
    → IsEnd (Gen o fs) ⊥ out err s
made_undone o fs v out err s e x not = undone o fs out err s (subst (λ (w : Abc). RunsTo (OfFileRead (RunOfFile default_options fs) (file_bytes w)) ⊥ out err s) e x) not

pub made_done : (o : GenOptions) (fs : List Formula) (v : Abc) (made : List ℕ) (old mid new : Option (List ℕ)) (n m k : ℕ) (before err : Channel) (r s : Status) → v ≡ generated_file o.seed o.methods → made ≡ size_lines (generated_file o.seed o.methods)
    → RunsTo (OfFileRead (RunOfFile default_options fs) (file_bytes v)) ⊥ (channel old mid n m) before r → r ≡ status.Done → n ≤ m → GivesBytes (channel mid new m k) err made s → IsEnd (Gen o fs) ⊥ (channel old new n k) err s
made_done o fs v made old mid new n m k before err r s e f x d le given_lines =
    then_lines o fs old mid new n m k before err r s (subst (λ (w : Abc). RunsTo (OfFileRead (RunOfFile default_options fs) (file_bytes w)) ⊥ (channel old mid n m) before r) e x) d le
    (subst (λ (l : List ℕ). GivesBytes (channel mid new m k) err l s) f given_lines)

-- ---- it is no answer to words

pub gen_not_usage : (o : GenOptions) (fs : List Formula) (a : Answer) → Gen o fs a → a.status ≡ status.Usage → ⊥
gen_not_usage o fs a (Gen.done b x d is) e = let h = ap (λ (y : Answer). y.status) is in cc
gen_not_usage o fs a (Gen.not_done x d) e = runs_not_usage default_options fs (file_bytes (generated_file o.seed o.methods)) a x e

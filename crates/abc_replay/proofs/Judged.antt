-- What a comparison says of the input.
use Rattle.std.proofs.Common.{◌≡◌, ◌⊎◌, ℕ, ◌≤◌, List, [], Ok, Err, None, Some, refl, sym, subst, ◌∙◌}
use Rattle.std.specs.Prelude.{IfErr, IfOk}
use Rattle.std.specs.Io.KnownBytes.{Consumes, IsAtEnd}
use Rattle.std.specs.declared.option.Option.{Option}
use Rattle.std.specs.declared.result.Result.{Result}
use Rattle.abc_base.specs.Faults.{Rose}
use Rattle.abc_base.specs.Hosts.{AreFormulas}
use Rattle.abc_base.specs.declared.formula.Formula.{Formula}
use Rattle.abc_log.specs.declared.compare.Verdict.{Verdict}
use Rattle.abc_log.specs.declared.compare.Verdict.TheVariants as verdicts
use Rattle.abc_file.specs.Reading.{IsUsedUp, OfInput}
use Rattle.abc_log.specs.declared.limits.LimitsLine.{LimitsLine}
use Rattle.abc_meaning.specs.Logs.{log, steps}
use Rattle.abc_log.specs.Checks.{IsCompared, IsLogFault}
use Rattle.abc_log.specs.declared.check.LogFault.{LogFault}
use Rattle.abc_log.specs.declared.check.LogFault.TheVariants as faults
use Rattle.abc_log.proofs.Judging.{all_there, has_cause}
use Rattle.abc_meaning.specs.Openings.{setting}
use Rattle.abc_link_names.specs.Linked.{LinkedFile}
use Rattle.abc_replay.specs.Prefaces.{AnswersLog, HasPreface, RefusesAny, error_of_log}
use Rattle.abc_replay.specs.Replays.{IsLogRefusedBy, IsReplayed}
use Rattle.abc_replay.specs.declared.error.ReplayError.{ReplayError}
use Rattle.abc_replay.specs.declared.error.ReplayError.TheVariants as errors
use Rattle.abc_replay.proofs.Found.{rose_before}
use Rattle.abc_replay.proofs.Logged.{refuses, replays, used_up}

-- a failed read is told as such
pub read_told : (place : ℕ) (f : LogFault) → error_of_log place f ≡ errors.ReadFault → f ≡ faults.ReadFault
read_told place (faults.Differs n) same = absurd (cc)
read_told place faults.ReadFault same = refl

-- what is refused beside any host is refused beside this one
pub any_refuses : (formulas : List Formula) (old : Option (List ℕ)) (e : ReplayError) → AreFormulas formulas → RefusesAny old e → OfInput old (λ input. IsLogRefusedBy formulas input e)
unfolding RefusesAny
any_refuses formulas old e formed refused = refused formulas formed

abbrev pub EndsSame : Verdict → (left new : Option (List ℕ)) → Result ℕ ReplayError → Type 0
EndsSame v left new r = IfOk r (λ _. (v ≡ verdicts.Same) × Consumes left new [] × IsAtEnd new)

abbrev pub HasFault : (place : ℕ) → Verdict → (left : Option (List ℕ)) → (agreed : ℕ) → Result ℕ ReplayError → Type 0
HasFault place v left agreed r = IfErr r (λ e. (f : LogFault) × (e ≡ error_of_log place f) × IsLogFault v left agreed f)

module _ (formulas : List Formula) (old mid left new : Option (List ℕ)) (l : LinkedFile) (line : LimitsLine) (place k before faulty agreed : ℕ) (v : Verdict) (formed : AreFormulas formulas) (preface : HasPreface old mid l line place)
    (compared : IsCompared (log (setting l formulas) line.limits line.fuel) (steps (setting l formulas) line.limits line.fuel) k mid before left faulty agreed v) where
  pub is_replayed : (r : Result ℕ ReplayError) → IfOk r (λ n. n ≡ k) → EndsSame v left new r → IfOk r (λ n. OfInput old (λ input. IsReplayed formulas input n))
  is_replayed (Ok n) same end =
      let all = all_there (log (setting l formulas) line.limits line.fuel) (steps (setting l formulas) line.limits line.fuel) k mid left new before faulty agreed v compared end in
      replays formulas old mid new l line place n formed preface all.0 all.1 (same ∙ all.2)
  is_replayed (Err e) same end = tt

  pub is_used_up : (r : Result ℕ ReplayError) → EndsSame v left new r → IfOk r (λ _. IsUsedUp old new)
  is_used_up (Ok n) end =
      let all = all_there (log (setting l formulas) line.limits line.fuel) (steps (setting l formulas) line.limits line.fuel) k mid left new before faulty agreed v compared end in
      used_up old mid new l line place (log (setting l formulas) line.limits line.fuel) preface all.0 all.1
  is_used_up (Err e) end = tt

  pub is_refused : (r : Result ℕ ReplayError) → HasFault place v left agreed r → IfErr r (λ e. OfInput old (λ input. IsLogRefusedBy formulas input e))
  is_refused (Ok n) fault = tt
  is_refused (Err e) fault =
      subst (λ (x : ReplayError). OfInput old (λ input. IsLogRefusedBy formulas input x)) (sym fault.1)
      (refuses formulas old mid left l line place (steps (setting l formulas) line.limits line.fuel) k before faulty agreed v fault.0 formed preface compared fault.2)

  pub is_caused : (first now : ℕ) → first ≤ before → faulty ≤ now → (v ≡ verdicts.ReadFault) ⊎ Rose faulty now → Rose first now
  is_caused first now earlier later cause =
      rose_before first before now earlier (has_cause (log (setting l formulas) line.limits line.fuel) (steps (setting l formulas) line.limits line.fuel) k mid left before faulty now agreed v compared later cause)

-- ---- what is answered of a log

module _ (formulas : List Formula) (mid left new : Option (List ℕ)) (l : LinkedFile) (line : LimitsLine) (place k before faulty agreed : ℕ) (v : Verdict) (formed : AreFormulas formulas)
    (compared : IsCompared (log (setting l formulas) line.limits line.fuel) (steps (setting l formulas) line.limits line.fuel) k mid before left faulty agreed v) where
  pub answers_log : (r : Result ℕ ReplayError) → IfOk r (λ n. n ≡ k) → EndsSame v left new r → HasFault place v left agreed r → AnswersLog formulas mid l line place new r
  answers_log r same end fault = record {
    replayed = λ old preface. is_replayed formulas old mid left new l line place k before faulty agreed v formed preface compared r same end;
    end = λ old preface. is_used_up formulas old mid left new l line place k before faulty agreed v formed preface compared r end;
    refused = λ old preface. is_refused formulas old mid left new l line place k before faulty agreed v formed preface compared r fault;
  }

free : (formulas : List Formula) (old : Option (List ℕ)) → OfInput old (λ input. IsLogRefusedBy formulas input errors.NoMemory)
free formulas None = ([], tt)
free formulas (Some input) = tt

pub no_memory_answers : (formulas : List Formula) (mid new : Option (List ℕ)) (l : LinkedFile) (line : LimitsLine) (place : ℕ) → AnswersLog formulas mid l line place new (Err errors.NoMemory)
no_memory_answers formulas mid new l line place = record { replayed = λ old preface. tt; end = λ old preface. tt; refused = λ old preface. free formulas old }

-- ---- a source that is taken a block ahead, and what is below it

used_up_below : (old new below : Option (List ℕ)) (r : Result ℕ ReplayError) → (new ≡ Some [] → below ≡ Some []) → IfOk r (λ _. IsUsedUp old new) → IfOk r (λ _. IsUsedUp old below)
used_up_below old new below (Err e) none used = tt
used_up_below None new below (Ok n) none used = tt
used_up_below (Some bytes) new below (Ok n) none used = none used

pub answers_below : (formulas : List Formula) (mid ahead new below : Option (List ℕ)) (l : LinkedFile) (line : LimitsLine) (place : ℕ) (r : Result ℕ ReplayError) → ahead ≡ mid → (new ≡ Some [] → below ≡ Some [])
    → AnswersLog formulas ahead l line place new r → AnswersLog formulas mid l line place below r
answers_below formulas mid ahead new below l line place r same none a =
    let here = λ (old : Option (List ℕ)) (preface : HasPreface old mid l line place). subst (λ (m : Option (List ℕ)). HasPreface old m l line place) (sym same) preface in
    record {
      replayed = λ old preface. a.replayed old (here old preface);
      end = λ old preface. used_up_below old new below r none (a.end old (here old preface));
      refused = λ old preface. a.refused old (here old preface);
    }

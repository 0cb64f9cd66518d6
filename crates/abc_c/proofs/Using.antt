-- What comes of a whole use.
use Rattle.std.proofs.Common.{◌≡◌, ◌≢◌, ℕ, List, [], length, min, take, refl, sym, ap, ◌∙◌, subst}
use Rattle.std.specs.Prelude.{Some}
use Rattle.abc_base.specs.Sinks.{GrowsByFront}
use Rattle.abc_base.specs.declared.status.Status.{Status}
use Rattle.abc_base.specs.declared.status.Status.TheVariants as status
use Rattle.abc_machine.specs.Machines.{Opened}
use Rattle.abc_machine.specs.declared.ends.End.{End}
use Rattle.abc_machine.specs.declared.ends.End.TheVariants.{Done}
use Rattle.abc_verify.specs.FileRefusing.{IsFileRefused}
use Rattle.abc_verify.specs.declared.verified_error.VerifiedError.{VerifiedError}
use Rattle.abc_c.specs.Answered.{AreAnswered, end_status}
use Rattle.abc_c.specs.Outcome.{ComesOfUse, IsStarted, IsTooSmall, IsUsed, RunsAndAnswers, Use, reason_of, refusal_of, no_refusal}
use Rattle.abc_c.specs.Outcome as came
use Rattle.abc_c.specs.declared.crossing.Answer.{Answer}
use Rattle.abc_c.specs.declared.crossing.Call.{Call}
use Rattle.abc_c.specs.declared.crossing.Refusal.{Refusal}

-- ---- the run of the script, and the calls after it

module _ (fuel : ℕ) (names : List ℕ) (calls : List Call) (opened started : Opened) (before wrote : List ℕ) (end : End) (s : Status) (fresh : before ≡ []) (starts : IsStarted opened started fuel end before wrote) (is : s ≡ end_status end) where
  started_so : IsStarted opened started fuel end [] wrote
  started_so = subst (λ (x : List ℕ). IsStarted opened started fuel end x wrote) fresh starts

  pub runs_done : (last : Opened) (old answers : List Answer) (answered : ℕ) (written : List ℕ) → end ≡ Done → answered ≡ min (length calls) (length old) → length answers ≡ length old
      → AreAnswered names started (take answered calls) (take answered answers) wrote last written → RunsAndAnswers opened fuel names calls answers s answered written
  runs_done last old answers answered written done count room made = record {
    end = end;
    status = is;
    started = started;
    wrote = wrote;
    starts = started_so;
    last = last;
    answered_so = λ e. (count ∙ ap (min (length calls)) (sym room), made);
    none = λ not. absurd (not done);
  }

  pub runs_ended : (answers : List Answer) (answered : ℕ) → end ≢ Done → answered ≡ 0 → RunsAndAnswers opened fuel names calls answers s answered wrote
  runs_ended answers answered not none = record {
    end = end;
    status = is;
    started = started;
    wrote = wrote;
    starts = started_so;
    last = started;
    answered_so = λ e. absurd (not e);
    none = λ e. (none, refl);
  }

-- ---- what came, by its parts

module _ (u : Use) (answers : List Answer) (s : Status) (r : Refusal) (answered : ℕ) (written : List ℕ) where
  by_parts : (x : Status) (y : Refusal) (n : ℕ) (bytes : List ℕ) → s ≡ x → r ≡ y → answered ≡ n → written ≡ bytes → ComesOfUse u answers x y n bytes → ComesOfUse u answers s r answered written
  by_parts x y n bytes a b c d comes =
      subst (λ (z : Status). ComesOfUse u answers z r answered written) (sym a)
      (subst (λ (z : Refusal). ComesOfUse u answers x z answered written) (sym b)
      (subst (λ (z : ℕ). ComesOfUse u answers x y z written) (sym c) (subst (λ (z : List ℕ). ComesOfUse u answers x y n z) (sym d) comes)))

  pub came_used : r ≡ no_refusal → IsUsed u answers s answered written → ComesOfUse u answers s r answered written
  came_used b used = by_parts s no_refusal answered written refl b refl refl (came.used s answered written used)

  pub came_refused : (e : VerifiedError) → s ≡ status.Refused → r ≡ refusal_of e → answered ≡ 0 → IsFileRefused u.file e → GrowsByFront (Some []) (Some written) (reason_of e) → ComesOfUse u answers s r answered written
  came_refused e a b c refused front = by_parts status.Refused (refusal_of e) 0 written a b c refl (came.refused e written refused front)

  pub came_limited : s ≡ status.Limit → r ≡ no_refusal → answered ≡ 0 → written ≡ [] → IsTooSmall u.file u.bounds → ComesOfUse u answers s r answered written
  came_limited a b c d small = by_parts status.Limit no_refusal 0 [] a b c d (came.limited small)

  pub came_nowhere : s ≡ status.NoMemory → r ≡ no_refusal → answered ≡ 0 → written ≡ [] → ComesOfUse u answers s r answered written
  came_nowhere a b c d = by_parts status.NoMemory no_refusal 0 [] a b c d came.no_memory

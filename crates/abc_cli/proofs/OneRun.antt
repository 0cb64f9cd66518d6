-- Two answers of a command that verifies the file of its input, or runs it.
use Rattle.std.proofs.Common.{◌≡◌, ◌≢◌, inl, inr, ℕ, List, ◌++◌, Some, None, sym, ap, subst, ◌∙◌}
use Rattle.std.specs.declared.option.Option.{Option}
use Rattle.abc_base.specs.declared.formula.Formula.{Formula}
use Rattle.abc_base.specs.declared.status.Status.TheVariants as status
use Rattle.abc_file_types.specs.Files.{IsFileRead, file_bytes}
use Rattle.abc_file_types.specs.declared.tables.Abc.{Abc}
use Rattle.abc_heap_store.specs.declared.records.Limit.{Limit}
use Rattle.abc_link_names.specs.Linked.{LinkedFile}
use Rattle.abc_meaning.specs.Meaning.{Meaning, Ran, TooSmall, meaning}
use Rattle.abc_meaning.specs.Setting.{Setting}
use Rattle.abc_meaning.specs.Throwing.{Done, End, FuelSpent, Full, Profile, Stuck, Uncaught}
use Rattle.abc_session.specs.Ticks.{calls_meaning}
use Rattle.abc_verify.proofs.Single.{one_verified}
use Rattle.abc_cli_answers.specs.Answers.{Answer, OfFileRead, bytes_answer, line_answer}
use Rattle.abc_cli_answers.specs.Generated.{generated_file}
use Rattle.abc_cli_answers.specs.Lines.{limit_text}
use Rattle.abc_cli_answers.specs.Measured.{size_lines}
use Rattle.abc_cli_answers.specs.declared.command.CallsOptions.{CallsOptions}
use Rattle.abc_cli_answers.specs.declared.command.GenOptions.{GenOptions}
use Rattle.abc_cli_answers.specs.declared.command.RunOptions.{RunOptions}
use Rattle.abc_cli.specs.Answered.{AreAlikeAnswers, NameOneMethod}
use Rattle.abc_cli.specs.Calls.{Calls, IsCalled}
use Rattle.abc_cli.specs.Logs.{IsLogged, Log, whole_log}
use Rattle.abc_cli.specs.Meant.{IsEnded, IsMeant, limits_of}
use Rattle.abc_cli.specs.Outcome.{Check}
use Rattle.abc_cli.specs.Runs.{Gen, RunOfFile, default_options}
use Rattle.abc_cli.proofs.OneFile.{both_unverified, not_both, one_of_read}

-- ---- one meaning

one_ended : (v : Abc) (starts : List (List ℕ)) (wrote : List ℕ) (end : End) (a b : Answer) → IsEnded v starts wrote end a → IsEnded v starts wrote end b → a ≡ b
one_ended v starts wrote Done a b x y = x ∙ sym y
one_ended v starts wrote (Uncaught t) a b x y = x ∙ sym y
one_ended v starts wrote (Profile m i fault) a b x y = x ∙ sym y
one_ended v starts wrote FuelSpent a b x y = x ∙ sym y
one_ended v starts wrote (Full limit) a b x y = x ∙ sym y
one_ended v starts wrote Stuck a b x y = absurd x

one_meant : (v : Abc) (starts : List (List ℕ)) (m : Meaning) (a b : Answer) → IsMeant v starts m a → IsMeant v starts m b → a ≡ b
one_meant v starts (TooSmall limit) a b x y = x ∙ sym y
one_meant v starts (Ran wrote end) a b x y = one_ended v starts wrote end a b x y

one_logged : (v : Abc) (starts : List (List ℕ)) (wrote : List ℕ) (m : Meaning) (a b : Answer) → IsLogged v starts wrote m a → IsLogged v starts wrote m b → a ≡ b
one_logged v starts wrote (TooSmall limit) a b x y = x ∙ sym y
one_logged v starts wrote (Ran output end) a b x y = one_ended v starts wrote end a b x y

-- ---- the commands

abbrev setting_of : LinkedFile → List Formula → Setting
setting_of l formulas = record { linked = l; formulas = formulas }

pub one_check : (file : List ℕ) (v : Abc) (starts : List (List ℕ)) (a b : Answer) → IsFileRead (v, starts) file → Check v starts a → Check v starts b → AreAlikeAnswers file a b
one_check file v starts a b read (Check.unverified x) (Check.unverified y) = both_unverified file v starts a b read x y
one_check file v starts a b read (Check.unverified x) (Check.verified l is y) = absurd (not_both v starts l a is x)
one_check file v starts a b read (Check.verified l is x) (Check.unverified y) = absurd (not_both v starts l b is y)
one_check file v starts a b read (Check.verified l is x) (Check.verified k is2 y) = inl (x ∙ sym y)

pub one_run : (o : RunOptions) (formulas : List Formula) (file : List ℕ) (v : Abc) (starts : List (List ℕ)) (a b : Answer) → IsFileRead (v, starts) file → RunOfFile o formulas v starts a → RunOfFile o formulas v starts b → AreAlikeAnswers file a b
one_run o formulas file v starts a b read (RunOfFile.unverified x) (RunOfFile.unverified y) = both_unverified file v starts a b read x y
one_run o formulas file v starts a b read (RunOfFile.unverified x) (RunOfFile.ran l is y) = absurd (not_both v starts l a is x)
one_run o formulas file v starts a b read (RunOfFile.ran l is x) (RunOfFile.unverified y) = absurd (not_both v starts l b is y)
one_run o formulas file v starts a b read (RunOfFile.ran l is x) (RunOfFile.ran k is2 y) =
    inl (one_meant v starts (meaning (setting_of l formulas) (limits_of o) o.fuel) a b x (subst (λ z. IsMeant v starts (meaning (setting_of z formulas) (limits_of o) o.fuel) b) (one_verified v k l is2 is) y))

pub one_log : (o : RunOptions) (formulas : List Formula) (file : List ℕ) (v : Abc) (starts : List (List ℕ)) (a b : Answer) → IsFileRead (v, starts) file → Log o formulas v starts a → Log o formulas v starts b → AreAlikeAnswers file a b
one_log o formulas file v starts a b read (Log.unverified x) (Log.unverified y) = both_unverified file v starts a b read x y
one_log o formulas file v starts a b read (Log.unverified x) (Log.logged l is y) = absurd (not_both v starts l a is x)
one_log o formulas file v starts a b read (Log.logged l is x) (Log.unverified y) = absurd (not_both v starts l b is y)
one_log o formulas file v starts a b read (Log.logged l is x) (Log.logged k is2 y) =
    inl (one_logged v starts (whole_log (setting_of l formulas) (limits_of o) o.fuel) (meaning (setting_of l formulas) (limits_of o) o.fuel) a b x
    (subst (λ z. IsLogged v starts (whole_log (setting_of z formulas) (limits_of o) o.fuel) (meaning (setting_of z formulas) (limits_of o) o.fuel) b) (one_verified v k l is2 is) y))

some_none : {A : Type 0} {x : A} {o : Option A} → o ≡ Some x → o ≡ None → ⊥
some_none {x = x} e f = let g : Some x ≡ None = sym e ∙ f in cc

same_some : {A : Type 0} {x y : A} {o : Option A} → o ≡ Some x → o ≡ Some y → x ≡ y
same_some {x = x} {y = y} e f = let g : Some x ≡ Some y = sym e ∙ f in cc

one_called : (o : CallsOptions) (p : Setting) (starts : List (List ℕ)) (a b : Answer) → IsCalled o p starts a → IsCalled o p starts b → a ≡ b
one_called o p starts a b (IsCalled.unopened limit small x) (IsCalled.unopened other small2 y) = x ∙ ap (λ (l : Limit). line_answer status.Limit (limit_text l)) (same_some small small2) ∙ sym y
one_called o p starts a b (IsCalled.unopened limit small x) (IsCalled.unexported there none y) = absurd (some_none small there)
one_called o p starts a b (IsCalled.unopened limit small x) (IsCalled.ran method there some y) = absurd (some_none small there)
one_called o p starts a b (IsCalled.unexported there none x) (IsCalled.unopened limit small y) = absurd (some_none small there)
one_called o p starts a b (IsCalled.unexported there none x) (IsCalled.unexported there2 none2 y) = x ∙ sym y
one_called o p starts a b (IsCalled.unexported there none x) (IsCalled.ran method there2 some y) = absurd (some_none some none)
one_called o p starts a b (IsCalled.ran method there some x) (IsCalled.unopened limit small y) = absurd (some_none small there)
one_called o p starts a b (IsCalled.ran method there some x) (IsCalled.unexported there2 none y) = absurd (some_none some none)
one_called o p starts a b (IsCalled.ran method there some x) (IsCalled.ran other there2 some2 y) =
    one_meant p.linked.file starts (calls_meaning p (limits_of o.run) o.run.fuel o.times method) a b x (subst (λ m. IsMeant p.linked.file starts (calls_meaning p (limits_of o.run) o.run.fuel o.times m) b) (same_some some2 some) y)

pub one_calls : (o : CallsOptions) (formulas : List Formula) (file : List ℕ) (v : Abc) (starts : List (List ℕ)) (a b : Answer) → IsFileRead (v, starts) file → Calls o formulas v starts a → Calls o formulas v starts b → AreAlikeAnswers file a b
one_calls o formulas file v starts a b read (Calls.unverified x) (Calls.unverified y) = both_unverified file v starts a b read x y
one_calls o formulas file v starts a b read (Calls.unverified x) (Calls.verified l is y) = absurd (not_both v starts l a is x)
one_calls o formulas file v starts a b read (Calls.verified l is x) (Calls.unverified y) = absurd (not_both v starts l b is y)
one_calls o formulas file v starts a b read (Calls.verified l is x) (Calls.verified k is2 y) =
    inl (one_called o (setting_of l formulas) starts a b x (subst (λ z. IsCalled o (setting_of z formulas) starts b) (one_verified v k l is2 is) y))

-- ---- `gen`

never_done : {file : List ℕ} {a b : Answer} → NameOneMethod file a b → ((a.status ≡ status.Done → ⊥) × (b.status ≡ status.Done → ⊥))
never_done n = (λ e. clash (sym (ap (λ (y : Answer). y.status) n.first.is) ∙ e), λ e. clash (sym (ap (λ (y : Answer). y.status) n.second.is) ∙ e))
  where
    clash : status.Refused ≡ status.Done → ⊥
    clash e = cc

pub one_gen : (o : GenOptions) (formulas : List Formula) (a b : Answer) → Gen o formulas a → Gen o formulas b → AreAlikeAnswers (file_bytes (generated_file o.seed o.methods)) a b
one_gen o formulas a b g h = go g h
  where
    alike : (c d : Answer) → OfFileRead (RunOfFile default_options formulas) (file_bytes (generated_file o.seed o.methods)) c → OfFileRead (RunOfFile default_options formulas) (file_bytes (generated_file o.seed o.methods)) d → AreAlikeAnswers (file_bytes (generated_file o.seed o.methods)) c d
    alike c d r s = one_of_read (RunOfFile default_options formulas) (file_bytes (generated_file o.seed o.methods)) (λ v starts x y f. one_run default_options formulas (file_bytes (generated_file o.seed o.methods)) v starts x y f) c d r s

    both : (c d : Answer) → c.status ≡ status.Done → a ≡ bytes_answer (c.out ++ size_lines (generated_file o.seed o.methods)) → b ≡ bytes_answer (d.out ++ size_lines (generated_file o.seed o.methods)) → AreAlikeAnswers (file_bytes (generated_file o.seed o.methods)) c d → a ≡ b
    both c d done x y (inl e) = x ∙ ap (λ (q : Answer). bytes_answer (q.out ++ size_lines (generated_file o.seed o.methods))) e ∙ sym y
    both c d done x y (inr n) = absurd ((never_done n).0 done)

    first : (c d : Answer) → c.status ≡ status.Done → d.status ≢ status.Done → AreAlikeAnswers (file_bytes (generated_file o.seed o.methods)) c d → ⊥
    first c d done other (inl e) = other (sym (ap (λ (q : Answer). q.status) e) ∙ done)
    first c d done other (inr n) = (never_done n).0 done

    second : (c d : Answer) → c.status ≢ status.Done → d.status ≡ status.Done → AreAlikeAnswers (file_bytes (generated_file o.seed o.methods)) c d → ⊥
    second c d other done (inl e) = other (ap (λ (q : Answer). q.status) e ∙ done)
    second c d other done (inr n) = (never_done n).1 done

    go : Gen o formulas a → Gen o formulas b → AreAlikeAnswers (file_bytes (generated_file o.seed o.methods)) a b
    go (Gen.done c r done x) (Gen.done d s done2 y) = inl (both c d done x y (alike c d r s))
    go (Gen.done c r done x) (Gen.not_done s other) = absurd (first c b done other (alike c b r s))
    go (Gen.not_done r other) (Gen.done d s done y) = absurd (second a d other done (alike a d r s))
    go (Gen.not_done r other) (Gen.not_done s other2) = alike a b r s

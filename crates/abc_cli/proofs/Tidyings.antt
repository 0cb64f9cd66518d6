-- What a run of `tidy` that ends well leaves in `out`.
use Rattle.std.proofs.Common.{◌≡◌, ℕ, List, Err, Ok, ap, subst, ◌∙◌}
use Rattle.abc_base.specs.declared.formula.Formula.{Formula}
use Rattle.abc_base.specs.declared.status.Status.{Status}
use Rattle.abc_base.specs.declared.status.Status.TheVariants as status
use Rattle.abc_file_types.specs.Files.{IsFile, file_bytes}
use Rattle.abc_file_types.specs.declared.tables.Abc.{Abc}
use Rattle.abc_file_types.proofs.Whole.{canonical_file, decided}
use Rattle.abc_tidy.proofs.Kept.{answered, kept}
use Rattle.abc_tidy_entries.specs.Rules.{IsTidied}
use Rattle.abc_tidy_entries.specs.declared.error.TidyError.TheVariants as errors
use Rattle.abc_verify.proofs.Verifying.{of_any}
use Rattle.abc_cli_answers.specs.Answers.{Answer, OfFile, bytes_answer}
use Rattle.abc_cli_answers.specs.End.{Channel, Ends, Got, HasFailed}
use Rattle.abc_cli_answers.specs.declared.command.Command.TheVariants as commands
use Rattle.abc_cli.specs.Outcome.{CommandOutcome, OutcomeOf, Tidy}
use Rattle.abc_cli.specs.Tidied.{IsMadeTidy, IsTidiedOf, Tidies}
use Rattle.abc_cli.proofs.Listings.{ended_well}

-- a tidied file is tidied as it stands
tidy_again : (v t : Abc) (a : Answer) → IsTidied v t → Tidy t a → a ≡ bytes_answer (file_bytes t)
tidy_again v t a is (Tidy.tidied u tidied x) = x ∙ ap (λ (w : Abc). bytes_answer (file_bytes w)) (answered v t (Ok u) is tidied)
tidy_again v t a is (Tidy.untidy rule i broken x) = let k : errors.Refused rule i ≡ errors.NoMemory = answered v t (Err (errors.Refused rule i)) is broken in absurd cc

bytes_again : (v t : Abc) (a : Answer) → IsTidied v t → IsFile t (file_bytes t) → OfFile Tidy (file_bytes t) a → a ≡ bytes_answer (file_bytes t)
bytes_again v t a is spelled (OfFile.accepted w g x) = tidy_again v t a is (subst (λ (u : Abc). Tidy u a) ((decided (file_bytes t)).one_value w t g spelled) x)
bytes_again v t a is spelled (OfFile.refused r bad x) = absurd ((decided (file_bytes t)).never_both t r spelled bad)

tidied_of : (v t : Abc) → IsTidied v t → IsTidiedOf (file_bytes t) v
tidied_of v t is =
    let spelled = (canonical_file t is.fits.0 is.fits.1).0 in
    record { value = t; spelled = spelled; kept = kept v t is; again = λ a. bytes_again v t a is spelled }

made : (out : Channel) (v : Abc) (a : Answer) → Got out a.out → a.status ≡ status.Done → (input : List ℕ) → IsFile v input → Tidy v a → IsMadeTidy out input
made out v a got done input f (Tidy.tidied t is x) = record {
  value = v;
  bytes = file_bytes t;
  read = f;
  got = subst (λ (y : Answer). Got out y.out) x got;
  tidied = tidied_of v t is;
}
made out v a got done input f (Tidy.untidy rule i broken x) = let k = ap (λ (y : Answer). y.status) x in absurd cc

made_of : (fs : List Formula) (out : Channel) (a : Answer) → Got out a.out → a.status ≡ status.Done → (input : List ℕ) → OutcomeOf fs commands.Tidy input a → IsMadeTidy out input
made_of fs out a got done input (OfFile.accepted v f x) = made out v a got done input f x
made_of fs out a got done input (OfFile.refused r bad x) = let k = ap (λ (y : Answer). y.status) x in absurd cc

pub tidies : (fs : List Formula) (source out err : Channel) (s : Status) → Ends (CommandOutcome fs commands.Tidy) source out err s → s ≡ status.Done → Tidies source out
tidies fs source out err s end done =
    let a = ended_well (CommandOutcome fs commands.Tidy source.before) (HasFailed source) out err s end done in
    of_any (λ input. OutcomeOf fs commands.Tidy input a.0) (IsMadeTidy out) source.before (λ input. made_of fs out a.0 a.2 a.3 input) a.1

-- What is answered of an input that is no verified file, and of one that is.
use Rattle.std.proofs.Common.{◌≡◌, ℕ, List, [], Some, None, refl, ap}
use Rattle.std.specs.declared.option.Option.{Option}
use Rattle.abc_base.specs.declared.status.Status.TheVariants as status
use Rattle.abc_file.specs.Reading.{OfInput}
use Rattle.abc_file_types.specs.Part.{refusal}
use Rattle.abc_link_names.specs.Linked.{LinkedFile}
use Rattle.abc_file_types.specs.declared.tables.Abc.{Abc}
use Rattle.abc_verify.proofs.Verifying.{of_any}
use Rattle.abc_verify.specs.FileRefusing.{IsFileRefused, IsFileRefusedBy}
use Rattle.abc_verify.specs.Verified.{IsReadVerified, IsVerifiedOf}
use Rattle.abc_verify.specs.declared.verified_error.VerifiedError.{VerifiedError}
use Rattle.abc_verify.specs.declared.verified_error.VerifiedError.TheVariants as errors
use Rattle.abc_cli_answers.specs.Answers.{Answer, OfFileRead, Unverified, line_answer}
use Rattle.abc_cli_answers.specs.End.{Channel, HasFailed}
use Rattle.abc_cli_answers.specs.Lines.{unverified_text}
use Rattle.abc_cli_answers.specs.Stops.{Stops, stop_of_verified}
use Rattle.abc_cli_answers.proofs.Ending.{memory_stops}

-- ---- an input that is no verified file

refused_unverified : (input : List ℕ) (e : VerifiedError) → IsFileRefused input e → OfFileRead Unverified input (line_answer status.Refused (unverified_text e))
refused_unverified input e (IsFileRefused.bad place reason h) = OfFileRead.refused (refusal place reason) h refl
refused_unverified input e (IsFileRefused.unverified v starts f r h) = OfFileRead.accepted v starts r (e, h, refl)

pub verified_stops : (source : Channel) (e : VerifiedError) → OfInput source.before (λ input. IsFileRefusedBy input e) → (e ≡ errors.ReadFault → HasFailed source) → Stops (OfFileRead Unverified) source (stop_of_verified e)
verified_stops source (errors.Refused place reason) f cause = record {
  outcome = λ d. of_any (λ input. IsFileRefusedBy input (errors.Refused place reason)) (λ input. OfFileRead Unverified input (line_answer status.Refused (unverified_text (errors.Refused place reason)))) source.before
      (λ b h. refused_unverified b (errors.Refused place reason) h) f;
  cause = λ h. absurd cc;
}
verified_stops source (errors.Link rule i) f cause = record {
  outcome = λ d. of_any (λ input. IsFileRefusedBy input (errors.Link rule i)) (λ input. OfFileRead Unverified input (line_answer status.Refused (unverified_text (errors.Link rule i)))) source.before
      (λ b h. refused_unverified b (errors.Link rule i) h) f;
  cause = λ h. absurd cc;
}
verified_stops source (errors.Verify m offset rule) f cause = record {
  outcome = λ d. of_any (λ input. IsFileRefusedBy input (errors.Verify m offset rule)) (λ input. OfFileRead Unverified input (line_answer status.Refused (unverified_text (errors.Verify m offset rule)))) source.before
      (λ b h. refused_unverified b (errors.Verify m offset rule) h) f;
  cause = λ h. absurd cc;
}
verified_stops source errors.ReadFault f cause = record { outcome = λ d. absurd d; cause = λ h. cause refl }
verified_stops source errors.NoMemory f cause = memory_stops (OfFileRead Unverified) source

-- its answer has a status of its own
pub unverified_quiet : (v : Abc) (starts : List (List ℕ)) (a : Answer) → Unverified v starts a → a.status ≡ status.Done → a.err ≡ []
unverified_quiet v starts a x d = let k = ap (λ (y : Answer). y.status) x.2 in absurd cc

pub unverified_not_usage : (v : Abc) (starts : List (List ℕ)) (a : Answer) → Unverified v starts a → a.status ≡ status.Usage → ⊥
unverified_not_usage v starts a x e = let k = ap (λ (y : Answer). y.status) x.2 in cc

-- ---- one that is

pub read_is_verified : (left : Option (List ℕ)) (l : LinkedFile) (starts : List (List ℕ)) → OfInput left (IsReadVerified l starts) → IsVerifiedOf l.file l
read_is_verified None l starts x = x.1.verified
read_is_verified (Some b) l starts x = x.verified

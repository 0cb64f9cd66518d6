-- What is answered about a file that was read, linked and verified.
use Rattle.std.proofs.Common.{◌≡◌, ℕ, List, length, ap, ◌∙◌}
use Rattle.abc_file.specs.Reading.{IsUsedUp, OfInput}
use Rattle.abc_link_names.specs.Linked.{LinkedFile}
use Rattle.abc_verify.proofs.Verifying.{of_any}
use Rattle.abc_verify.specs.Verified.{IsReadVerified}
use Rattle.abc_cli_answers.specs.Lines.{verified_line}
use Rattle.abc_cli_answers.specs.End.{Channel}
use Rattle.abc_cli_answers.specs.Answers.{Answer, OfFileRead, Unverified, bytes_answer}
use Rattle.abc_cli.specs.Outcome.{Check}
use Rattle.abc_cli_answers.specs.Stops.{GivesAllBytes}

-- ---- `check`

-- what `check` says of a file that isn't verified
pub unverified_checked : (input : List ℕ) (a : Answer) → OfFileRead Unverified input a → OfFileRead Check input a
unverified_checked input a (OfFileRead.accepted v starts r x) = OfFileRead.accepted v starts r (Check.unverified x)
unverified_checked input a (OfFileRead.refused r bad x) = OfFileRead.refused r bad x

pub verified_gives : (source : Channel) (l : LinkedFile) (starts : List (List ℕ)) (bytes : List ℕ) (count : ℕ) → OfInput source.before (IsReadVerified l starts) → IsUsedUp source.before source.after
    → bytes ≡ verified_line count → count ≡ length l.file.bodies → GivesAllBytes (OfFileRead Check) source bytes
verified_gives source l starts bytes count f used e is = record {
  outcome = of_any (IsReadVerified l starts) (λ input. OfFileRead Check input (bytes_answer bytes)) source.before
      (λ b x. OfFileRead.accepted l.file starts x.read (Check.verified l x.verified (ap bytes_answer (e ∙ ap verified_line is)))) f;
  used_up = used;
}

-- What a command gives, or what it is answered with where it gives nothing.
use Rattle.std.specs.Prelude.{◌≡◌, ◌≢◌, ℕ, List, [], Ok, Err}
use Rattle.std.specs.declared.alloc.Global.{Global}
use Rattle.std.specs.declared.result.Result.{Result}
use Rattle.std.specs.declared.vec.Vec.{Vec}
use Rattle.abc_text_reader.specs.declared.error.AsmError.{AsmError}
use Rattle.abc_text_reader.specs.declared.error.AsmError.TheVariants as faults
use Rattle.abc_base.specs.declared.status.Status.{Status}
use Rattle.abc_base.specs.declared.status.Status.TheVariants as status
use Rattle.abc_base.specs.declared.input_error.InputError.{InputError}
use Rattle.abc_base.specs.declared.input_error.InputError.TheVariants as inputs
use Rattle.abc_text_lines.specs.Rows.{fault}
use Rattle.abc_text_lines.specs.declared.reason.AsmReason.TheVariants as reasons
use Rattle.abc_file.specs.Reading.{IsUsedUp}
use Rattle.abc_file_types.specs.Part.{refusal}
use Rattle.abc_varint.specs.declared.error.ReadError.{ReadError}
use Rattle.abc_varint.specs.declared.error.ReadError.TheVariants as errors
use Rattle.abc_tidy_entries.specs.declared.error.TidyError.{TidyError}
use Rattle.abc_tidy_entries.specs.declared.error.TidyError.TheVariants as tidying
use Rattle.abc_verify.specs.declared.verified_error.VerifiedError.{VerifiedError}
use Rattle.abc_verify.specs.declared.verified_error.VerifiedError.TheVariants as unverified
use Rattle.abc_cli_answers.specs.declared.stop.Stop.{Stop}
use Rattle.abc_cli_answers.specs.declared.stop.Stop.TheVariants as stops
use Rattle.abc_cli_answers.specs.End.{Channel, Got, GivesBytes, GivesLine, HasFailed}
use Rattle.abc_cli_answers.specs.Lines.{item_text, refusal_text, read_fault_text, no_memory_text, tidy_text, untyped_text, fault_text}
use Rattle.abc_cli_answers.specs.Answers.{Answer, On, bytes_answer, line_answer}

-- what is answered where a command gives nothing
abbrev pub stop_answer : Stop → Answer
stop_answer (stops.File place reason) = line_answer status.Refused (refusal_text (refusal place reason))
stop_answer (stops.Text line reason) = line_answer status.Refused (fault_text (fault line reason))
stop_answer (stops.Item i rule) = line_answer status.Refused (item_text i rule)
stop_answer (stops.Code m offset rule) = line_answer status.Refused (untyped_text m offset rule)
stop_answer (stops.Tidy rule i) = line_answer status.Refused (tidy_text rule i)
stop_answer stops.ReadFault = line_answer status.ReadFault read_fault_text
stop_answer stops.NoMemory = line_answer status.NoMemory no_memory_text

-- whether the words and the input alone are the reason
abbrev pub IsDefined : Stop → Type 0
IsDefined stops.ReadFault = ⊥
IsDefined stops.NoMemory = ⊥
IsDefined _ = Unit {0}

abbrev pub stop_of_read : ReadError → Stop
stop_of_read (errors.Refused place reason) = stops.File place reason
stop_of_read errors.ReadFault = stops.ReadFault
stop_of_read errors.NoMemory = stops.NoMemory

abbrev pub stop_of_asm : AsmError → Stop
stop_of_asm (faults.Refused line reason) = stops.Text line reason
stop_of_asm faults.NoMemory = stops.NoMemory

abbrev pub stop_of_input : InputError → Stop
stop_of_input inputs.TooLong = stops.Text 0 reasons.TextTooLong
stop_of_input inputs.ReadFault = stops.ReadFault
stop_of_input inputs.NoMemory = stops.NoMemory

abbrev pub stop_of_verified : VerifiedError → Stop
stop_of_verified (unverified.Refused place reason) = stops.File place reason
stop_of_verified (unverified.Link rule i) = stops.Item i rule
stop_of_verified (unverified.Verify m offset rule) = stops.Code m offset rule
stop_of_verified unverified.ReadFault = stops.ReadFault
stop_of_verified unverified.NoMemory = stops.NoMemory

abbrev pub stop_of_tidy : TidyError → Stop
stop_of_tidy (tidying.Refused rule i) = stops.Tidy rule i
stop_of_tidy tidying.NoMemory = stops.NoMemory

-- The bytes are those of an outcome, and nothing of the input is left.
pub record GivesAllBytes (Outcome : List ℕ → Answer → Type 0) (source : Channel) (bytes : List ℕ) : Type 0 where
  pub outcome : On Outcome source.before (bytes_answer bytes)
  pub used_up : IsUsedUp source.before source.after

-- A stop is the outcome, or a failed read that has its cause; want of memory is free.
pub record Stops (Outcome : List ℕ → Answer → Type 0) (source : Channel) (stop : Stop) : Type 0 where
  pub outcome : IsDefined stop → On Outcome source.before (stop_answer stop)
  pub cause : stop ≡ stops.ReadFault → HasFailed source

-- A stop after the input was read is one of the answers, and no failed read; want of memory is free.
pub record StopsAt (Answers : Answer → Type 0) (stop : Stop) : Type 0 where
  pub answer : IsDefined stop → Answers (stop_answer stop)
  pub read : stop ≢ stops.ReadFault

-- what was written of bytes that are given, or of why there are none: a line, and nothing to `out`
abbrev pub IsGiven : Result (Vec ℕ Global) Stop → Channel → Channel → Status → Type 0
IsGiven (Ok bytes) out err s = GivesBytes out err bytes.items s
IsGiven (Err stop) out err s = Got out [] × GivesLine err (stop_answer stop) s

-- What `replay` answers: how many steps the log of an input has, or why the input is none (profile: docs/PROGRAM.md, "Logs").
use Rattle.std.specs.Prelude.{◌≡◌, ℕ, ◌+◌, ◌-◌, ◌^◌, ◌<◌, List, ◌++◌, Some, drop, length, min, take}
use Rattle.abc_base.specs.declared.formula.Formula.{Formula}
use Rattle.abc_log.specs.Followed.{parts_from}
use Rattle.abc_heap_store.specs.declared.records.Limits.{Limits}
use Rattle.abc_log.specs.Heads.{GoesWrong}
use Rattle.abc_log.specs.Limits.{HasNoLimits}
use Rattle.abc_log.specs.Lines.{AreLimits, head_line, limits_line}
use Rattle.abc_meaning.specs.Inputs.{IsLogOf}
use Rattle.abc_meaning.specs.Logs.{log, steps}
use Rattle.abc_meaning.specs.ThrowLaws.{IsVerifiedSetting}
use Rattle.abc_link_names.specs.Linked.{LinkedFile}
use Rattle.abc_file_types.specs.Files.{IsFile}
use Rattle.abc_link_layouts.specs.Numbering.{HasLayoutNumbers}
use Rattle.abc_verify.specs.FileRefusing.{IsFileRefused as IsNoVerifiedFile}
use Rattle.abc_verify.specs.declared.verified_error.VerifiedError.{VerifiedError}
use Rattle.abc_verify.specs.declared.verified_error.VerifiedError.TheVariants as files
use Rattle.abc_replay.specs.declared.error.ReplayError.{ReplayError}
use Rattle.abc_replay.specs.declared.error.ReplayError.TheVariants as errors
use Rattle.abc_replay.specs.declared.error.ReplayReason.TheVariants as reasons

-- ---- a log

-- the input is the log of a verified file, which takes so many steps
pub record IsReplayed (formulas : List Formula) (input : List ℕ) (n : ℕ) : Type 0 where
  pub linked : LinkedFile
  pub fuel : ℕ
  pub limits : Limits
  pub is : IsLogOf formulas linked fuel limits input
  pub counted : n ≡ steps (record { linked = linked; formulas = formulas }) limits fuel

-- ---- the parts of an input

-- the input begins with a line that states a length; of what follows that the file has so many bytes, or all where there are fewer
pub record HasLogParts (input file rest : List ℕ) : Type 0 where
  pub stated : ℕ
  pub following : List ℕ
  pub low : stated < 2 ^ 32
  pub is : input ≡ head_line stated ++ following
  pub file_is : file ≡ take stated following
  pub rest_is : rest ≡ drop stated following

-- the bytes spell a file, which is verified
pub record SpellsVerified (formulas : List Formula) (file : List ℕ) (l : LinkedFile) : Type 0 where
  pub spells : IsFile l.file file
  pub verified : IsVerifiedSetting (record { linked = l; formulas = formulas })
  pub numbered : HasLayoutNumbers l

-- ---- places, which stand still at 2^64 - 1

-- where the file begins
abbrev pub file_place : ℕ
file_place = 9

-- the place of a byte so many behind the file
unfoldable pub place_behind : (file : List ℕ) → ℕ → ℕ
place_behind file n = min (file_place + length file + n) (2 ^ 64 - 1)

-- why the bytes of the file are no verified one, told of the input
unfoldable pub error_of : VerifiedError → ReplayError
error_of (files.Refused place reason) = errors.Refused (file_place + place) (reasons.File reason)
error_of (files.Link rule i) = errors.Link rule i
error_of (files.Verify m offset rule) = errors.Verify m offset rule
error_of files.ReadFault = errors.ReadFault
error_of files.NoMemory = errors.NoMemory

-- ---- no log

-- Why an input is no log, in the order of the input: the line before the file is wrong; the bytes of the file are no verified one;
-- there is no line of limits behind them; or what follows is not the log of them.
pub data IsLogRefused (formulas : List Formula) (input : List ℕ) : ReplayError → Type 0 where
  head : (place : ℕ) → GoesWrong 0 place input → IsLogRefused formulas input (errors.Refused place reasons.LogHead)
  file : (bytes rest : List ℕ) (e : VerifiedError) → HasLogParts input bytes rest → IsNoVerifiedFile bytes e → IsLogRefused formulas input (error_of e)
  limits : (bytes rest : List ℕ) (l : LinkedFile) → HasLogParts input bytes rest → SpellsVerified formulas bytes l → HasNoLimits rest → IsLogRefused formulas input (errors.Refused (place_behind bytes 0) reasons.LogLimits)
  differs : (bytes rest found : List ℕ) (l : LinkedFile) (fuel : ℕ) (m : Limits) (n : ℕ) → HasLogParts input bytes rest → SpellsVerified formulas bytes l → AreLimits fuel m → rest ≡ limits_line fuel m ++ found
      → parts_from 0 found (log (record { linked = l; formulas = formulas }) m fuel) ≡ Some n → IsLogRefused formulas input (errors.Refused (place_behind bytes (length (limits_line fuel m) + n)) reasons.LogDiffers)

-- the same of an answer, where want of memory is free, and a failed read has another cause
abbrev pub IsLogRefusedBy : List Formula → List ℕ → ReplayError → Type 0
IsLogRefusedBy formulas input errors.NoMemory = Unit {0}
IsLogRefusedBy formulas input errors.ReadFault = Unit {0}
IsLogRefusedBy formulas input e = IsLogRefused formulas input e

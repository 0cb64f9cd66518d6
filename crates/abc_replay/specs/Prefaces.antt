-- What stands before the log of an input, as it is read.
use Rattle.std.specs.Prelude.{◌≡◌, ◌⊎◌, ℕ, ◌+◌, ◌-◌, ◌^◌, ◌<◌, ◌≤◌, List, IfErr, IfOk, IfSome, length, min}
use Rattle.std.specs.Io.KnownBytes.{Consumes, IsAtEnd}
use Rattle.std.specs.declared.option.Option.{Option}
use Rattle.std.specs.declared.result.Result.{Result}
use Rattle.abc_base.specs.declared.formula.Formula.{Formula}
use Rattle.abc_base.specs.Hosts.{AreFormulas}
use Rattle.abc_base.specs.Taking.{TakesAtMost}
use Rattle.abc_file.specs.Reading.{IsUsedUp, OfInput}
use Rattle.abc_log.specs.declared.errors.HeadError.{HeadError}
use Rattle.abc_log.specs.declared.errors.HeadError.TheVariants as heads
use Rattle.abc_log.specs.Limits.{HasNoLimits}
use Rattle.abc_log.specs.declared.limits.LimitsLine.{LimitsLine}
use Rattle.abc_log.specs.Lines.{AreLimits, head_line, limits_line}
use Rattle.abc_log.specs.declared.check.LogFault.{LogFault}
use Rattle.abc_log.specs.declared.check.LogFault.TheVariants as logs
use Rattle.abc_log.specs.declared.log_part.PartError.{PartError}
use Rattle.abc_log.specs.declared.log_part.PartError.TheVariants as parts
use Rattle.abc_link_names.specs.Linked.{LinkedFile}
use Rattle.abc_file_types.specs.Files.{IsFile}
use Rattle.abc_file_types.specs.Part.{limit}
use Rattle.abc_verify.specs.Verified.{IsVerifiedOf}
use Rattle.abc_replay.specs.Replays.{IsLogRefusedBy, IsReplayed, file_place}
use Rattle.abc_replay.specs.declared.error.ReplayError.{ReplayError}
use Rattle.abc_replay.specs.declared.error.ReplayError.TheVariants as errors
use Rattle.abc_replay.specs.declared.error.ReplayReason.TheVariants as reasons

-- the bytes spell the file of a linked one, which is verified
pub record IsVerifiedIn (bytes : List ℕ) (l : LinkedFile) : Type 0 where
  pub spells : IsFile l.file bytes
  pub verified : IsVerifiedOf l.file l

-- the line before the file and the front of that were taken: as many bytes as are stated, or all where there are fewer, but no more
-- than the greatest file has and one
pub record HasFront (old new : Option (List ℕ)) (bytes : List ℕ) : Type 0 where
  pub stated : ℕ
  pub mid : Option (List ℕ)
  pub low : stated < 2 ^ 32
  pub head : Consumes old mid (head_line stated)
  pub part : Consumes mid new bytes
  pub few : length bytes ≤ min stated (limit + 1)
  pub end : (length bytes ≡ min stated (limit + 1)) ⊎ IsAtEnd new

-- the line before the file and the bytes of that were taken: as many as are stated, or all where there are fewer
pub record HasFile (old new : Option (List ℕ)) (bytes : List ℕ) : Type 0 where
  pub stated : ℕ
  pub mid : Option (List ℕ)
  pub low : stated < 2 ^ 32
  pub head : Consumes old mid (head_line stated)
  pub part : Consumes mid new bytes
  pub few : length bytes ≤ stated
  pub end : (length bytes ≡ stated) ⊎ IsAtEnd new

-- the file and the line of limits behind it were taken, and the log begins at this place
pub record HasPreface (old new : Option (List ℕ)) (l : LinkedFile) (line : LimitsLine) (place : ℕ) : Type 0 where
  pub bytes : List ℕ
  pub mid : Option (List ℕ)
  pub file : HasFile old mid bytes
  pub verified : IsVerifiedIn bytes l
  pub limits : AreLimits line.fuel line.limits
  pub taken : Consumes mid new (limits_line line.fuel line.limits)
  pub begins : place ≡ file_place + length bytes + length (limits_line line.fuel line.limits)

-- What is taken of an input, whatever is answered: the line before the file, at most one byte more than the greatest file has, and the line of limits, 2^24 + 74 bytes
-- at most; or more, but only where those are a verified file with its lines, behind which the log begins.
pub data TakesLog (old new : Option (List ℕ)) : Type 0 where
  before : TakesAtMost old new (2 ^ 24 + 74) → TakesLog old new
  behind : (l : LinkedFile) (line : LimitsLine) (place : ℕ) (mid : Option (List ℕ)) → HasPreface old mid l line place → TakesLog old new

-- what is answered of any input that has this before its log: how many steps that has, and then the input is used up, or why it is refused
pub record AnswersLog (formulas : List Formula) (left : Option (List ℕ)) (l : LinkedFile) (line : LimitsLine) (place : ℕ) (new : Option (List ℕ)) (result : Result ℕ ReplayError) : Type 0 where
  pub replayed : (old : Option (List ℕ)) → HasPreface old left l line place → IfOk result (λ n. OfInput old (λ input. IsReplayed formulas input n))
  pub end : (old : Option (List ℕ)) → HasPreface old left l line place → IfOk result (λ _. IsUsedUp old new)
  pub refused : (old : Option (List ℕ)) → HasPreface old left l line place → IfErr result (λ e. OfInput old (λ input. IsLogRefusedBy formulas input e))

-- why an input is refused, beside any host
unfoldable pub RefusesAny : Option (List ℕ) → ReplayError → Type 0
RefusesAny left e = (formulas : List Formula) → AreFormulas formulas → OfInput left (λ input. IsLogRefusedBy formulas input e)

-- no line of limits stands at this place, or a read failed
abbrev pub IsNoLine : Option (List ℕ) → (place : ℕ) → ReplayError → Type 0
IsNoLine left place (errors.Refused p reasons.LogLimits) = (p ≡ place) × IfSome left HasNoLimits
IsNoLine left place errors.ReadFault = Unit {0}
IsNoLine left place e = ⊥

-- ---- which error stands for which

abbrev pub error_of_head : HeadError → ReplayError
error_of_head (heads.Wrong place) = errors.Refused place reasons.LogHead
error_of_head heads.ReadFault = errors.ReadFault

abbrev pub error_of_part : PartError → ReplayError
error_of_part parts.ReadFault = errors.ReadFault
error_of_part parts.NoMemory = errors.NoMemory

-- of a log that begins at this place
abbrev pub error_of_log : ℕ → LogFault → ReplayError
error_of_log place (logs.Differs n) = errors.Refused (min (place + n) (2 ^ 64 - 1)) reasons.LogDiffers
error_of_log place logs.ReadFault = errors.ReadFault

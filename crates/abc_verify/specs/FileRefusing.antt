-- Why an input gives no verified file (profile: docs/PROGRAM.md, "Statuses").
use Rattle.std.specs.Prelude.{◌≡◌, ◌<◌, ℕ, List, [], get_or, length}
use Rattle.abc_file_types.specs.Part.{refusal}
use Rattle.abc_file_types.specs.declared.reason.Reason.{Reason}
use Rattle.abc_link_names.specs.Rules.{IsFirstBroken}
use Rattle.abc_link_names.specs.declared.error.LinkError.{LinkError}
use Rattle.abc_link_names.specs.declared.error.LinkError.TheVariants as refusals
use Rattle.abc_link_names.specs.declared.items.Item.{Item}
use Rattle.abc_link_names.specs.declared.items.LinkRule.{LinkRule}
use Rattle.abc_link_layouts.specs.Numbering.{HasLayoutNumbers}
use Rattle.abc_link_names.specs.Linked.{IsLinkedFile, LinkedFile}
use Rattle.abc_file_types.specs.declared.tables.Abc.{Abc}
use Rattle.abc_file_types.specs.Files.{IsBadFile, IsFileRead}
use Rattle.abc_verify_typing.specs.declared.rule.VerifyRule.{VerifyRule}
use Rattle.abc_varint.specs.declared.error.ReadError.{ReadError}
use Rattle.abc_varint.specs.declared.error.ReadError.TheVariants as reads
use Rattle.abc_verify.specs.VerifyRefusing.{IsFirstUntyped}
use Rattle.abc_verify.specs.declared.verify_error.VerifyError.{VerifyError}
use Rattle.abc_verify.specs.declared.verify_error.VerifyError.TheVariants as verifying
use Rattle.abc_verify.specs.declared.verified_error.VerifiedError.{VerifiedError}
use Rattle.abc_verify.specs.declared.verified_error.VerifiedError.TheVariants as errors

-- where an instruction of a body began in its code as it was read
abbrev pub offset_in : List (List ℕ) → ℕ → ℕ → ℕ
offset_in starts body index = get_or (get_or starts body []) index 0

-- why a file that was read so isn't verified: its first broken rule of linking, by the first item that breaks it; or else the first
-- method without a typing, by a place and a rule that refute each
pub data IsUnverified (v : Abc) (starts : List (List ℕ)) : VerifiedError → Type 0 where
  unlinked : (rule : LinkRule) (i : Item) → IsFirstBroken v rule i → IsUnverified v starts (errors.Link rule i)
  untyped : (l : LinkedFile) (m b i : ℕ) (rule : VerifyRule) → l.file ≡ v → IsLinkedFile l → HasLayoutNumbers l → IsFirstUntyped l m b i rule → IsUnverified v starts (errors.Verify m (offset_in starts b i) rule)

-- why an input is no verified file: its first fault, or else why its file isn't verified
pub data IsFileRefused (input : List ℕ) : VerifiedError → Type 0 where
  bad : (place : ℕ) (reason : Reason) → IsBadFile input (refusal place reason) → IsFileRefused input (errors.Refused place reason)
  unverified : (v : Abc) (starts : List (List ℕ)) (e : VerifiedError) → IsFileRead (v, starts) input → IsUnverified v starts e → IsFileRefused input e

-- ---- answers, where want of memory is free, and a failed read has another cause

-- the error says why the file isn't verified, or is want of memory
abbrev pub IsUnverifiedBy : Abc → List (List ℕ) → VerifiedError → Type 0
IsUnverifiedBy v starts errors.NoMemory = Unit {0}
IsUnverifiedBy v starts e = IsUnverified v starts e

-- the error says why the input is no verified file, or is want of memory or a failed read
abbrev pub IsFileRefusedBy : List ℕ → VerifiedError → Type 0
IsFileRefusedBy input errors.NoMemory = Unit {0}
IsFileRefusedBy input errors.ReadFault = Unit {0}
IsFileRefusedBy input e = IsFileRefused input e

-- ---- which error stands for which

abbrev pub error_of_read : ReadError → VerifiedError
error_of_read (reads.Refused place reason) = errors.Refused place reason
error_of_read reads.ReadFault = errors.ReadFault
error_of_read reads.NoMemory = errors.NoMemory

abbrev pub error_of_link : LinkError → VerifiedError
error_of_link (refusals.Refused rule i) = errors.Link rule i
error_of_link refusals.NoMemory = errors.NoMemory

-- the refusal of a method, whose instructions began so in its code as it was read
abbrev pub error_of_verify : List (List ℕ) → VerifyError → VerifiedError
error_of_verify starts (verifying.Refused m b i rule) = errors.Verify m (offset_in starts b i) rule
error_of_verify starts verifying.NoMemory = errors.NoMemory

-- the place of a refusal is one of an instruction, or the end of the code
abbrev pub IsRefusalPlaced : List (List ℕ) → VerifyError → Type 0
IsRefusalPlaced starts (verifying.Refused m b i rule) = (b < length starts) × (i < length (get_or starts b []))
IsRefusalPlaced starts verifying.NoMemory = Unit {0}

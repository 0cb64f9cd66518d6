-- How code opens a file, and why it doesn't.
use Rattle.std.specs.Prelude.{◌≡◌, ℕ, List, Some}
use Rattle.abc_base.specs.Hosts.{builtin_formulas}
use Rattle.abc_heap_store.specs.declared.records.Limit.{Limit}
use Rattle.abc_link_names.specs.Linked.{LinkedFile}
use Rattle.abc_meaning.specs.Meaning.{first_world, too_small}
use Rattle.abc_meaning.specs.Openings.{setting}
use Rattle.abc_verify.specs.FileRefusing.{IsFileRefused}
use Rattle.abc_verify.specs.Verified.{IsReadVerified}
use Rattle.abc_verify.specs.declared.verified_error.VerifiedError.{VerifiedError}
use Rattle.abc_verify.specs.declared.verified_error.VerifiedError.TheVariants as errors
use Rattle.abc_c.specs.Crossing.{limits_of_bounds}
use Rattle.abc_c.specs.Outcome.{IsTooSmall}
use Rattle.abc_c.specs.declared.crossing.Bounds.{Bounds}
use Rattle.abc_c.specs.declared.opening.Unopened.{Unopened}
use Rattle.abc_c.specs.declared.opening.Unopened.TheVariants as unopened

-- some bytes are a verified file
pub record IsReadIn (file : List ℕ) (l : LinkedFile) : Type 0 where
  pub starts : List (List ℕ)
  pub verified : IsReadVerified l starts file

-- they aren't, by the defined refusal, or there is no memory; bytes in memory can always be read
abbrev pub IsUnread : List ℕ → VerifiedError → Type 0
IsUnread file errors.NoMemory = Unit {0}
IsUnread file errors.ReadFault = ⊥
IsUnread file (errors.Refused place reason) = IsFileRefused file (errors.Refused place reason)
IsUnread file (errors.Link rule i) = IsFileRefused file (errors.Link rule i)
IsUnread file (errors.Verify m offset rule) = IsFileRefused file (errors.Verify m offset rule)

-- why no session of a verified file is opened: what every run begins with passes a limit, or there is no memory
abbrev pub IsUnopened : LinkedFile → Bounds → Unopened → Type 0
IsUnopened l bounds (unopened.Refused e) = ⊥
IsUnopened l bounds unopened.TooSmall = (which : Limit) × (too_small (first_world (setting l builtin_formulas) (limits_of_bounds bounds)).heap ≡ Some which)
IsUnopened l bounds unopened.NoMemory = Unit {0}

-- why a file is not opened: it is refused, what every run begins with passes a limit, or there is no memory
abbrev pub IsUnopenedFor : List ℕ → Bounds → Unopened → Type 0
IsUnopenedFor file bounds (unopened.Refused e) = IsFileRefused file e
IsUnopenedFor file bounds unopened.TooSmall = IsTooSmall file bounds
IsUnopenedFor file bounds unopened.NoMemory = Unit {0}

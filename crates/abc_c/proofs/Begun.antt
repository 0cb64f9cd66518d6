-- How a file is opened, and why it isn't.
use Rattle.std.proofs.Common.{◌≡◌, ◌≢◌, ℕ, List, refl, arith}
use Rattle.std.specs.Prelude.{MatchResult, Ok, Err}
use Rattle.std.specs.declared.result.Result.{Result}
use Rattle.abc_base.specs.Faults.{Rose}
use Rattle.abc_base.specs.Hosts.{builtin_formulas}
use Rattle.abc_link_names.specs.Linked.{LinkedFile}
use Rattle.abc_machine.specs.Machines.{IsOpened, Opened}
use Rattle.abc_verify.specs.FileRefusing.{IsFileRefused, IsFileRefusedBy}
use Rattle.abc_verify.specs.declared.verified_error.VerifiedError.{VerifiedError}
use Rattle.abc_verify.specs.declared.verified_error.VerifiedError.TheVariants as errors
use Rattle.abc_c.specs.Crossing.{limits_of_bounds}
use Rattle.abc_c.specs.Opening.{IsReadIn, IsUnopened, IsUnopenedFor, IsUnread}
use Rattle.abc_c.specs.Outcome.{IsOpenedFor}
use Rattle.abc_c.specs.declared.crossing.Bounds.{Bounds}
use Rattle.abc_c.specs.declared.opening.Unopened.{Unopened}
use Rattle.abc_c.specs.declared.opening.Unopened.TheVariants as unopened

-- ---- a session

-- a session of the verified file that some bytes are, or why there is none
pub opened_for : {K : Type 0} (session : K → Opened) (file : List ℕ) (bounds : Bounds) (l : LinkedFile) (r : Result K Unopened) → IsReadIn file l
    → MatchResult r (λ kept. IsOpened l builtin_formulas (limits_of_bounds bounds) (session kept)) (IsUnopened l bounds) → MatchResult r (λ kept. IsOpenedFor file bounds (session kept)) (IsUnopenedFor file bounds)
opened_for session file bounds l (Ok kept) read opened = record { linked = l; starts = read.starts; verified = read.verified; opened = opened }
opened_for session file bounds l (Err (unopened.Refused e)) read never = absurd never
opened_for session file bounds l (Err unopened.TooSmall) read small = record { linked = l; starts = read.starts; verified = read.verified; which = small.0; small = small.1 }
opened_for session file bounds l (Err unopened.NoMemory) read any = tt

-- ---- a file

-- a source of bytes in memory has no fault
never_rose : Rose 0 0 → ⊥
never_rose rose = omega arith

pub unread_by : (file : List ℕ) (e : VerifiedError) → IsFileRefusedBy file e → (e ≡ errors.ReadFault → Rose 0 0) → IsUnread file e
unread_by file (errors.Refused place reason) refused rose = refused
unread_by file (errors.Link rule i) refused rose = refused
unread_by file (errors.Verify m offset rule) refused rose = refused
unread_by file errors.ReadFault refused rose = absurd (never_rose (rose refl))
unread_by file errors.NoMemory refused rose = tt

pub refused_by : (file : List ℕ) (e : VerifiedError) → e ≢ errors.NoMemory → IsUnread file e → IsFileRefused file e
refused_by file (errors.Refused place reason) some unread = unread
refused_by file (errors.Link rule i) some unread = unread
refused_by file (errors.Verify m offset rule) some unread = unread
refused_by file errors.ReadFault some unread = absurd unread
refused_by file errors.NoMemory some unread = absurd (some refl)

-- What stands before a log, put together.
use Rattle.std.proofs.Common.{◌≡◌, ℕ, ◌+◌, ◌≤◌, List, length, Ok, Err, subst, sym, ◌∙◌, arith}
use Rattle.std.specs.Prelude.{IfErr, IfOk}
use Rattle.std.specs.Io.KnownBytes.{Consumes}
use Rattle.std.specs.declared.option.Option.{Option}
use Rattle.std.specs.declared.result.Result.{Result}
use Rattle.abc_base.specs.Faults.{Rose}
use Rattle.abc_log.specs.declared.limits.LimitsLine.{LimitsLine}
use Rattle.abc_log.specs.Lines.{AreLimits, limits_line}
use Rattle.abc_link_names.specs.Linked.{LinkedFile}
use Rattle.abc_file_types.proofs.Whole.{read_spelled}
use Rattle.abc_verify.specs.Verified.{IsReadVerified}
use Rattle.abc_verify.specs.declared.verified_error.VerifiedError.{VerifiedError}
use Rattle.abc_verify.specs.declared.verified_error.VerifiedError.TheVariants as files
use Rattle.abc_replay.specs.Prefaces.{HasFile, HasPreface, IsNoLine, IsVerifiedIn, RefusesAny}
use Rattle.abc_replay.specs.Replays.{error_of, file_place}
use Rattle.abc_replay.specs.declared.error.ReplayError.{ReplayError}
use Rattle.abc_replay.specs.declared.error.ReplayError.TheVariants as errors
use Rattle.abc_replay.specs.declared.reading.Preface.{Preface}
use Rattle.abc_replay.proofs.Parts.{no_limits, read_error}

-- ---- the file

-- a file that was read from memory and verified
pub verified_there : (bytes : List ℕ) (l : LinkedFile) (starts : List (List ℕ)) → IsReadVerified l starts bytes → IsVerifiedIn bytes l
verified_there bytes l starts r = record { spells = (read_spelled (l.file, starts) bytes r.read.0, r.read.1); verified = r.verified }

-- memory has no faults
pub never_rose : Rose 0 0 → ⊥
never_rose rose = omega (arith, rose)

-- ---- the whole

pub rose_before : (before mid now : ℕ) → before ≤ mid → Rose mid now → Rose before now
rose_before before mid now later rose = omega (arith, later, rose)

module _ (old mid new : Option (List ℕ)) (bytes : List ℕ) (l : LinkedFile) (place : ℕ) (r : Result Preface ReplayError) (f : HasFile old mid bytes) (v : IsVerifiedIn bytes l) (at : place ≡ file_place + length bytes) where
  pub preface_found : (line : Result LimitsLine ReplayError) → IfOk line (λ x. Consumes mid new (limits_line x.fuel x.limits)) → IfOk line (λ x. AreLimits x.fuel x.limits) → IfOk line (λ x. x.length ≡ length (limits_line x.fuel x.limits))
      → IfOk line (λ x. r ≡ Ok (record { verified = l; line = x; place = place + x.length })) → IfErr line (λ e. r ≡ Err e) → IfOk r (λ p. HasPreface old new p.verified p.line p.place)
  preface_found (Ok x) taken limits long is none =
      subst (λ (q : Result Preface ReplayError). IfOk q (λ p. HasPreface old new p.verified p.line p.place)) (sym is)
      (record { bytes = bytes; mid = mid; file = f; verified = v; limits = limits; taken = taken; begins = omega (arith, at, long) })
  preface_found (Err e) taken limits long is none = subst (λ (q : Result Preface ReplayError). IfOk q (λ p. HasPreface old new p.verified p.line p.place)) (sym none) tt

  pub preface_refused : (line : Result LimitsLine ReplayError) → IfErr line (IsNoLine mid place) → IfOk line (λ x. r ≡ Ok (record { verified = l; line = x; place = place + x.length })) → IfErr line (λ e. r ≡ Err e) → IfErr r (RefusesAny old)
  preface_refused (Ok x) why is none = subst (λ (q : Result Preface ReplayError). IfErr q (RefusesAny old)) (sym is) tt
  preface_refused (Err e) why is none = subst (λ (q : Result Preface ReplayError). IfErr q (RefusesAny old)) (sym none) (no_limits old mid bytes l place e f v at why)

-- a file that isn't verified is a failed read only where that is told
pub file_faulty : {T : Type 0} (r : Result T ReplayError) (f : ReplayError) (e : VerifiedError) → r ≡ Err f → f ≡ error_of e → r ≡ Err errors.ReadFault → e ≡ files.ReadFault
file_faulty {T} r f e is same fault =
    let clash : ◌≡◌ {A = Result T ReplayError} (Err f) (Err errors.ReadFault) = sym is ∙ fault in
    let here : f ≡ errors.ReadFault = cc in
    read_error e (sym same ∙ here)

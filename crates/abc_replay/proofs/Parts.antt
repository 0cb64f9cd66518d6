-- What is read before a log.
use Rattle.std.proofs.Common.{◌≡◌, ℕ, zero, suc, ◌+◌, ◌<◌, ◌≤◌, ◌^◌, true, List, [], ◌∷◌, ◌++◌, length, Some, None, refl, sym, ap, subst, arith, length-append}
use Rattle.std.specs.Prelude.{Bool, IfSome, if◌then◌else◌, nat_eq}
use Rattle.std.proofs.lemmas.Bool.{lt-ltb}
use Rattle.std.proofs.lemmas.List.{append-nil}
use Rattle.std.specs.declared.option.Option.{Option}
use Rattle.abc_base.specs.Hosts.{AreFormulas}
use Rattle.abc_base.specs.declared.formula.Formula.{Formula}
use Rattle.abc_file.specs.Reading.{OfInput}
use Rattle.abc_heap_store.specs.declared.records.Limits.{Limits}
use Rattle.abc_log.specs.Heads.{AllStand, GoesWrong, IsHeadStop, is_lower_hex, may_stand}
use Rattle.abc_log.specs.Limits.{HasNoLimits}
use Rattle.abc_log.specs.declared.errors.HeadError.{HeadError}
use Rattle.abc_log.specs.declared.errors.HeadError.TheVariants as heads
use Rattle.abc_log.specs.Lines.{limits_line, limits_text}
use Rattle.abc_log.specs.declared.log_part.PartError.{PartError}
use Rattle.abc_log.specs.declared.log_part.PartError.TheVariants as parts
use Rattle.abc_meaning.specs.ThrowLaws.{IsVerifiedSetting}
use Rattle.abc_link_names.specs.Linked.{LinkedFile}
use Rattle.abc_verify.specs.FileRefusing.{IsFileRefusedBy as IsNoFileBy}
use Rattle.abc_verify.specs.declared.verified_error.VerifiedError.{VerifiedError}
use Rattle.abc_verify.specs.declared.verified_error.VerifiedError.TheVariants as files
use Rattle.abc_replay.specs.Prefaces.{HasFile, IsNoLine, IsVerifiedIn, RefusesAny, error_of_head, error_of_part}
use Rattle.abc_replay.specs.Replays.{HasLogParts, IsLogRefused, IsLogRefusedBy, SpellsVerified, error_of, file, file_place, head, limits, place_behind}
use Rattle.abc_replay.specs.declared.error.ReplayError.{ReplayError}
use Rattle.abc_replay.specs.declared.error.ReplayError.TheVariants as errors
use Rattle.abc_replay.specs.declared.error.ReplayReason.TheVariants as reasons
use Rattle.abc_replay.proofs.Inputs.{of_all}
use Rattle.abc_replay.proofs.Lifted.{lifted}

-- ---- the line before the file

zeros : ℕ → List ℕ
zeros zero = []
zeros (suc k) = 48 ∷ zeros k

length-zeros : (k : ℕ) → length (zeros k) ≡ k
unfolding zeros
length-zeros zero = refl
length-zeros (suc k) = ap suc (length-zeros k)

zero_stands : (place : ℕ) → place < 8 → may_stand place 48 ≡ true
zero_stands place early = ap (λ (t : Bool). if t then is_lower_hex 48 else nat_eq 48 10) (lt-ltb place 8 early)

zeros_stand : (k from : ℕ) → from + k ≤ 8 → AllStand from (zeros k)
unfolding zeros
zeros_stand zero from few = tt
zeros_stand (suc k) from few = (zero_stands from (omega (arith, few)), zeros_stand k (suc from) (omega (arith, few)))

zeros_wrong : (place : ℕ) → place < 9 → GoesWrong 0 place (zeros place)
zeros_wrong place within = record {
  right = zeros place;
  rest = [];
  parts = sym (append-nil (zeros place));
  far = omega (arith, length-zeros place);
  within = within;
  stand = zeros_stand place 0 (omega (arith, within));
  wrong = tt;
}

wrong_head : (formulas : List Formula) (o : Option (List ℕ)) (place : ℕ) → place < 9 → IfSome o (GoesWrong 0 place) → OfInput o (λ input. IsLogRefused formulas input (errors.Refused place reasons.LogHead))
wrong_head formulas None place within w = (zeros place, head place (zeros_wrong place within))
wrong_head formulas (Some input) place within w = head place w

pub no_head : (o : Option (List ℕ)) (e : HeadError) → IsHeadStop 0 o e → RefusesAny o (error_of_head e)
unfolding RefusesAny
no_head o (heads.Wrong place) stop = λ formulas formed. wrong_head formulas o place stop.0 stop.1
no_head o heads.ReadFault stop = λ formulas formed. of_all o (λ (input : List ℕ). IsLogRefusedBy formulas input errors.ReadFault) (λ input. tt)

-- ---- what needs no reason

pub reads_fail : (o : Option (List ℕ)) → RefusesAny o errors.ReadFault
unfolding RefusesAny
reads_fail o = λ formulas formed. of_all o (λ (input : List ℕ). IsLogRefusedBy formulas input errors.ReadFault) (λ input. tt)

pub memory_ends : (o : Option (List ℕ)) → RefusesAny o errors.NoMemory
unfolding RefusesAny
memory_ends o = λ formulas formed. of_all o (λ (input : List ℕ). IsLogRefusedBy formulas input errors.NoMemory) (λ input. tt)

pub no_part : (o : Option (List ℕ)) (e : PartError) → RefusesAny o (error_of_part e)
no_part o parts.ReadFault = reads_fail o
no_part o parts.NoMemory = memory_ends o

-- ---- the file

file_refused : (formulas : List Formula) (old new : Option (List ℕ)) (bytes : List ℕ) (e : VerifiedError) → HasFile old new bytes → ((input rest : List ℕ) → HasLogParts input bytes rest → IsLogRefusedBy formulas input (error_of e)) → OfInput old (λ input. IsLogRefusedBy formulas input (error_of e))
file_refused formulas old new bytes e f go = lifted old new bytes f (λ (input : List ℕ). IsLogRefusedBy formulas input (error_of e)) (λ (rest : List ℕ). Unit {0}) (λ input rest p _. go input rest p) (of_all new (λ (rest : List ℕ). Unit {0}) (λ rest. tt))

pub no_file : (old new : Option (List ℕ)) (bytes : List ℕ) (e : VerifiedError) → HasFile old new bytes → IsNoFileBy bytes e → RefusesAny old (error_of e)
unfolding RefusesAny error_of
no_file old new bytes (files.Refused place reason) f why = λ formulas formed. file_refused formulas old new bytes (files.Refused place reason) f (λ input rest p. file bytes rest (files.Refused place reason) p why)
no_file old new bytes (files.Link rule i) f why = λ formulas formed. file_refused formulas old new bytes (files.Link rule i) f (λ input rest p. file bytes rest (files.Link rule i) p why)
no_file old new bytes (files.Verify m offset rule) f why = λ formulas formed. file_refused formulas old new bytes (files.Verify m offset rule) f (λ input rest p. file bytes rest (files.Verify m offset rule) p why)
no_file old new bytes files.ReadFault f why = reads_fail old
no_file old new bytes files.NoMemory f why = memory_ends old

pub spells_verified : (formulas : List Formula) (bytes : List ℕ) (l : LinkedFile) → AreFormulas formulas → IsVerifiedIn bytes l → SpellsVerified formulas bytes l
spells_verified formulas bytes l formed v =
    let all : IsVerifiedSetting (record { linked = l; formulas = formulas }) = record { fits = v.verified.linked.fits; linked = v.verified.linked; typed = v.verified.typed; host = formed } in
    record { spells = v.spells; verified = all; numbered = v.verified.numbered }

-- ---- the line of limits

pub some_limits : (fuel : ℕ) (m : Limits) (more : List ℕ) → 0 < length (limits_line fuel m ++ more)
some_limits fuel m more =
    let line : length (limits_text fuel m ++ (10 ∷ [])) ≡ length (limits_text fuel m) + 1 = length-append (limits_text fuel m) (10 ∷ []) in
    omega (arith, line, length-append (limits_line fuel m) more)

none_in_nothing : HasNoLimits []
none_in_nothing = λ fuel m more a e. absurd (omega (arith, some_limits fuel m more, ap length e))

of_no_limits : (o : Option (List ℕ)) → IfSome o HasNoLimits → OfInput o HasNoLimits
of_no_limits None none = ([], none_in_nothing)
of_no_limits (Some rest) none = none

-- the place behind the file, in numbers alone
behind_file : (bytes : List ℕ) (stated place p : ℕ) → place ≡ file_place + length bytes → p ≡ place → length bytes ≤ stated → stated < 2 ^ 32 → place_behind bytes 0 ≡ p
unfolding place_behind
behind_file bytes stated place p at same few low = omega (arith, at, same, few, low)

pub no_limits : (old new : Option (List ℕ)) (bytes : List ℕ) (l : LinkedFile) (place : ℕ) (e : ReplayError) → HasFile old new bytes → IsVerifiedIn bytes l → place ≡ file_place + length bytes → IsNoLine new place e → RefusesAny old e
unfolding RefusesAny
no_limits old new bytes l place (errors.Refused p reasons.LogLimits) f v at why = λ formulas formed.
    let here : place_behind bytes 0 ≡ p = behind_file bytes f.stated place p at why.0 f.few f.low in
    subst (λ (n : ℕ). OfInput old (λ input. IsLogRefusedBy formulas input (errors.Refused n reasons.LogLimits))) here
    (lifted old new bytes f (λ (input : List ℕ). IsLogRefusedBy formulas input (errors.Refused (place_behind bytes 0) reasons.LogLimits)) HasNoLimits (λ input rest p none. limits bytes rest l p (spells_verified formulas bytes l formed v) none) (of_no_limits new why.1))
no_limits old new bytes l place (errors.Refused p (reasons.File reason)) f v at why = absurd why
no_limits old new bytes l place (errors.Refused p reasons.LogHead) f v at why = absurd why
no_limits old new bytes l place (errors.Refused p reasons.LogDiffers) f v at why = absurd why
no_limits old new bytes l place (errors.Link rule i) f v at why = absurd why
no_limits old new bytes l place (errors.Verify m offset rule) f v at why = absurd why
no_limits old new bytes l place errors.ReadFault f v at why = reads_fail old
no_limits old new bytes l place errors.NoMemory f v at why = absurd why

pub read_error : (e : VerifiedError) → error_of e ≡ errors.ReadFault → e ≡ files.ReadFault
unfolding error_of
read_error (files.Refused place reason) same = absurd (cc)
read_error (files.Link rule i) same = absurd (cc)
read_error (files.Verify m offset rule) same = absurd (cc)
read_error files.ReadFault same = refl
read_error files.NoMemory same = absurd (cc)

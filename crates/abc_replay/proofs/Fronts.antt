-- What the front of a file tells that is longer than any.
use Rattle.std.proofs.Common.{◌≡◌, ◌⊎◌, ℕ, ◌+◌, ◌-◌, ◌^◌, ◌<◌, ◌≤◌, min, List, [], ◌++◌, length, take, drop, Some, None, inl, inr, refl, sym, ap, subst, ◌∙◌, arith}
use Rattle.std.proofs.Math.Seq.{take-append-add}
use Rattle.std.proofs.lemmas.Bool.{cases_lt}
use Rattle.std.specs.Io.KnownBytes.{Consumes, IsAtEnd}
use Rattle.std.specs.declared.option.Option.{Option}
use Rattle.abc_base.specs.declared.formula.Formula.{Formula}
use Rattle.abc_file.specs.Reading.{OfInput}
use Rattle.abc_file_types.specs.Files.{IsBadFile}
use Rattle.abc_file_types.specs.Part.{limit, refusal}
use Rattle.abc_file_types.specs.declared.reason.Reason.{Reason}
use Rattle.abc_log.specs.Lines.{head_line}
use Rattle.abc_verify.specs.FileRefusing.{IsFileRefused as IsNoVerifiedFile, IsFileRefusedBy as IsNoFileBy, bad, unverified}
use Rattle.abc_verify.specs.declared.verified_error.VerifiedError.{VerifiedError}
use Rattle.abc_verify.specs.declared.verified_error.VerifiedError.TheVariants as files
use Rattle.abc_replay.specs.Prefaces.{HasFile, HasFront, RefusesAny}
use Rattle.abc_replay.specs.Replays.{HasLogParts, IsLogRefused, error_of, file}
use Rattle.abc_replay.proofs.Lifted.{none_taken, parts_told}
use Rattle.abc_replay.proofs.Longer.{bad_longer}
use Rattle.abc_replay.proofs.Parts.{memory_ends, no_file, reads_fail}

-- ---- what was taken

pub has_front : (old mid new : Option (List ℕ)) (bytes : List ℕ) (stated most : ℕ) → stated < 2 ^ 32 → most ≡ min stated (limit + 1) → Consumes old mid (head_line stated) → Consumes mid new bytes → length bytes ≤ most → (length bytes ≡ most) ⊎ IsAtEnd new → HasFront old new bytes
has_front old mid new bytes stated most low is head part few end = record { stated = stated; mid = mid; low = low; head = head; part = part; few = omega (arith, few, is); end = at_end end }
  where
    at_end : (length bytes ≡ most) ⊎ IsAtEnd new → (length bytes ≡ min stated (limit + 1)) ⊎ IsAtEnd new
    at_end (inl same) = inl (same ∙ is)
    at_end (inr none) = inr none

-- ---- a front that is the whole

whole_end : (new : Option (List ℕ)) (k stated : ℕ) → k ≤ limit → (k ≡ min stated (limit + 1)) ⊎ IsAtEnd new → (k ≡ stated) ⊎ IsAtEnd new
whole_end new k stated short (inl same) = inl (omega (arith, short, same))
whole_end new k stated short (inr none) = inr none

pub whole_front : (old new : Option (List ℕ)) (bytes : List ℕ) → HasFront old new bytes → length bytes ≤ limit → HasFile old new bytes
whole_front old new bytes f short = record { stated = f.stated; mid = f.mid; low = f.low; head = f.head; part = f.part; few = omega (arith, f.few); end = whole_end new (length bytes) f.stated short f.end }

-- ---- a front of more bytes than a file has

-- the file goes on behind it, as far as is stated
record GoesOn (input bytes : List ℕ) : Type 0 where
  more : List ℕ
  rest : List ℕ
  parts : HasLogParts input (bytes ++ more) rest

goes_on : (xs rest bytes : List ℕ) (mid : Option (List ℕ)) (stated : ℕ) → stated < 2 ^ 32 → Consumes (Some xs) mid (head_line stated) → Consumes mid (Some rest) bytes → length bytes ≤ stated → GoesOn xs bytes
goes_on xs rest bytes None stated low head part few = absurd head
goes_on xs rest bytes (Some ys) stated low head part few =
    let split : stated ≡ length bytes + (stated - length bytes) = omega (arith, few) in
    let all : take stated ys ≡ bytes ++ take (stated - length bytes) rest = ap (take stated) part ∙ ap (λ (k : ℕ). take k (bytes ++ rest)) split ∙ take-append-add bytes rest (stated - length bytes) in
    record {
      more = take (stated - length bytes) rest;
      rest = drop stated ys;
      parts = record { stated = stated; following = ys; low = low; is = head; file_is = sym all; rest_is = refl };
    }

-- it isn't read as a file, so one of its bytes is at fault
at_fault : (bytes : List ℕ) (e : VerifiedError) → limit < length bytes → IsNoVerifiedFile bytes e → (place : ℕ) × (reason : Reason) × (e ≡ files.Refused place reason) × IsBadFile bytes (refusal place reason)
at_fault bytes e long (bad place reason b) = (place, reason, refl, b)
at_fault bytes e long (unverified v starts f read un) = absurd (omega (arith, long, read.1))

long_refused : (formulas : List Formula) (old new : Option (List ℕ)) (bytes : List ℕ) (place : ℕ) (reason : Reason) → HasFront old new bytes → limit < length bytes → IsBadFile bytes (refusal place reason)
    → OfInput old (λ input. IsLogRefused formulas input (error_of (files.Refused place reason)))
long_refused formulas None new bytes place reason f long b =
    (head_line (length bytes) ++ (bytes ++ []), file bytes [] (files.Refused place reason) (parts_told bytes [] (omega (arith, f.few))) (bad place reason b))
long_refused formulas (Some xs) None bytes place reason f long b = absurd (none_taken xs bytes f.mid f.stated f.head f.part)
long_refused formulas (Some xs) (Some rest) bytes place reason f long b =
    let g = goes_on xs rest bytes f.mid f.stated f.low f.head f.part (omega (arith, f.few)) in
    file (bytes ++ g.more) g.rest (files.Refused place reason) g.parts (bad place reason (bad_longer bytes g.more (refusal place reason) long b))

no_long : (old new : Option (List ℕ)) (bytes : List ℕ) (place : ℕ) (reason : Reason) → HasFront old new bytes → limit < length bytes → IsBadFile bytes (refusal place reason) → RefusesAny old (error_of (files.Refused place reason))
unfolding RefusesAny error_of
no_long old new bytes place reason f long b = λ formulas formed. long_refused formulas old new bytes place reason f long b

reads_at_fault : (old : Option (List ℕ)) → RefusesAny old (error_of files.ReadFault)
unfolding error_of
reads_at_fault old = reads_fail old

memory_at_fault : (old : Option (List ℕ)) → RefusesAny old (error_of files.NoMemory)
unfolding error_of
memory_at_fault old = memory_ends old

-- Why the front is no verified file is why the file is none.
no_file_by : (old new : Option (List ℕ)) (bytes : List ℕ) (e : VerifiedError) → HasFront old new bytes → IsNoFileBy bytes e → (limit < length bytes) ⊎ (length bytes ≤ limit) → RefusesAny old (error_of e)
no_file_by old new bytes e f why (inr short) = no_file old new bytes e (whole_front old new bytes f short) why
no_file_by old new bytes (files.Refused place reason) f why (inl long) =
    let x = at_fault bytes (files.Refused place reason) long why in
    subst (λ (y : VerifiedError). RefusesAny old (error_of y)) (sym x.2) (no_long old new bytes x.0 x.1 f long x.3)
no_file_by old new bytes (files.Link rule i) f why (inl long) = let x = at_fault bytes (files.Link rule i) long why in absurd (let clash = x.2 in cc)
no_file_by old new bytes (files.Verify m offset rule) f why (inl long) = let x = at_fault bytes (files.Verify m offset rule) long why in absurd (let clash = x.2 in cc)
no_file_by old new bytes files.ReadFault f why (inl long) = reads_at_fault old
no_file_by old new bytes files.NoMemory f why (inl long) = memory_at_fault old

pub no_front : (old new : Option (List ℕ)) (bytes : List ℕ) (e : VerifiedError) → HasFront old new bytes → IsNoFileBy bytes e → RefusesAny old (error_of e)
no_front old new bytes e f why = no_file_by old new bytes e f why (cases_lt limit (length bytes))

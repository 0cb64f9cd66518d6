-- What a verdict says of a log.
use Rattle.std.proofs.Common.{◌≡◌, ◌≢◌, ℕ, ◌-◌, ◌<◌, ◌≤◌, ◌^◌, min, List, [], ◌∷◌, ◌++◌, length, take, drop, Some, None, inl, inr, refl, sym, ap, subst, ◌∙◌, arith, take-append-drop, take_all, length-take, rules}
use Rattle.std.specs.Prelude.{◌⊎◌, IfSome, MatchOption}
use Rattle.std.specs.Io.KnownBytes.{Consumes, IsAtEnd}
use Rattle.std.specs.declared.option.Option.{Option}
use Rattle.std.proofs.KnownBytes.{Consumes-trans}
use Rattle.std.proofs.Math.Bridge.{le_prop}
use Rattle.std.proofs.Math.Logic.{∥∥₁_elim}
use Rattle.std.proofs.lemmas.List.{append-nil}
use mathlib.Core.HLevel.{hedberg}
use mathlib.Core.List.{is_set}
use native.Mathlib.Decide.{ℕ_discrete}
use Rattle.abc_base.specs.Faults.{Rose}
use Rattle.abc_log.specs.Followed.{EndsApart, FollowsLog, bytes_in, noted_name, start_note, noted_number, parts_from, start_and_since}
use Rattle.abc_log.specs.declared.compare.Verdict.{Verdict}
use Rattle.abc_log.specs.declared.compare.Verdict.TheVariants.{Differs, ReadFault, Same}
use Rattle.abc_log.proofs.Following.{bytes_noted, name_noted, number_noted, told-append, told_bytes, told_start}
use Rattle.abc_log.specs.Checks.{ComparedAs, IsCompared, IsWritten, PartsAt, front, whole}
use Rattle.abc_log.proofs.Parting.{parts_longer}

-- ---- there is one such fact

consumes_prop : (a b : Option (List ℕ)) (bytes : List ℕ) → IsProp (Consumes a b bytes)
consumes_prop None b bytes = λ x y. refl
consumes_prop (Some xs) None bytes = λ x y. absurd x
consumes_prop (Some xs) (Some ys) bytes = is_set (hedberg ℕ_discrete) xs (bytes ++ ys)

place_prop : (n : ℕ) (o : Option ℕ) → IsProp (MatchOption o ⊥ (λ k. n ≡ min k (2 ^ 64 - 1)))
place_prop n None = λ x y. absurd x
place_prop n (Some k) = hedberg ℕ_discrete n (min k (2 ^ 64 - 1))

parts_prop : (lines : List ℕ) (n : ℕ) (o : Option (List ℕ)) → IsProp (IfSome o (PartsAt lines n))
parts_prop lines n None = λ x y. refl
parts_prop lines n (Some found) = place_prop n (parts_from 0 found lines)

compared_prop : (lines : List ℕ) (steps n : ℕ) (start : Option (List ℕ)) (before : ℕ) (left : Option (List ℕ)) (faults agreed : ℕ) (v : Verdict) → IsProp (ComparedAs lines steps n start before left faults agreed v)
compared_prop lines steps n start before left faults agreed Same =
    let nats : IsSet ℕ = hedberg ℕ_discrete in
    hlevel (nats, consumes_prop start left lines)
compared_prop lines steps n start before left faults agreed (Differs k) = hlevel (le_prop, parts_prop lines k start)
compared_prop lines steps n start before left faults agreed ReadFault = le_prop

one_compared : (lines : List ℕ) (steps n : ℕ) (start : Option (List ℕ)) (before : ℕ) (left : Option (List ℕ)) (faults agreed : ℕ) (v : Verdict) → IsProp (IsCompared lines steps n start before left faults agreed v)
one_compared lines steps n start before left faults agreed v = hlevel (le_prop, compared_prop lines steps n start before left faults agreed v)

-- ---- from what was written

pub at_place : (lines : List ℕ) (n k : ℕ) (found : List ℕ) → parts_from 0 found lines ≡ Some k → n ≡ min k (2 ^ 64 - 1) → PartsAt lines n found
at_place lines n k found e is = subst (λ (o : Option ℕ). MatchOption o ⊥ (λ k. n ≡ min k (2 ^ 64 - 1))) (sym e) is

parted : (lines bytes : List ℕ) (far k : ℕ) (o : Option (List ℕ)) → bytes ≡ take far lines → 0 < length bytes → k ≡ min (length bytes - 1) (2 ^ 64 - 1) → IfSome o (EndsApart bytes) → IfSome o (PartsAt lines k)
parted lines bytes far k None is some at apart = tt
parted lines bytes far k (Some found) is some at apart =
    let all : bytes ++ drop far lines ≡ lines = ap (λ (l : List ℕ). l ++ drop far lines) is ∙ take-append-drop far lines in
    at_place lines k (length bytes - 1) found (sym (ap (parts_from 0 found) all) ∙ parts_longer 0 (length bytes - 1) found bytes (drop far lines) apart (omega (arith, some))) at

from_follows : (lines bytes : List ℕ) (steps n : ℕ) (start : Option (List ℕ)) (before : ℕ) (left : Option (List ℕ)) (faults agreed : ℕ) (v : Verdict) (far : ℕ) → bytes ≡ take far lines → (v ≡ Same → (bytes ≡ lines) × (n ≡ steps))
    → FollowsLog start before bytes left faults agreed v → IsCompared lines steps n start before left faults agreed v
from_follows lines bytes steps n start before left faults agreed Same far is all f =
    let w = all refl in
    record { later = f.later; is = (subst (Consumes start left) w.0 f.is.0, f.is.1 ∙ ap (λ (l : List ℕ). min (length l) (2 ^ 64 - 1)) w.0, w.1) }
from_follows lines bytes steps n start before left faults agreed (Differs k) far is all f =
    let few : length bytes ≡ min far (length lines) = ap length is ∙ length-take far lines in
    record { later = f.later; is = (omega (arith, few, f.is.0, f.is.1), omega (arith, f.is.1), parted lines bytes far k start is f.is.0 f.is.1 f.is.2) }
from_follows lines bytes steps n start before left faults agreed ReadFault far is all f = record { later = f.later; is = f.is }

-- of what is told in the end, by what is told at the start
record IsTold (lines start start2 bytes2 : List ℕ) (steps n fb fn : ℕ) : Type 0 where
  same : start2 ≡ start
  far : ℕ
  is : bytes2 ≡ take far lines
  all : (Rose fb fn → ⊥) → (bytes2 ≡ lines) × (n ≡ steps)

told_all : (lines : List ℕ) → lines ≡ take (length lines) lines
told_all lines = sym (take_all (length lines) lines (omega arith))

is_told : (lines start start2 bytes2 : List ℕ) (steps n fb fn : ℕ) → IsWritten lines steps n (Some (start_and_since start [])) (Some (start_and_since start2 bytes2)) fb fn → IsTold lines start start2 bytes2 steps n fb fn
is_told lines start start2 bytes2 steps n fb fn (whole counted new) =
    let grown : Some (start_and_since start2 bytes2) ≡ Some (start_and_since start lines) = new (search rules) ∙ ap Some (told-append start [] lines) in
    let e : start_and_since start2 bytes2 ≡ start_and_since start lines = cc in
    let same : start2 ≡ start = told_start start2 start bytes2 lines e in
    let bytes : bytes2 ≡ lines = told_bytes start2 start bytes2 lines e in
    record { same = same; far = length lines; is = bytes ∙ told_all lines; all = λ _. (bytes, counted) }
is_told lines start start2 bytes2 steps n fb fn (front rose new) =
    let grows = new (search rules) in
    let grown : Some (start_and_since start2 bytes2) ≡ Some (start_and_since start (take grows.count lines)) = grows.front ∙ ap Some (told-append start [] (take grows.count lines)) in
    let e : start_and_since start2 bytes2 ≡ start_and_since start (take grows.count lines) = cc in
    record { same = told_start start2 start bytes2 (take grows.count lines) e; far = grows.count; is = told_bytes start2 start bytes2 (take grows.count lines) e; all = λ none. absurd (none rose) }

-- what is lent has the name that it had
pub same_name : (start start2 name now : List ℕ) (lent back number : ℕ) (o : Option (List ℕ)) → start ≡ start_note (lent ∷ name) number o → start2 ≡ start → back ∷ now ≡ noted_name start2 → back ≡ lent
same_name start start2 name now lent back number o at same named =
    let is : noted_name start2 ≡ lent ∷ name = ap noted_name (same ∙ at) ∙ name_noted (lent ∷ name) number o in
    let both : back ∷ now ≡ lent ∷ name = named ∙ is in
    cc

-- what is told at the start stays
pub same_start : (lines start start2 bytes2 : List ℕ) (steps n fb fn : ℕ) → IsWritten lines steps n (Some (start_and_since start [])) (Some (start_and_since start2 bytes2)) fb fn → start2 ≡ start
same_start lines start start2 bytes2 steps n fb fn written = (is_told lines start start2 bytes2 steps n fb fn written).same

pub is_compared : (lines start start2 bytes2 name : List ℕ) (steps n number : ℕ) (o left : Option (List ℕ)) (faults agreed : ℕ) (v : Verdict) (fb fn : ℕ) → start ≡ start_note name number o
    → IsWritten lines steps n (Some (start_and_since start [])) (Some (start_and_since start2 bytes2)) fb fn → (v ≡ Same → fn ≡ 0) → ∥ FollowsLog (bytes_in start2) (noted_number start2) bytes2 left faults agreed v ∥₁ → IsCompared lines steps n o number left faults agreed v
is_compared lines start start2 bytes2 name steps n number o left faults agreed v fb fn at written quiet follows =
    let t = is_told lines start start2 bytes2 steps n fb fn written in
    let bytes : bytes_in start2 ≡ o = ap bytes_in (t.same ∙ at) ∙ bytes_noted name number o in
    let count : noted_number start2 ≡ number = ap noted_number (t.same ∙ at) ∙ number_noted name number o in
    ∥∥₁_elim follows (one_compared lines steps n o number left faults agreed v) (λ f.
    from_follows lines bytes2 steps n o number left faults agreed v t.far t.is (λ same. t.all (λ rose. omega (arith, rose, quiet same)))
    (subst (λ (x : Option (List ℕ)). FollowsLog x number bytes2 left faults agreed v) bytes (subst (λ (k : ℕ). FollowsLog (bytes_in start2) k bytes2 left faults agreed v) count f)))

-- ---- to what is answered

-- some bytes were taken, so there were some
pub some_left : (old new : Option (List ℕ)) (bytes : List ℕ) → 0 < length bytes → Consumes old new bytes → IfSome old (λ rest. rest ≢ [])
some_left None new bytes some taken = tt
some_left (Some xs) None bytes some taken = absurd taken
some_left (Some xs) (Some ys) [] some taken = absurd (omega (arith, some))
some_left (Some xs) (Some ys) (b ∷ bytes) some taken = λ e. let clash : [] ≡ b ∷ (bytes ++ ys) = sym e ∙ taken in cc

rose_on : (a b c : ℕ) → Rose a b → b ≤ c → Rose a c
rose_on a b c rose low = omega arith

rose_from : (a b c : ℕ) → a ≤ b → Rose b c → Rose a c
rose_from a b c low rose = omega arith

compared_rose : (lines : List ℕ) (steps n : ℕ) (start left : Option (List ℕ)) (before faulty agreed : ℕ) (v : Verdict) → IsCompared lines steps n start before left faulty agreed v → v ≡ ReadFault → Rose before faulty
compared_rose lines steps n start left before faulty agreed Same c e = absurd (cc)
compared_rose lines steps n start left before faulty agreed (Differs k) c e = absurd (cc)
compared_rose lines steps n start left before faulty agreed ReadFault c e = c.is

pub has_cause : (lines : List ℕ) (steps n : ℕ) (start left : Option (List ℕ)) (before faulty now agreed : ℕ) (v : Verdict) → IsCompared lines steps n start before left faulty agreed v → faulty ≤ now → (v ≡ ReadFault) ⊎ Rose faulty now → Rose before now
has_cause lines steps n start left before faulty now agreed v c low (inl e) = rose_on before faulty now (compared_rose lines steps n start left before faulty agreed v c e) low
has_cause lines steps n start left before faulty now agreed v c low (inr rose) = rose_from before faulty now c.later rose

pub all_there : (lines : List ℕ) (steps n : ℕ) (start left new : Option (List ℕ)) (before faulty agreed : ℕ) (v : Verdict) → IsCompared lines steps n start before left faulty agreed v → (v ≡ Same) × Consumes left new [] × IsAtEnd new → Consumes start new lines × IsAtEnd new × (n ≡ steps)
all_there lines steps n start left new before faulty agreed v c end =
    let same = subst (ComparedAs lines steps n start before left faulty agreed) end.0 c.is in
    (subst (Consumes start new) (append-nil lines) (Consumes-trans start left new lines [] same.0 end.1), end.2, same.2)

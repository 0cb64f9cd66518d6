-- What a log that was compared says of the input.
use Rattle.std.proofs.Common.{◌≡◌, ◌≢◌, ℕ, ◌+◌, ◌-◌, ◌<◌, ◌^◌, min, List, [], ◌∷◌, ◌++◌, length, take, Some, None, refl, sym, ap, subst, ◌∙◌, arith, append_assoc, zero-add}
use Rattle.std.specs.Prelude.{IfSome, MatchOption}
use Rattle.std.proofs.lemmas.List.{append-nil}
use Rattle.std.specs.Io.KnownBytes.{Consumes, IsAtEnd}
use Rattle.std.specs.declared.option.Option.{Option}
use Rattle.abc_base.specs.Hosts.{AreFormulas}
use Rattle.abc_base.specs.declared.formula.Formula.{Formula}
use Rattle.abc_log.specs.Followed.{parts_from}
use Rattle.abc_log.specs.declared.compare.Verdict.{Verdict}
use Rattle.abc_log.specs.declared.compare.Verdict.TheVariants as verdicts
use Rattle.abc_file.specs.Reading.{IsUsedUp, OfInput}
use Rattle.abc_heap_store.specs.declared.records.Limits.{Limits}
use Rattle.abc_log.specs.declared.limits.LimitsLine.{LimitsLine}
use Rattle.abc_log.specs.Lines.{AreLimits, head_line, limits_line}
use Rattle.abc_meaning.specs.Logs.{log, steps}
use Rattle.abc_log.specs.Checks.{IsCompared, IsLogFault, PartsAt}
use Rattle.abc_log.specs.declared.check.LogFault.{LogFault}
use Rattle.abc_log.specs.declared.check.LogFault.TheVariants as faults
use Rattle.abc_log.proofs.Judging.{at_place}
use Rattle.abc_log.proofs.Parting.{front_parts, longer_parts}
use Rattle.abc_link_names.specs.Linked.{LinkedFile}
use Rattle.abc_replay.specs.Prefaces.{HasPreface, error_of_log}
use Rattle.abc_replay.specs.Replays.{HasLogParts, IsLogRefusedBy, IsReplayed, SpellsVerified, differs, file_place, place_behind}
use Rattle.abc_replay.specs.declared.error.ReplayError.TheVariants as errors
use Rattle.abc_replay.specs.declared.error.ReplayReason.TheVariants as reasons
use Rattle.abc_replay.proofs.Inputs.{of_all, of_consumed, of_end, of_map}
use Rattle.abc_replay.proofs.Lifted.{few_bytes, filled, lifted}
use Rattle.abc_replay.proofs.Parts.{some_limits, spells_verified}

-- ---- a log

replayed : (formulas : List Formula) (l : LinkedFile) (bytes : List ℕ) (fuel : ℕ) (m : Limits) (n : ℕ) (input rest : List ℕ) → HasLogParts input bytes rest → SpellsVerified formulas bytes l → AreLimits fuel m
    → rest ≡ limits_line fuel m ++ log (record { linked = l; formulas = formulas }) m fuel → n ≡ steps (record { linked = l; formulas = formulas }) m fuel → IsReplayed formulas input n
replayed formulas l bytes fuel m n input rest parts spells limits e counted =
    let lines = log (record { linked = l; formulas = formulas }) m fuel in
    let some : 0 < length rest = subst (λ (r : List ℕ). 0 < length r) (sym e) (some_limits fuel m lines) in
    let is : input ≡ head_line (length bytes) ++ bytes ++ limits_line fuel m ++ lines =
    filled input bytes rest parts some
    ∙ ap (λ (r : List ℕ). head_line (length bytes) ++ (bytes ++ r)) e
    ∙ sym (append_assoc (head_line (length bytes)) bytes (limits_line fuel m ++ lines))
    ∙ sym (append_assoc (head_line (length bytes) ++ bytes) (limits_line fuel m) lines) in
    record { linked = l; fuel = fuel; limits = m; is = record { file = bytes; spells = spells.spells; short = few_bytes input bytes rest parts; verified = spells.verified; numbered = spells.numbered; limits = limits; is = is }; counted = counted }

pub replays : (formulas : List Formula) (old left end : Option (List ℕ)) (l : LinkedFile) (line : LimitsLine) (place n : ℕ) → AreFormulas formulas → HasPreface old left l line place
    → Consumes left end (log (record { linked = l; formulas = formulas }) line.limits line.fuel) → IsAtEnd end → n ≡ steps (record { linked = l; formulas = formulas }) line.limits line.fuel → OfInput old (λ input. IsReplayed formulas input n)
replays formulas old left end l line place n formed before taken at_end counted =
    let lines = log (record { linked = l; formulas = formulas }) line.limits line.fuel in
    let behind : List ℕ = limits_line line.fuel line.limits in
    lifted old before.mid before.bytes before.file (λ (input : List ℕ). IsReplayed formulas input n) (λ (rest : List ℕ). rest ≡ behind ++ lines)
    (λ input rest parts e. replayed formulas l before.bytes line.fuel line.limits n input rest parts (spells_verified formulas before.bytes l formed before.verified) before.limits e counted)
    (of_consumed before.mid left behind (λ (rest : List ℕ). rest ≡ behind ++ lines) before.taken
    (of_consumed left end lines (λ (rest : List ℕ). behind ++ rest ≡ behind ++ lines) taken
    (of_map end (λ (rest : List ℕ). rest ≡ []) (λ (rest : List ℕ). behind ++ (lines ++ rest) ≡ behind ++ lines) (λ rest e. ap (λ (r : List ℕ). behind ++ (lines ++ r)) e ∙ ap (λ (r : List ℕ). behind ++ r) (append-nil lines)) (of_end end at_end))))

-- nothing is left of it
still_told : (a b : Option (List ℕ)) (bytes xs : List ℕ) → Consumes a b bytes → a ≡ Some xs → (ys : List ℕ) × (b ≡ Some ys)
still_told None b bytes xs taken e = absurd (cc)
still_told (Some zs) None bytes xs taken e = absurd taken
still_told (Some zs) (Some ys) bytes xs taken e = (ys, refl)

ended : (end : Option (List ℕ)) (ys : List ℕ) → end ≡ Some ys → IsAtEnd end → end ≡ Some []
ended None ys e at_end = absurd (cc)
ended (Some xs) ys e at_end = ap Some at_end

pub used_up : (old left end : Option (List ℕ)) (l : LinkedFile) (line : LimitsLine) (place : ℕ) (lines : List ℕ) → HasPreface old left l line place → Consumes left end lines → IsAtEnd end → IsUsedUp old end
used_up None left end l line place lines before taken at_end = tt
used_up (Some xs) left end l line place lines before taken at_end =
    let a = still_told (Some xs) before.file.mid _ xs before.file.head refl in
    let b = still_told before.file.mid before.mid before.bytes a.0 before.file.part a.1 in
    let c = still_told before.mid left _ b.0 before.taken b.1 in
    let d = still_told left end lines c.0 taken c.1 in
    ended end d.0 d.1 at_end

-- ---- no log

of_some : (o : Option (List ℕ)) → IfSome o (λ rest. rest ≢ []) → OfInput o (λ rest. rest ≢ [])
of_some None some = (0 ∷ [], λ e. cc)
of_some (Some rest) some = some

parts_there : (lines : List ℕ) (counted n : ℕ) (start : Option (List ℕ)) (before : ℕ) (left : Option (List ℕ)) (faulty agreed k : ℕ) → IsCompared lines counted n start before left faulty agreed (verdicts.Differs k) → OfInput start (PartsAt lines k)
parts_there lines counted n None before left faulty agreed k c = (take k lines, at_place lines k k (take k lines) (front_parts 0 k lines c.is.0 ∙ ap Some (zero-add k)) (omega (arith, c.is.1)))
parts_there lines counted n (Some found) before left faulty agreed k c = c.is.2

goes_on : (lines : List ℕ) (start left : Option (List ℕ)) (agreed : ℕ) → Consumes start left lines → agreed ≡ min (length lines) (2 ^ 64 - 1) → OfInput left (λ rest. rest ≢ []) → OfInput start (PartsAt lines agreed)
goes_on lines start left agreed taken is more =
    of_consumed start left lines (PartsAt lines agreed) taken
    (of_map left (λ (rest : List ℕ). rest ≢ []) (λ (rest : List ℕ). PartsAt lines agreed (lines ++ rest)) (λ rest some. at_place lines agreed (length lines) (lines ++ rest) (longer_parts 0 lines rest some ∙ ap Some (zero-add (length lines))) is) more)

-- the verdict, or what follows, says where the bytes behind the line of limits part from the log
judged : (lines : List ℕ) (counted n : ℕ) (start left : Option (List ℕ)) (before faulty agreed k : ℕ) (v : Verdict) → IsCompared lines counted n start before left faulty agreed v → IsLogFault v left agreed (faults.Differs k) → OfInput start (PartsAt lines k)
judged lines counted n start left before faulty agreed k verdicts.Same c f = subst (λ (j : ℕ). OfInput start (PartsAt lines j)) (sym f.0) (goes_on lines start left agreed c.is.0 c.is.1 (of_some left f.1))
judged lines counted n start left before faulty agreed k (verdicts.Differs j) c f =
    let same : j ≡ k = cc in
    subst (λ (i : ℕ). OfInput start (PartsAt lines i)) same (parts_there lines counted n start before left faulty agreed j c)
judged lines counted n start left before faulty agreed k verdicts.ReadFault c f = absurd (cc)

-- what stands behind a file: the line of limits, and bytes that part from the log
record Differing (lines behind : List ℕ) (k : ℕ) (rest : List ℕ) : Type 0 where
  found : List ℕ
  is : rest ≡ behind ++ found
  at : PartsAt lines k found

from_place : (o : Option ℕ) (k : ℕ) → MatchOption o ⊥ (λ j. k ≡ min j (2 ^ 64 - 1)) → (j : ℕ) × ((o ≡ Some j) × (k ≡ min j (2 ^ 64 - 1)))
from_place None k at = absurd at
from_place (Some j) k at = (j, (refl, at))

-- the place is that of the byte behind the line, in numbers alone
same_place : (bytes : List ℕ) (line j k place : ℕ) → place ≡ file_place + length bytes + line → k ≡ min j (2 ^ 64 - 1) → place_behind bytes (line + j) ≡ min (place + k) (2 ^ 64 - 1)
unfolding place_behind
same_place bytes line j k place at far = omega (arith, at, far)

differs_there : (formulas : List Formula) (old left : Option (List ℕ)) (l : LinkedFile) (line : LimitsLine) (place k : ℕ) → AreFormulas formulas → HasPreface old left l line place
    → OfInput left (PartsAt (log (record { linked = l; formulas = formulas }) line.limits line.fuel) k) → OfInput old (λ input. IsLogRefusedBy formulas input (errors.Refused (min (place + k) (2 ^ 64 - 1)) reasons.LogDiffers))
differs_there formulas old left l line place k formed before parted =
    let lines = log (record { linked = l; formulas = formulas }) line.limits line.fuel in
    let behind : List ℕ = limits_line line.fuel line.limits in
    lifted old before.mid before.bytes before.file (λ (input : List ℕ). IsLogRefusedBy formulas input (errors.Refused (min (place + k) (2 ^ 64 - 1)) reasons.LogDiffers)) (Differing lines behind k)
    (λ input rest parts d.
    let there = from_place (parts_from 0 d.found lines) k d.at in
    let same : place_behind before.bytes (length behind + there.0) ≡ min (place + k) (2 ^ 64 - 1) = same_place before.bytes (length behind) there.0 k place before.begins there.1.1 in
    subst (λ (n : ℕ). IsLogRefusedBy formulas input (errors.Refused n reasons.LogDiffers)) same
    (differs before.bytes rest d.found l line.fuel line.limits there.0 parts (spells_verified formulas before.bytes l formed before.verified) before.limits d.is there.1.0))
    (of_consumed before.mid left behind (Differing lines behind k) before.taken (of_map left (PartsAt lines k) (λ (found : List ℕ). Differing lines behind k (behind ++ found)) (λ found at. record { found = found; is = refl; at = at }) parted))

pub refuses : (formulas : List Formula) (old left now : Option (List ℕ)) (l : LinkedFile) (line : LimitsLine) (place counted n before faulty agreed : ℕ) (v : Verdict) (f : LogFault) → AreFormulas formulas → HasPreface old left l line place
    → IsCompared (log (record { linked = l; formulas = formulas }) line.limits line.fuel) counted n left before now faulty agreed v → IsLogFault v now agreed f → OfInput old (λ input. IsLogRefusedBy formulas input (error_of_log place f))
refuses formulas old left now l line place counted n before faulty agreed v (faults.Differs k) formed preface c f = differs_there formulas old left l line place k formed preface (judged _ counted n left now before faulty agreed k v c f)
refuses formulas old left now l line place counted n before faulty agreed v faults.ReadFault formed preface c f = of_all old (λ (input : List ℕ). IsLogRefusedBy formulas input errors.ReadFault) (λ input. tt)

-- What is known of a source that is lent to a comparison, by the name that it is lent under.
use Rattle.std.proofs.Common.{◌≡◌, ◌≤◌, ℕ, List, [], ◌∷◌, Err, Ok, Some, ap, subst, ◌∙◌}
use Rattle.std.specs.Prelude.{IfOk, OnErr}
use Rattle.std.proofs.Math.Bridge.{le_prop}
use Rattle.std.proofs.Math.Logic.{∥∥₁_elim}
use Rattle.std.specs.declared.option.Option.{Option}
use Rattle.std.specs.declared.result.Result.{Result}
use Rattle.abc_base.specs.declared.memory.NoMemory.{NoMemory}
use Rattle.abc_log.specs.Followed.{FollowsLog, bytes_in, start_note, noted_number, start_and_since}
use Rattle.abc_log.specs.declared.compare.Verdict.{Verdict}
use Rattle.abc_log.specs.declared.compare.Verdict.TheVariants.{Same}
use Rattle.abc_log.proofs.Following.{number_noted}
use Rattle.abc_log.specs.Checks.{IsCompared, IsWritten}
use Rattle.abc_log.proofs.Judging.{is_compared, same_start}

-- the history begins as it did, whatever came of the writing
pub begins_so : {None : Type 0} (lines start start2 bytes2 : List ℕ) (steps fb fn : ℕ) (r : Result ℕ NoMemory) → IfOk r (λ n. IsWritten lines steps n (Some (start_and_since start [])) (Some (start_and_since start2 bytes2)) fb fn) → (None → start2 ≡ start) → OnErr r None → start2 ≡ start
begins_so {None} lines start start2 bytes2 steps fb fn (Ok n) written same none = same_start lines start start2 bytes2 steps n fb fn written
begins_so {None} lines start start2 bytes2 steps fb fn (Err e) written same none = same none

-- its count of faults did not fall since
pub lent_later : (start start2 bytes2 name : List ℕ) (lent number : ℕ) (o left : Option (List ℕ)) (faults agreed : ℕ) (v : Verdict) → start ≡ start_note (lent ∷ name) number o → start2 ≡ start
    → ∥ FollowsLog (bytes_in start2) (noted_number start2) bytes2 left faults agreed v ∥₁ → number ≤ faults
lent_later start start2 bytes2 name lent number o left faults agreed v at same follows =
    let count : noted_number start2 ≡ number = ap noted_number (same ∙ at) ∙ number_noted (lent ∷ name) number o in
    ∥∥₁_elim follows le_prop (λ f. subst (λ (k : ℕ). k ≤ faults) count f.later)

-- what was written is compared with what it gave
pub lent_compared : (lines start start2 bytes2 name : List ℕ) (lent steps n number : ℕ) (o left : Option (List ℕ)) (faults agreed : ℕ) (v : Verdict) (fb fn : ℕ) → start ≡ start_note (lent ∷ name) number o
    → IsWritten lines steps n (Some (start_and_since start [])) (Some (start_and_since start2 bytes2)) fb fn → (v ≡ Same → fn ≡ 0) → ∥ FollowsLog (bytes_in start2) (noted_number start2) bytes2 left faults agreed v ∥₁ → IsCompared lines steps n o number left faults agreed v
lent_compared lines start start2 bytes2 name lent steps n number o left faults agreed v fb fn at written quiet follows =
    is_compared lines start start2 bytes2 (lent ∷ name) steps n number o left faults agreed v fb fn at written quiet follows

-- where there was memory
pub compared_so : (lines start start2 bytes2 name : List ℕ) (lent steps number : ℕ) (o left : Option (List ℕ)) (faults agreed : ℕ) (v : Verdict) (fb fn : ℕ) (r : Result ℕ NoMemory) → start ≡ start_note (lent ∷ name) number o
    → IfOk r (λ n. IsWritten lines steps n (Some (start_and_since start [])) (Some (start_and_since start2 bytes2)) fb fn) → (v ≡ Same → fn ≡ 0) → ∥ FollowsLog (bytes_in start2) (noted_number start2) bytes2 left faults agreed v ∥₁ → IfOk r (λ n. IsCompared lines steps n o number left faults agreed v)
compared_so lines start start2 bytes2 name lent steps number o left faults agreed v fb fn (Ok n) at written quiet follows = lent_compared lines start start2 bytes2 name lent steps n number o left faults agreed v fb fn at written quiet follows
compared_so lines start start2 bytes2 name lent steps number o left faults agreed v fb fn (Err e) at written quiet follows = tt

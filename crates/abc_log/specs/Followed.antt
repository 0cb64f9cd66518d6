-- What was written against what a source had (a tool of other definitions; profile: docs/PROGRAM.md, "Logs", for where a log differs).
use Rattle.std.specs.Prelude.{◌≡◌, ℕ, suc, ◌-◌, ◌^◌, ◌<◌, ◌≤◌, List, [], ◌∷◌, ◌++◌, drop, length, min, nat_eq, take, Some, None, IfSome, if◌then◌else◌}
use Rattle.std.specs.Io.KnownBytes.{Consumes}
use Rattle.std.specs.declared.option.Option.{Option}
use Rattle.abc_base.specs.Faults.{Rose}
use Rattle.abc_log.specs.declared.compare.Verdict.{Verdict}
use Rattle.abc_log.specs.declared.compare.Verdict.TheVariants.{Differs, ReadFault, Same}

-- what there was at the start, as a list that tells it, with the bytes since behind it
abbrev pub start_and_since : (start bytes : List ℕ) → List ℕ
start_and_since start bytes = length start ∷ (start ++ bytes)

-- bytes, where they are told, as a list that tells which
abbrev pub option_code : Option (List ℕ) → List ℕ
option_code None = []
option_code (Some bytes) = 0 ∷ bytes

abbrev pub option_of_code : List ℕ → Option (List ℕ)
option_of_code [] = None
option_of_code (n ∷ bytes) = Some bytes

-- a list, a number, and bytes where they are told
abbrev pub start_note : (name : List ℕ) → ℕ → Option (List ℕ) → List ℕ
start_note name n bytes = length name ∷ (name ++ n ∷ option_code bytes)

-- the list in what `start_note` makes of a list, a number and bytes
abbrev pub noted_name : List ℕ → List ℕ
noted_name [] = []
noted_name (k ∷ rest) = take k rest

abbrev pub behind_name : List ℕ → List ℕ
behind_name [] = []
behind_name (k ∷ rest) = drop k rest

abbrev pub first_number : List ℕ → ℕ
first_number [] = 0
first_number (n ∷ code) = n

abbrev pub first_bytes : List ℕ → Option (List ℕ)
first_bytes [] = None
first_bytes (n ∷ code) = option_of_code code

-- the number in it
abbrev pub noted_number : List ℕ → ℕ
noted_number start = first_number (behind_name start)

-- the bytes in it, where they are known
abbrev pub bytes_in : List ℕ → Option (List ℕ)
bytes_in start = first_bytes (behind_name start)

-- where bytes part from others, from place i on: at the first that differs, is missing or is too much
abbrev pub parts_from : ℕ → (found wanted : List ℕ) → Option ℕ
parts_from i [] [] = None
parts_from i [] (w ∷ ws) = Some i
parts_from i (b ∷ bs) [] = Some i
parts_from i (b ∷ bs) (w ∷ ws) = if nat_eq b w then parts_from (suc i) bs ws else Some i

-- the last of these bytes is the first that the source did not have there
abbrev pub EndsApart : List ℕ → List ℕ → Type 0
EndsApart bytes start = parts_from 0 start bytes ≡ Some (length bytes - 1)

abbrev pub FollowsAs : Option (List ℕ) → (before : ℕ) → List ℕ → Option (List ℕ) → (faults agreed : ℕ) → Verdict → Type 0
FollowsAs start before bytes left faults agreed Same = Consumes start left bytes × (agreed ≡ min (length bytes) (2 ^ 64 - 1))
FollowsAs start before bytes left faults agreed (Differs n) = (0 < length bytes) × (n ≡ min (length bytes - 1) (2 ^ 64 - 1)) × IfSome start (EndsApart bytes)
FollowsAs start before bytes left faults agreed ReadFault = Rose before faults

-- what the verdict says of these bytes, of what is left and of the failures
pub record FollowsLog (start : Option (List ℕ)) (before : ℕ) (bytes : List ℕ) (left : Option (List ℕ)) (faults agreed : ℕ) (verdict : Verdict) : Type 0 where
  pub later : before ≤ faults
  pub is : FollowsAs start before bytes left faults agreed verdict

-- these bytes go on from others that all agreed: so much is left now, with so many failures and so many that agreed, and this verdict
abbrev pub FollowsOn : (left : Option (List ℕ)) → (faults agreed : ℕ) → List ℕ → (left_now : Option (List ℕ)) → (faults_now agreed_now : ℕ) → Verdict → Type 0
FollowsOn left faults agreed bytes left_now faults_now agreed_now verdict =
    (start : Option (List ℕ)) (before : ℕ) (written : List ℕ) → FollowsLog start before written left faults agreed Same → FollowsLog start before (written ++ bytes) left_now faults_now agreed_now verdict

-- What a log is checked by: what was written while it was compared with what a source gives.
use Rattle.std.specs.Prelude.{◌≡◌, ◌≢◌, ◌-◌, ℕ, ◌^◌, ◌<◌, ◌≤◌, List, [], IfSome, IsSome, MatchOption, length, min}
use Rattle.std.specs.Io.KnownBytes.{Consumes, append_known}
use Rattle.std.specs.declared.option.Option.{Option}
use Rattle.abc_base.specs.Faults.{Rose}
use Rattle.abc_base.specs.Sinks.{GrowsByFront}
use Rattle.abc_log.specs.Followed.{parts_from}
use Rattle.abc_log.specs.declared.compare.Verdict.{Verdict}
use Rattle.abc_log.specs.declared.compare.Verdict.TheVariants.{Differs, ReadFault, Same}
use Rattle.abc_log.specs.declared.check.LogFault.{LogFault}
use Rattle.abc_log.specs.declared.check.LogFault.TheVariants as faults

-- all the lines were written, and so many steps taken; or the front of them was, where writing failed
pub data IsWritten (lines : List ℕ) (steps n : ℕ) (old new : Option (List ℕ)) (before now : ℕ) : Type 0 where
  whole : n ≡ steps → (IsSome old → new ≡ append_known old lines) → IsWritten lines steps n old new before now
  front : Rose before now → (IsSome old → GrowsByFront old new lines) → IsWritten lines steps n old new before now

-- bytes part from the lines at this place, which stands still at 2^64 - 1
abbrev pub PartsAt : (lines : List ℕ) → (n : ℕ) → (found : List ℕ) → Type 0
PartsAt lines n found = MatchOption (parts_from 0 found lines) ⊥ (λ k. n ≡ min k (2 ^ 64 - 1))

-- the lines are just what was given; or what was given parts from them; or a read failed
abbrev pub ComparedAs : (lines : List ℕ) → (steps n : ℕ) → (start : Option (List ℕ)) → (before : ℕ) → (left : Option (List ℕ)) → (faults agreed : ℕ) → Verdict → Type 0
ComparedAs lines steps n start before left faults agreed Same = Consumes start left lines × (agreed ≡ min (length lines) (2 ^ 64 - 1)) × (n ≡ steps)
ComparedAs lines steps n start before left faults agreed (Differs k) = (k < length lines) × (k ≤ 2 ^ 64 - 1) × IfSome start (PartsAt lines k)
ComparedAs lines steps n start before left faults agreed ReadFault = Rose before faults

-- the lines were compared with what was given from here on, where the verdict says that; and so many steps taken
pub record IsCompared (lines : List ℕ) (steps n : ℕ) (start : Option (List ℕ)) (before : ℕ) (left : Option (List ℕ)) (faults agreed : ℕ) (verdict : Verdict) : Type 0 where
  pub later : before ≤ faults
  pub is : ComparedAs lines steps n start before left faults agreed verdict

-- something follows what agreed
abbrev pub IsTooMuch : (left : Option (List ℕ)) → (agreed : ℕ) → LogFault → Type 0
IsTooMuch left agreed (faults.Differs n) = (n ≡ agreed) × IfSome left (λ rest. rest ≢ [])
IsTooMuch left agreed faults.ReadFault = Unit {0}

-- what the verdict says, or that something follows
abbrev pub IsLogFault : Verdict → (left : Option (List ℕ)) → (agreed : ℕ) → LogFault → Type 0
IsLogFault Same left agreed e = IsTooMuch left agreed e
IsLogFault (Differs k) left agreed e = e ≡ faults.Differs k
IsLogFault ReadFault left agreed e = e ≡ faults.ReadFault

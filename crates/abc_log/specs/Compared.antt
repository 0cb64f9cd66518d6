-- What was compared with the bytes of a source.
use Rattle.std.specs.Prelude.{◌≡◌, ◌⊎◌, ℕ, ◌≤◌, List, [], ◌∷◌, Some, MatchResult}
use Rattle.std.specs.Io.KnownBytes.{Consumes}
use Rattle.std.specs.declared.option.Option.{Option}
use Rattle.std.specs.declared.result.Result.{Result}
use Rattle.abc_base.specs.Faults.{Rose}
use Rattle.abc_base.specs.Views.{one_more}
use Rattle.abc_base.specs.declared.source.Failed.{Failed}
use Rattle.abc_log.specs.CompareViews.{CompareView}
use Rattle.abc_log.specs.declared.compare.Verdict.TheVariants.{Differs, ReadFault, Same}

-- the source begins with another byte, or has none
abbrev pub PartsFrom : ℕ → Option (List ℕ) → Type 0
PartsFrom wanted left = (bytes : List ℕ) → left ≡ Some (wanted ∷ bytes) → ⊥

-- the byte is the next of the source, and is taken
pub record Agrees {S : Type 0} (left : S → Option (List ℕ)) (faults : S → ℕ) (wanted : ℕ) (old : CompareView S) (count : ℕ) (new : CompareView S) : Type 0 where
  pub one : count ≡ 1
  pub taken : Consumes (left old.source) (left new.source) (wanted ∷ [])
  pub agreed : new.agreed ≡ one_more old.agreed
  pub verdict : new.verdict ≡ Same
  pub kept : new.faults ≡ old.faults
  pub later : faults old.source ≤ faults new.source

-- the source failed, or what it has left begins with another byte or none: the verdict says which, with how many agreed before
pub record Parts {S : Type 0} (left : S → Option (List ℕ)) (faults : S → ℕ) (wanted : ℕ) (old new : CompareView S) : Type 0 where
  pub why : ((new.verdict ≡ ReadFault) × Rose (faults old.source) (faults new.source)) ⊎ ((new.verdict ≡ Differs old.agreed) × PartsFrom wanted (left old.source))
  pub agreed : new.agreed ≡ old.agreed
  pub failed : new.faults ≡ one_more old.faults
  pub later : faults old.source ≤ faults new.source

-- a write that begins with this byte, where all before it agreed
abbrev pub ComparesAs : {S : Type 0} → (S → Option (List ℕ)) → (S → ℕ) → (wanted : ℕ) → (old : CompareView S) → Result ℕ Failed → (new : CompareView S) → Type 0
ComparesAs left faults wanted old result new = MatchResult result (λ count. Agrees left faults wanted old count new) (λ _. Parts left faults wanted old new)

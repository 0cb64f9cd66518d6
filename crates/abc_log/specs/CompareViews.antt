-- What contracts see of a front of a source, and of a comparison with a source.
use Rattle.std.specs.Prelude.{ℕ}
use Rattle.abc_log.specs.declared.compare.Verdict.{Verdict}

-- a source, and how many of its bytes may still be taken
pub record PartView (S : Type 0) : Type 0 where
  pub source : S
  pub room : ℕ

-- a source, how many of its bytes agreed with what was written, whether all did, and how many writes failed
pub record CompareView (S : Type 0) : Type 0 where
  pub source : S
  pub agreed : ℕ
  pub verdict : Verdict
  pub faults : ℕ

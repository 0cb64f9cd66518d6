-- What is proved of answers.
use Rattle.std.specs.Prelude.{◌≡◌, ℕ, List}
use Rattle.abc_base.specs.declared.formula.Formula.{Formula}
use Rattle.abc_replay.specs.Replays.{IsLogRefused, IsReplayed}
use Rattle.abc_replay.specs.declared.error.ReplayError.{ReplayError}

-- An input is the log of so many steps, and of no other number.
abbrev pub HasOneNumber : Type 0
HasOneNumber = (formulas : List Formula) (input : List ℕ) (n k : ℕ) → IsReplayed formulas input n → IsReplayed formulas input k → n ≡ k

-- No input is a log and refused.
abbrev pub IsNeverBoth : Type 0
IsNeverBoth = (formulas : List Formula) (input : List ℕ) (n : ℕ) (e : ReplayError) → IsReplayed formulas input n → IsLogRefused formulas input e → ⊥

-- What is promised: no step from a sound state is stuck, and what it leaves is sound.
use Rattle.std.specs.Prelude.{◌≡◌, ℕ}
use Rattle.abc_meaning.specs.Setting.{Setting}
use Rattle.abc_meaning.specs.Meaning.{runs_for}
use Rattle.abc_meaning.specs.Sound.{AreTypings, IsSound, SteppedSound, Typings}
use Rattle.abc_meaning.specs.Step.{step}
use Rattle.abc_meaning.specs.Throwing.{Machine, Stuck}
use Rattle.abc_meaning_sound.specs.Given.{FileGiven, MakersGiven, OpsGiven, ScopesGiven, SearchGiven}

-- what is given of the file, the operations and the searches
pub record Given (p : Setting) : Type 0 where
  pub file : FileGiven p
  pub scopes : ScopesGiven p
  pub makers : MakersGiven p
  pub ops : OpsGiven p
  pub search : SearchGiven p

-- a step from a sound state leaves a sound state, or an end that is not Stuck
abbrev pub StepsStaySound : Type 0
StepsStaySound = (p : Setting) (typings : Typings) (q : Machine) → Given p → AreTypings p typings → IsSound p typings q → SteppedSound p typings (step p q)

-- so no run from a sound state is ever stuck
abbrev pub RunsNeverStick : Type 0
RunsNeverStick = (p : Setting) (typings : Typings) (q : Machine) (fuel : ℕ) → Given p → AreTypings p typings → IsSound p typings q → (runs_for p fuel q).end ≡ Stuck → ⊥

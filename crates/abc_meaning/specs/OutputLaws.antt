-- What is proved of what a run writes and starts: nothing that was written goes, and a step that starts a script starts no other and
-- writes nothing.
use Rattle.std.specs.Prelude.{ℕ}
use Rattle.abc_meaning.specs.Meaning.{runs_for}
use Rattle.abc_meaning.specs.Step.{step}
use Rattle.abc_meaning.specs.Throwing.{Machine}
use Rattle.abc_meaning.specs.Setting.{Setting}
use Rattle.abc_meaning.specs.Front.{Changes, IsWorldFront, left_by}

-- in a step
abbrev pub StepsAppend : Type 0
StepsAppend = (p : Setting) (q : Machine) → IsWorldFront q.world (left_by (step p q))

-- a step writes or starts a script, and not both
abbrev pub StepsChangeOnce : Type 0
StepsChangeOnce = (p : Setting) (q : Machine) → Changes q.world (left_by (step p q))

-- in a run, with any fuel: so a run that is cut off after a step wrote a front of its output
abbrev pub RunsAppend : Type 0
RunsAppend = (p : Setting) (fuel : ℕ) (q : Machine) → IsWorldFront q.world (runs_for p fuel q).world

-- What is proved of logs.
use Rattle.std.specs.Prelude.{◌≡◌, ℕ, ◌≤◌, Some}
use Rattle.abc_heap_store.specs.declared.records.Limit.{Limit}
use Rattle.abc_heap_store.specs.declared.records.Limits.{Limits}
use Rattle.abc_meaning.specs.Meaning.{first_world, too_small}
use Rattle.abc_meaning.specs.Setting.{Setting}
use Rattle.abc_log.specs.Lines.{limit_end}
use Rattle.abc_meaning.specs.Logs.{log, steps}

-- where what there is at opening passes a limit, the log is the line of that limit alone, and no step is taken
abbrev pub TooSmallIsOneLine : Type 0
TooSmallIsOneLine = (p : Setting) (m : Limits) (fuel : ℕ) (limit : Limit) → too_small (first_world p m).heap ≡ Some limit → (log p m fuel ≡ limit_end limit) × (steps p m fuel ≡ 0)

-- a run takes no more steps than it has fuel
abbrev pub ARunHasFewSteps : Type 0
ARunHasFewSteps = (p : Setting) (m : Limits) (fuel : ℕ) → steps p m fuel ≤ fuel

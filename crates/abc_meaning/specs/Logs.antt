-- The log of a run: a line for each step, with what it wrote, and then how the run ends (profile: docs/PROGRAM.md, "Logs").
use Rattle.std.specs.Prelude.{ℕ, zero, suc, List, [], ◌∷◌, ◌++◌, Bool, drop, length, Some, None}
use Rattle.std.specs.declared.option.Option.{Option}
use Rattle.abc_heap_store.specs.declared.records.Limit.{Limit}
use Rattle.abc_heap_store.specs.declared.records.Limits.{Limits}
use Rattle.abc_meaning.specs.Meaning.{first_state, first_world, too_small}
use Rattle.abc_meaning.specs.Step.{step}
use Rattle.abc_meaning.specs.Throwing.{Ends, FuelSpent, Machine, Stepped, Steps, last_script}
use Rattle.abc_meaning.specs.World.{World}
use Rattle.abc_meaning.specs.Setting.{Setting}
use Rattle.abc_frames.specs.Frame.{Frame}
use Rattle.abc_log.specs.Lines.{limit_end, out_line, start_line, step_line}
use Rattle.abc_log.specs.Starts.{started_from}
use Rattle.abc_meaning.specs.Lines.{end_line}

-- ---- a step

abbrev pub world_left : Stepped → World
world_left (Steps q) = q.world
world_left (Ends w e) = w

-- a search that starts a script is the start of it, whatever becomes of that; another step is the newest frame's instruction
abbrev pub step_lines : Option ℕ → Frame → List ℕ
step_lines (Some s) f = start_line s
step_lines None f = step_line f.method f.place

abbrev pub line_of : Setting → Machine → (now : List Bool) → List Frame → List ℕ
line_of p q now [] = start_line (last_script p)
line_of p q now (f ∷ fs) = step_lines (started_from 0 q.world.started now) f

-- the bytes that it wrote
abbrev pub wrote_since : World → World → List ℕ
wrote_since w n = drop (length w.wrote) n.wrote

abbrev pub lines_of_step : Setting → Machine → Stepped → List ℕ
lines_of_step p q r = line_of p q (world_left r).started q.frames ++ out_line (wrote_since q.world (world_left r))

-- ---- a run

abbrev pub then_logs : Setting → Stepped → (Machine → List ℕ) → List ℕ
then_logs p (Steps q) go = go q
then_logs p (Ends w e) go = end_line p.linked.file e

abbrev pub logs_for : Setting → (fuel : ℕ) → Machine → List ℕ
logs_for p zero q = end_line p.linked.file FuelSpent
logs_for p (suc fuel) q = lines_of_step p q (step p q) ++ then_logs p (step p q) (logs_for p fuel)

-- how many steps it takes to its end
abbrev pub then_counts : Stepped → (Machine → ℕ) → ℕ
then_counts (Steps q) go = suc (go q)
then_counts (Ends w e) go = 1

abbrev pub steps_for : Setting → (fuel : ℕ) → Machine → ℕ
steps_for p zero q = 0
steps_for p (suc fuel) q = then_counts (step p q) (steps_for p fuel)

-- where an opening count passes its limit, the end line stands alone
abbrev pub log_if : Option Limit → List ℕ → List ℕ
log_if (Some limit) lines = limit_end limit
log_if None lines = lines

unfoldable pub log : Setting → Limits → (fuel : ℕ) → List ℕ
log p limits fuel = log_if (too_small (first_world p limits).heap) (logs_for p fuel (first_state p limits))

abbrev pub steps_if : Option Limit → ℕ → ℕ
steps_if (Some limit) n = 0
steps_if None n = n

unfoldable pub steps : Setting → Limits → (fuel : ℕ) → ℕ
steps p limits fuel = steps_if (too_small (first_world p limits).heap) (steps_for p fuel (first_state p limits))

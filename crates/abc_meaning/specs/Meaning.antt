-- The state that a run begins with, and the meaning of a run (profile: docs/MACHINE.md, "The rules of a run").
use Rattle.std.specs.Prelude.{ℕ, zero, suc, List, [], false, length, replicate, nat_lt, Some, None, if◌then◌else◌}
use Rattle.std.specs.declared.option.Option.{Option}
use Rattle.abc_heap_store.specs.Heap.{Heap, cells_used}
use Rattle.abc_heap_store.specs.declared.records.Limit.{Limit}
use Rattle.abc_heap_store.specs.declared.records.Limit.TheVariants.{Objects, Cells}
use Rattle.abc_heap_store.specs.declared.records.Limits.{Limits}
use Rattle.abc_objects.specs.Opening.{formula_names, opening}
use Rattle.abc_meaning.specs.Setting.{Setting}
use Rattle.abc_meaning.specs.World.{World}
use Rattle.abc_meaning.specs.Step.{step}
use Rattle.abc_meaning.specs.Throwing.{End, Ends, FuelSpent, Machine, Stepped, Steps}

-- no script was started, and nothing was written
abbrev pub first_world : Setting → Limits → World
first_world p limits = record { heap = opening p.linked (formula_names p.formulas) limits; started = replicate (length p.linked.file.scripts) false; wrote = [] }

abbrev pub first_state : Setting → Limits → Machine
first_state p limits = record { world = first_world p limits; frames = [] }

-- ---- steps until one ends, at most so many

pub record Ended : Type 0 where
  pub world : World
  pub end : End

abbrev pub ends_with : World → End → Ended
ends_with w e = record { world = w; end = e }

abbrev pub then_runs : Stepped → (Machine → Ended) → Ended
then_runs (Steps q) go = go q
then_runs (Ends w e) go = ends_with w e

abbrev pub runs_for : Setting → (fuel : ℕ) → Machine → Ended
runs_for p zero q = ends_with q.world FuelSpent
runs_for p (suc fuel) q = then_runs (step p q) (runs_for p fuel)

-- ---- the meaning: what is written, and how the run ends; or an opening count passes its limit, the objects tried first

pub data Meaning : Type 0 where
  TooSmall : Limit → Meaning
  Ran : (wrote : List ℕ) → End → Meaning

abbrev pub too_small : Heap → Option Limit
too_small h = if nat_lt h.limits.objects (length h.objects) then Some Objects else (if nat_lt h.limits.cells (cells_used h) then Some Cells else None)

abbrev pub ran : Ended → Meaning
ran r = Ran r.world.wrote r.end

abbrev pub meaning_if : Option Limit → Ended → Meaning
meaning_if (Some limit) r = TooSmall limit
meaning_if None r = ran r

-- the meaning of a run of this setting, within the limits and with so much fuel
unfoldable pub meaning : Setting → Limits → (fuel : ℕ) → Meaning
meaning p limits fuel = meaning_if (too_small (first_world p limits).heap) (runs_for p fuel (first_state p limits))

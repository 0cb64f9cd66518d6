-- Why a step goes no further, as code answers it.
use Rattle.abc_heap_store.specs.declared.records.Full.{Full}
use Rattle.abc_ops.specs.declared.end.OpEnd.{OpEnd}
use Rattle.abc_ops.specs.declared.end.OpEnd.TheVariants as ends
use Rattle.abc_run_state.specs.declared.state.Stop.{Stop}
use Rattle.abc_run_state.specs.declared.state.Stop.TheVariants as stops
use Rattle.abc_meaning.specs.World.{Errs, Faults, Fills, Outcome, Sticks, Stopped, Throws, Went, World, Stop as Why}
use Rattle.std.specs.Prelude.{Ok, Err}
use Rattle.std.specs.declared.result.Result.{Result}

abbrev pub stop_of_full : Full → Stop
stop_of_full full = stops.Fills full.0

abbrev pub stop_of_end : OpEnd → Stop
stop_of_end (ends.Profile fault) = stops.Faults fault
stop_of_end (ends.Full limit) = stops.Fills limit
stop_of_end (ends.Throw c) = stops.Errs c

-- in the words of the meaning
abbrev pub why : Stop → Why
why (stops.Throws v) = Throws v
why (stops.Errs c) = Errs c
why (stops.Faults fault) = Faults fault
why (stops.Fills limit) = Fills limit

-- what a part of a step answers, in the world that it leaves
abbrev pub part_outcome : {X : Type 0} → Result X Stop → World → Outcome X
part_outcome (Ok x) w = Went w x
part_outcome (Err e) w = Stopped w (why e)

-- a part of a step that isn't stuck
abbrev pub IsOpenWhy : Why → Type 0
IsOpenWhy (Throws v) = Unit {0}
IsOpenWhy (Errs c) = Unit {0}
IsOpenWhy (Faults fault) = Unit {0}
IsOpenWhy (Fills limit) = Unit {0}
IsOpenWhy Sticks = ⊥

-- the outcome of a part of a step that isn't stuck
abbrev pub IsOpen : {X : Type 0} → Outcome X → Type 0
IsOpen (Went w x) = Unit {0}
IsOpen (Stopped w why) = IsOpenWhy why

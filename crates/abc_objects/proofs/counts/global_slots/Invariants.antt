use Rattle.std.proofs.Common.{◌≡◌, ◌≤◌, ◌*◌}
use Rattle.std.specs.List.{sum}
use Rattle.abc_objects.specs.Opening.{slot_counts}
use Rattle.abc_objects.proofs.counts.global_slots.Given as goal

abbrev pub invariant-loop-script : goal.invariant-loop-script
invariant-loop-script v = (v.slots ≡ sum (slot_counts v.l v.script)) × (v.slots ≤ 4294967295 * v.script) × (v.script ≤ v.scripts)

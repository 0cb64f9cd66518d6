use Rattle.std.proofs.Common.{◌≡◌, ◌≤◌}
use Rattle.abc_objects.specs.Opening.{with_globals}
use Rattle.abc_objects.proofs.opening.make_globals.Given as goal

abbrev pub invariant-loop-script : goal.invariant-loop-script
invariant-loop-script v = (v.store ≡ with_globals v.l v.script v.initial.store) × (v.script ≤ v.scripts)

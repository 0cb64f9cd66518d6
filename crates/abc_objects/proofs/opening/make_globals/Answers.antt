use Rattle.std.proofs.Common.{◌+◌, arith, subst, ℕ}
use Rattle.std.specs.List.{sum}
use Rattle.abc_heap_store.specs.Heap.{HasRoomFor}
use Rattle.abc_objects.specs.Opening.{slot_counts}
use Rattle.abc_objects.proofs.Steps.{global_on, global_room, no_globals}
use Rattle.abc_objects.proofs.opening.make_globals.Goals as goal
use Rattle.std.proofs.Common.{sym}

pub loop-script-init : goal.loop-script-init
loop-script-init c = (no_globals c.args.l.now c.args.store.now, omega arith)

pub make_global-requires-clause-script : goal.make_global-requires-clause-script
make_global-requires-clause-script c = omega (arith, c.requires.scripts)

pub make_global-requires-clause-room : goal.make_global-requires-clause-room
make_global-requires-clause-room c =
    let l = c.args.l.now in
    global_room l c.args.store.now _ c.loop-script.script c.args.scripts c.loop-script.invariant.0 (omega arith)
    (subst (λ (n : ℕ). HasRoomFor c.args.store.now c.args.scripts (c.args.scripts + sum (slot_counts l n))) (sym c.requires.scripts) c.requires.room)

pub loop-script-preserved : goal.loop-script-preserved
loop-script-preserved c = (global_on c.args.l.now c.args.store.now _ _ c.loop-script.script c.loop-script.invariant.0 c.make_global.ensures, omega arith)

use Rattle.std.proofs.Common.{◌-◌, ◌<◌, ◌∙◌, refl, arith}
use Rattle.abc_instr.specs.Marks.{mark_at}
use Rattle.abc_instr.proofs.Running.{run_starts, run_step}
use Rattle.abc_instr.proofs.run.run.Goals as goal

pub loop-at-init : goal.loop-at-init
loop-at-init c = record { most = omega arith; runs = run_starts c.args.bytes.now c.args.here c.args.moved (mark_at c.args.marks.now) c.args.holes.now.items; places = refl }

pub loop-at-preserved : goal.loop-at-preserved
loop-at-preserved c =
    let so_far = c.loop-at.invariant in
    let at = c.loop-at.at in
    let some : 0 < c.in_ok-count.count = omega arith in
    let step = c.in_ok-count.ensures.step some in
    record {
      most = omega (arith, step.room);
      runs = run_step c.args.bytes.now c.args.here c.args.moved (mark_at c.args.marks.now) (mark_at c.loop-at.marks) (mark_at c.put.new.self) c.args.holes.now.items c.loop-at.holes.items c.step_over.new.holes.items at c.in_ok-count.count
          (c.args.most - at) so_far.runs step c.put.ensures.marks;
      places = c.put.ensures.long ∙ so_far.places;
    }

use Rattle.abc_asm.proofs.Begun.{misplaced_broken, misplaced_whole}
use Rattle.abc_asm.proofs.assembling.misplaced.Goals as goal

pub returns-in-Ok : goal.returns-in-Ok
returns-in-Ok c =
    let e = c.in-Ok.ensures in
    rw (c.refused.ensures, c.reason_out_of_order.ensures) (misplaced_whole c.args.reader.now c.take.new.self c.in-Ok.taken e.once e.row)

pub returns-in-Err : goal.returns-in-Err
returns-in-Err c = misplaced_broken c.args.reader.now c.in-Err.error c.in-Err.ensures.broken

use Rattle.abc_asm.proofs.Counting.{fault_err, fault_ok}
use Rattle.abc_asm.proofs.counted.with_fault.Goals as goal

pub returns-in-Ok : goal.returns-in-Ok
returns-in-Ok g c = fault_ok c.args.head c.fault_unless.result c.args.fine c.args.reason c.in-Ok.both c.fault_unless.ensures c.in-Ok.ensures

pub returns-in-Err : goal.returns-in-Err
returns-in-Err g c = fault_err c.args.head c.fault_unless.result c.args.fine c.args.reason c.in-Err.first c.fault_unless.ensures c.in-Err.ensures

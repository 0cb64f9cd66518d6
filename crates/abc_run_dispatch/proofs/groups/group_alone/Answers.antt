use Rattle.abc_run_dispatch.proofs.Grouped.{first_alone_in, last_alone_in, second_alone_in}
use Rattle.abc_run_dispatch.proofs.groups.group_alone.Goals as goal

pub first_alone-requires : goal.first_alone-requires
first_alone-requires c = first_alone_in c.args.op c.requires c.if-op-lt-CONVERT_S.true

pub second_alone-requires : goal.second_alone-requires
second_alone-requires c = second_alone_in c.args.op c.requires c.if-op-lt-CONVERT_S.false c.if-op-lt-ADD.true

pub last_alone-requires : goal.last_alone-requires
last_alone-requires c = last_alone_in c.args.op c.requires c.if-op-lt-ADD.false

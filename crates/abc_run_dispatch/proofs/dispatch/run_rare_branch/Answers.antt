use Rattle.abc_run_dispatch.proofs.Grouped.{first_in, last_in, row_there}
use Rattle.abc_file_types.specs.declared.code.Instr.TheVariants.{Branch}
use Rattle.abc_run_dispatch.proofs.dispatch.run_rare_branch.Goals as goal

pub first_branch_arm-requires : goal.first_branch_arm-requires
first_branch_arm-requires g c = (c.requires, first_in c.args.op c.requires.run.spelled.is (row_there c.args.linked.now g.out c.args.s.now (Branch c.args.op c.args.target) c.requires.run) c.if-op-lt-IFEQ.true)

pub last_branch_arm-requires : goal.last_branch_arm-requires
last_branch_arm-requires g c = (c.requires, last_in c.args.op c.requires.run.spelled.is (row_there c.args.linked.now g.out c.args.s.now (Branch c.args.op c.args.target) c.requires.run) c.if-op-lt-IFEQ.false)

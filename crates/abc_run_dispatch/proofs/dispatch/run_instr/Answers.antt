use Rattle.abc_run_dispatch.proofs.dispatch.run_instr.Goals as goal

pub run_common-requires : goal.run_common-requires
run_common-requires g c = (c.requires, c.opcode_of.ensures c.in-Some.op c.in-Some.is)

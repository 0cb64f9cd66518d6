use Rattle.abc_run_dispatch.proofs.dispatch.run_instr.Given as goal

abbrev pub ghost-run_common : goal.ghost-run_common
ghost-run_common g a = g.out

abbrev pub ghost-run_byte_or_other : goal.ghost-run_byte_or_other
ghost-run_byte_or_other g a = g.out

use Rattle.abc_run_dispatch.proofs.dispatch.run_byte_or_other.Given as goal

abbrev pub ghost-run_byte : goal.ghost-run_byte
ghost-run_byte g a = g.out

abbrev pub ghost-run_other : goal.ghost-run_other
ghost-run_other g a = g.out

use Rattle.abc_run_dispatch.proofs.holding.run_held.Given as goal

abbrev pub ghost-instr_here : goal.ghost-instr_here
ghost-instr_here g a = g.out

abbrev pub ghost-run_instr : goal.ghost-run_instr
ghost-run_instr g a = g.out

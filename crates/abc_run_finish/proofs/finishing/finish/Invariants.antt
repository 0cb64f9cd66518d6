use Rattle.abc_run_finish.proofs.finishing.finish.Given as goal

abbrev pub ghost-give_back : goal.ghost-give_back
ghost-give_back g a = g.out

abbrev pub ghost-write : goal.ghost-write
ghost-write g a = g.out

abbrev pub ghost-consult : goal.ghost-consult
ghost-consult g a = g.out

abbrev pub ghost-stopped : goal.ghost-stopped
ghost-stopped g a = g.out

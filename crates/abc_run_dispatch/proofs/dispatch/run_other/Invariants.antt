use Rattle.abc_run_dispatch.proofs.dispatch.run_other.Given as goal

abbrev pub ghost-run_rare_alone : goal.ghost-run_rare_alone
ghost-run_rare_alone g a = g.out

abbrev pub ghost-run_rare_numbered : goal.ghost-run_rare_numbered
ghost-run_rare_numbered g a = g.out

abbrev pub ghost-run_paired : goal.ghost-run_paired
ghost-run_paired g a = g.out

abbrev pub ghost-run_rare_branch : goal.ghost-run_rare_branch
ghost-run_rare_branch g a = g.out

abbrev pub ghost-run_switch : goal.ghost-run_switch
ghost-run_switch g a = g.out

abbrev pub ghost-run_byte : goal.ghost-run_byte
ghost-run_byte g a = g.out

abbrev pub ghost-run_short : goal.ghost-run_short
ghost-run_short g a = g.out

abbrev pub ghost-run_scope_object : goal.ghost-run_scope_object
ghost-run_scope_object g a = g.out

abbrev pub ghost-run_debug : goal.ghost-run_debug
ghost-run_debug g a = g.out

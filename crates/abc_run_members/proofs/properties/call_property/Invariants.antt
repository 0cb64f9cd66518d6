use Rattle.abc_run_members.proofs.properties.call_property.Given as goal

abbrev pub ghost-whole_name : goal.ghost-whole_name
ghost-whole_name g a = g.out

abbrev pub ghost-call_whole : goal.ghost-call_whole
ghost-call_whole g a = g.out

abbrev pub ghost-call_searching : goal.ghost-call_searching
ghost-call_searching g a = g.out

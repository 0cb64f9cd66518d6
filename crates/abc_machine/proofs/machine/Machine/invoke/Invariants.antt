use Rattle.abc_machine.proofs.machine.Machine.invoke.Given as goal

abbrev pub ghost-call_for : goal.ghost-call_for
ghost-call_for g a = g.H.Host.formulas a.host.now

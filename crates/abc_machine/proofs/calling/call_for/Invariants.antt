use Rattle.std.proofs.Common.{[]}
use Rattle.abc_run_finish.specs.Steps.{machine}
use Rattle.abc_machine.proofs.calling.call_for.Given as goal

abbrev pub ghost-begin_call : goal.ghost-begin_call
ghost-begin_call g a = record { formulas = g.formulas; wrote = [] }

abbrev pub ghost-take_steps : goal.ghost-take_steps
ghost-take_steps g a = record { formulas = g.formulas; first = machine a.s.now (record { formulas = g.formulas; wrote = [] }); fuel = a.fuel.now }

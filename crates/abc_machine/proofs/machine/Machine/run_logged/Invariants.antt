use Rattle.abc_meaning.specs.Meaning.{first_state}
use Rattle.abc_meaning.specs.Openings.{setting}
use Rattle.abc_machine.proofs.machine.Machine.run_logged.Given as goal

abbrev pub ghost-log_for : goal.ghost-log_for
ghost-log_for g a =
    let formulas = g.H.Host.formulas a.host.now in
    record { formulas = formulas; first = first_state (setting a.linked.now formulas) a.s.now.arena.limits; fuel = a.fuel.now }

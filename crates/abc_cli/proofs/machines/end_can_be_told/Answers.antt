use Rattle.abc_meaning.specs.Setting.{Setting}
use Rattle.abc_cli.proofs.machines.end_can_be_told.Goals as goal

pub returns : goal.returns
returns g c =
    let p : Setting = record { linked = c.args.machine.now.linked; formulas = g.H.Host.formulas c.args.host.now } in
    record {
      unstuck = λ wrote e. c.ends_can_be_told.ensures.never_stuck p c.args.machine.now.limits c.args.fuel wrote c.requires.verified c.requires.counted e;
      placed = λ wrote n i fault e. c.ends_can_be_told.ensures.placed p c.args.machine.now.limits c.args.fuel wrote n i fault c.requires.verified c.requires.counted e;
    }

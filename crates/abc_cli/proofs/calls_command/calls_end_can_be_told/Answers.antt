use Rattle.std.proofs.Common.{arith}
use Rattle.abc_meaning.specs.Setting.{Setting}
use Rattle.abc_cli.proofs.calls_command.calls_end_can_be_told.Goals as goal

pub returns : goal.returns
returns g c =
    let p : Setting = record { linked = c.args.session.now.linked; formulas = g.H.Host.formulas c.args.host.now } in
    c.ticks_can_be_told.ensures p c.args.session.now.limits c.args.fuel c.args.times c.args.method c.requires.verified c.requires.counted c.requires.fits (omega arith) c.requires.method

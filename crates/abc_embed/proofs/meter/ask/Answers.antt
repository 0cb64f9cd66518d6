use Rattle.abc_session.specs.Beside.{IsBeside}
use Rattle.abc_embed.proofs.Answered.{on_ok}
use Rattle.abc_embed.proofs.meter.ask.Goals as goal

pub returns-in-Some-clause-kept : goal.returns-in-Some-clause-kept
returns-in-Some-clause-kept g c =
    let formulas = g.H.Host.formulas c.args.host.now in
    on_ok c.value_of.result (IsBeside c.call.new.self formulas) (c.sessions_stay_beside.ensures.called c.args.session.now c.call.new.self _ _ _ c.call.result formulas c.call.ensures.answers c.requires)

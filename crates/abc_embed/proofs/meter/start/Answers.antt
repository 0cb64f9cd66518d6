use Rattle.abc_embed.proofs.meter.start.Goals as goal

pub returns-in-Done : goal.returns-in-Done
returns-in-Done g c =
    c.sessions_stay_beside.ensures.started c.args.session.now c.start.new.self c.start.result _ _ (g.H.Host.formulas c.args.host.now) c.start.ensures.keeps c.start.ensures.leaves (λ e was. (c.start.ensures.again e was).2) c.requires

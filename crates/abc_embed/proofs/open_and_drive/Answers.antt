use Rattle.abc_embed.proofs.open_and_drive.Goals as goal

pub drive-driven-requires : goal.drive-driven-requires
drive-driven-requires g c = c.sessions_stay_beside.ensures.opened _ (g.H.Host.formulas c.args.host.now) _ c.in_ok-session.session c.in_ok-session.ensures

use Rattle.abc_run_dispatch.proofs.holding.run_newest.Goals as goal

pub run_held-requires : goal.run_held-requires
run_held-requires g c = (c.requires.0, (c.requires.1.0, (c.hold-held.ensures.held, c.requires.1.1)))

use Rattle.abc_run_members.proofs.fast_paths.set_property_fast.Goals as goal

pub sets_whole-requires : goal.sets_whole-requires
sets_whole-requires g c = (c.requires.0, (c.requires.1, (c.in-Some.ensures.form, (c.in-Some.ensures.text c.args.s.now.arena))))

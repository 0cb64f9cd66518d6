use Rattle.abc_run_members.proofs.fast_paths.get_property_fast.Goals as goal

pub gets_whole-requires : goal.gets_whole-requires
gets_whole-requires g c = (c.requires.0, (c.requires.1, (c.in-Some.ensures.form, (c.in-Some.ensures.text c.args.s.now.arena))))

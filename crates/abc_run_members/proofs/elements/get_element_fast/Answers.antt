use Rattle.abc_run_members.proofs.elements.get_element_fast.Goals as goal

pub gets_text-requires : goal.gets_text-requires
gets_text-requires g c = (c.requires.0, (c.requires.1, c.in-Some.ensures))

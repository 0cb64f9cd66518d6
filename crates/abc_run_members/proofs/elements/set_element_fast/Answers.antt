use Rattle.abc_run_members.proofs.elements.set_element_fast.Goals as goal

pub sets_text-requires : goal.sets_text-requires
sets_text-requires g c = (c.requires.0, (c.requires.1, c.in-Some.ensures))

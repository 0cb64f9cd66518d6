use Rattle.abc_machine.proofs.stepping.finish_any.Goals as goal

pub finish-requires : goal.finish-requires
finish-requires g c = λ κs among. (among.0, (among.1, c.requires.1.1))

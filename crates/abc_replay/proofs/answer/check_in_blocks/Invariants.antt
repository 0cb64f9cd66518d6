use Rattle.abc_replay.proofs.answer.check_in_blocks.Given as goal

abbrev pub ghosts-check_ahead : goal.ghosts-check_ahead
ghosts-check_ahead g a = record { name = a.source.ghost_name }

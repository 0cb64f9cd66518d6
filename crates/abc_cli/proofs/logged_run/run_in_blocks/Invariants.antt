use Rattle.abc_cli.proofs.logged_run.run_in_blocks.Given as goal

abbrev pub ghosts-run_lent : goal.ghosts-run_lent
ghosts-run_lent g a = record {
  name = a.out.ghost_name;
  before = g.K.Sink.written a.out.now;
}

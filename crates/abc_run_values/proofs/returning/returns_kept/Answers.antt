use Rattle.std.proofs.Common.{ap}
use Rattle.abc_run_state.specs.Outer.{setting_in}
use Rattle.abc_run_state.specs.Turns.{turn_of}
use Rattle.abc_run_values.proofs.returning.returns_kept.Goals as goal

pub returns : goal.returns
returns g c = record {
  leaves = λ e. ap (turn_of (setting_in c.args.linked.now g.out) c.args.s.now.frames) (c.returns_whole.ensures c.if-not-returns_whole.false);
  returns = λ e. tt;
  undone = λ e. absurd cc;
}

use Rattle.std.proofs.Common.{◌≡◌, drop}
use Rattle.abc_cli_answers.specs.Reading.{after_words}
use Rattle.abc_cli_answers.proofs.read.read_options.Given as goal

abbrev pub invariant-loop-i : goal.invariant-loop-i
invariant-loop-i g l = after_words g.G.Given.with l.given l.i (drop l.i l.words) ≡ after_words g.G.Given.with l.fn.start 1 (drop 1 l.words)

use Rattle.std.proofs.Common.{ap, ◌∙◌}
use Rattle.abc_cli_answers.specs.Draws.{next_of}
use Rattle.abc_cli_answers.proofs.codes.drawn_code_of.Goals as goal

pub returns-clause-draws : goal.returns-clause-draws
returns-clause-draws c = c.draw-3.ensures.number ∙ ap next_of (c.draw-2.ensures.number ∙ ap next_of c.draw.ensures.number)

use Rattle.abc_objects.proofs.Firsts.{answers_the_first}
use Rattle.abc_objects.proofs.laws.answer_is_the_first.Goals as goal

pub returns : goal.returns
returns c = answers_the_first

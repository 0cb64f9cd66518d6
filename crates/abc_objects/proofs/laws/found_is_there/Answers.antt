use Rattle.abc_objects.proofs.There.{finds_what_is_there}
use Rattle.abc_objects.proofs.laws.found_is_there.Goals as goal

pub returns : goal.returns
returns c = finds_what_is_there

use Rattle.abc_objects.proofs.Firsts.{finds_the_first_place}
use Rattle.abc_objects.proofs.laws.place_is_the_first.Goals as goal

pub returns : goal.returns
returns c = finds_the_first_place

use Rattle.abc_objects.proofs.Objectless.{asks_no_object}
use Rattle.abc_objects.proofs.laws.no_object_matters.Goals as goal

pub returns : goal.returns
returns c = asks_no_object

use Rattle.abc_objects.proofs.MethodsFound.{finds_a_method, finds_own_methods}
use Rattle.abc_objects.proofs.laws.found_method_is_there.Goals as goal

pub returns-clause-declared : goal.returns-clause-declared
returns-clause-declared c = finds_a_method

pub returns-clause-on : goal.returns-clause-on
returns-clause-on c = finds_own_methods

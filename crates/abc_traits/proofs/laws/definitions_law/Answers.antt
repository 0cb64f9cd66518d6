use Rattle.abc_file_types.proofs.Determined.{determined}
use Rattle.abc_file_types.proofs.Exactness.{definitions-exact}
use Rattle.abc_file_types.proofs.Shortest.{definitions-canonical}
use Rattle.abc_traits.proofs.laws.definitions_law.Goals as goal

pub returns-clause-exact : goal.returns-clause-exact
returns-clause-exact c = definitions-exact

pub returns-clause-determined : goal.returns-clause-determined
returns-clause-determined c = λ abc. determined _ (definitions-exact abc)

pub returns-clause-canonical : goal.returns-clause-canonical
returns-clause-canonical c = λ abc. definitions-canonical abc

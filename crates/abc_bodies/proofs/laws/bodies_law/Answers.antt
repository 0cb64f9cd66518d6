use Rattle.abc_file_types.proofs.Determined.{determined}
use Rattle.abc_file_types.proofs.BodiesExact.{bodies-exact, body-exact, handler-exact}
use Rattle.abc_file_types.proofs.Whole.{bodies_alone-exact}
use Rattle.abc_file_types.proofs.BodiesReady.{bodies_ready}
use Rattle.abc_file_types.proofs.BodiesShortest.{bodies_alone-canonical}
use Rattle.abc_bodies.proofs.laws.bodies_law.Goals as goal

pub returns-clause-handler : goal.returns-clause-handler
returns-clause-handler c = handler-exact

pub returns-clause-body : goal.returns-clause-body
returns-clause-body c = body-exact

pub returns-clause-exact : goal.returns-clause-exact
returns-clause-exact c = bodies-exact

pub returns-clause-exact_alone : goal.returns-clause-exact_alone
returns-clause-exact_alone c = bodies_alone-exact

pub returns-clause-determined : goal.returns-clause-determined
returns-clause-determined c = λ abc. determined _ (bodies-exact abc)

pub returns-clause-canonical : goal.returns-clause-canonical
returns-clause-canonical c = λ abc. bodies_alone-canonical abc

pub returns-clause-ready : goal.returns-clause-ready
returns-clause-ready c = λ abc v b s. bodies_ready abc v b s

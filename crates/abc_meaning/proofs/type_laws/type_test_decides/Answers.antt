use Rattle.abc_meaning.proofs.TypeTests.{decides_types}
use Rattle.abc_meaning.proofs.type_laws.type_test_decides.Goals as goal

pub returns : goal.returns
returns c = decides_types

use Rattle.abc_file.proofs.NarrowFiles.{just_narrow, narrow-canonical, narrow_least}
use Rattle.abc_file.proofs.laws.widening.Goals as goal

pub returns-clause-same_values : goal.returns-clause-same_values
returns-clause-same_values c = just_narrow

pub returns-clause-same_bytes : goal.returns-clause-same_bytes
returns-clause-same_bytes c = narrow_least

pub returns-clause-canonical : goal.returns-clause-canonical
returns-clause-canonical c = narrow-canonical

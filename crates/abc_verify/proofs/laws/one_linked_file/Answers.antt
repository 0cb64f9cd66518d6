use Rattle.abc_verify.proofs.Single.{one_verified}
use Rattle.abc_verify.proofs.laws.one_linked_file.Goals as goal

pub returns : goal.returns
returns c = one_verified

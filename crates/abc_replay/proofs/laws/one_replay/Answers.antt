use Rattle.abc_replay.proofs.Excluding.{never_both, one_number}
use Rattle.abc_replay.proofs.laws.one_replay.Goals as goal

pub returns-clause-one_number : goal.returns-clause-one_number
returns-clause-one_number c = one_number

pub returns-clause-never_both : goal.returns-clause-never_both
returns-clause-never_both c = never_both

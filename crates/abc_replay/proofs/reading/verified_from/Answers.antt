use Rattle.abc_replay.proofs.Found.{verified_there}
use Rattle.abc_replay.proofs.reading.verified_from.Goals as goal

pub returns-in-Ok-clause-ok : goal.returns-in-Ok-clause-ok
returns-in-Ok-clause-ok c = verified_there c.args.source.now.left c.in-Ok.verified c.in-Ok._places c.in-Ok.ensures.ok

use Rattle.std.proofs.Common.{true}
use Rattle.abc_text_reader.proofs.Seen.{added, was_among}
use Rattle.abc_text_reader.proofs.noting.add.Goals as goal

pub returns-clause-was : goal.returns-clause-was
returns-clause-was c = was_among c.args.seen.now c.args.name c.in_ok-old.old c.is_some.result c.is_some.ensures c.in_ok-old.ensures.old

pub returns-clause-is : goal.returns-clause-is
returns-clause-is c = added c.args.seen.now c.insert.new.self c.args.name true c.in_ok-old.ensures.entries

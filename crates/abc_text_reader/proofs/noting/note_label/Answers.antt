use Rattle.abc_text_reader.proofs.Seen.{next_is}
use Rattle.abc_text_reader.proofs.noting.note_label.Goals as goal

pub returns-clause-is : goal.returns-clause-is
returns-clause-is c = next_is c.args.labels.now c.args.met.now c.args.others.now c.args.name.now (c.is_empty.ensures.0 c.if-not-is_empty.false) (c.stands_at.ensures c.if-not-stands_at.false)

use Rattle.abc_text_reader.proofs.Seen.{among_labels, among_others, more_others}
use Rattle.abc_text_reader.proofs.noting.add_late.Goals as goal

pub returns-then-known-clause-was : goal.returns-then-known-clause-was
returns-then-known-clause-was c = among_others c.args.labels.now c.args.met c.args.others.now c.args.name.now c.in_ok-known.known c.in_ok-known.ensures.was c.if-known.true

pub returns-then-known-clause-is : goal.returns-then-known-clause-is
returns-then-known-clause-is c = more_others c.args.labels.now c.args.met c.args.others.now c.add.new.seen c.args.name.now c.in_ok-known.ensures.is

pub returns-clause-was : goal.returns-clause-was
returns-clause-was c = among_labels c.args.labels.now c.args.met c.args.others.now c.args.name.now c.in_ok-known.known c.stands_before.result c.in_ok-known.ensures.was c.if-known.false c.stands_before.ensures

pub returns-clause-is : goal.returns-clause-is
returns-clause-is c = more_others c.args.labels.now c.args.met c.args.others.now c.add.new.seen c.args.name.now c.in_ok-known.ensures.is

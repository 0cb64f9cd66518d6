-- The number is above those before it.
use Rattle.abc_text_reader.proofs.Rising.{is_more, still_below, was_none}
use Rattle.abc_text_reader.proofs.bodied.Bodied.note.Goals as goal

pub returns-in_ok-push-in-Some-clause-was : goal.returns-in_ok-push-in-Some-clause-was
returns-in_ok-push-in-Some-clause-was c = was_none c.self.inside.rising.items c.self.inside.bound c.self.inside.others c.args.self.now c.args.name.now c.self.invariant (c.is_empty.ensures.0 c.if-not-is_empty.false) c.self.view_is c.in-Some.ensures.0

pub returns-in_ok-push-in-Some-clause-is : goal.returns-in_ok-push-in-Some-clause-is
returns-in_ok-push-in-Some-clause-is c = is_more c.self.inside.rising.items c.push.new.self.items c.self.inside.others c.args.self.now c.args.name c.in_ok-push-in-Some.ensures.items c.self.view_is

pub invariant_of-self-in-Some : goal.invariant_of-self-in-Some
invariant_of-self-in-Some c = still_below c.self.inside.rising.items c.push.new.self.items c.self.inside.bound c.in-Some.bound c.args.name c.in_ok-push-in-Some.ensures.items c.self.invariant c.in-Some.ensures.0 c.in-Some.ensures.1

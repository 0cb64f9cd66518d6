use Rattle.std.proofs.Common.{sym, ◌∙◌}
use Rattle.abc_asm.proofs.Beneath.{ends_next, ends_none}
use Rattle.abc_asm.proofs.bodies.ends.Goals as goal

pub returns-in-Some : goal.returns-in-Some
returns-in-Some c = rw (c.place_of.ensures.is, c.place_of-in-Some.ensures.is) (sym (ends_next c.args.reader.now.sizes c.args.reader.now.instances c.in-Some.next _ (sym c.word.ensures ∙ c.in-Some.is)))

pub returns-in-None : goal.returns-in-None
returns-in-None c = sym (ends_none c.args.reader.now.sizes c.args.reader.now.instances _ (sym c.word.ensures ∙ c.in-None.is))

use Rattle.std.proofs.Common.{sym, ◌∙◌}
use Rattle.abc_asm.proofs.Beneath.{next_is, next_none}
use Rattle.abc_asm.proofs.coming.comes.Goals as goal

pub returns-in-Some : goal.returns-in-Some
returns-in-Some c = rw (c.place_of.ensures.is, c.place_of-in-Some.ensures.is) (sym (next_is c.args.word c.in-Some.next _ (sym c.word.ensures ∙ c.in-Some.is)))

pub returns-in-None : goal.returns-in-None
returns-in-None c = sym (next_none c.args.word _ (sym c.word.ensures ∙ c.in-None.is))

use Rattle.std.proofs.Common.{◌∙◌, sym}
use Rattle.abc_run_members.proofs.Told.{told_of}
use Rattle.abc_run_members.proofs.elements.element_told.Goals as goal

pub returns : goal.returns
returns c = told_of c.args.linked.now c.args.s.now.arena c.args.spaces c.args.o c.args.asked c.of_any_text.result c.element_of.result c.of_any_text.ensures (c.is_plain.ensures c.if-not-is_plain.false) (sym c.is_array.ensures ∙ c.if-not-is_array.false) c.element_of.ensures

use Rattle.abc_run_members.proofs.ElementsHeld.{elements_taken}
use Rattle.abc_run_members.proofs.writing.kept_element.Goals as goal

pub returns-in-Some : goal.returns-in-Some
returns-in-Some c = elements_taken c.args.linked.now c.args.s.now c.args.o c.args.name.now c.in-Some.element c.kept_at.result c.requires.inside (c.is_plain.ensures c.if-not-is_plain.false) c.in-Some.ensures c.kept_at.ensures

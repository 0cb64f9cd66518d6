use Rattle.abc_heap_store.specs.Texts.{text_in}
use Rattle.abc_heap_store.proofs.search.find.Goals as goal

pub returns-in-Some : goal.returns-in-Some
returns-in-Some c = c.in-Some.ensures (text_in c.args.fixed.now c.args.made.now.items c.args.strings.now)

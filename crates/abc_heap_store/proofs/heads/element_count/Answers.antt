use Rattle.std.proofs.Common.{◌∙◌, ap}
use Rattle.abc_heap_values.specs.declared.chain.Chain.{Chain}
use Rattle.abc_heap_store.proofs.Calls.{elements_counted}
use Rattle.abc_heap_store.proofs.heads.element_count.Goals as goal

pub returns : goal.returns
returns c = ap (λ (x : Chain). x.count) c.elements_kept.ensures ∙ elements_counted c.args.cells.now.items c.args.heads.now.items c.args.o _ c.requires.heads c.head_at.ensures

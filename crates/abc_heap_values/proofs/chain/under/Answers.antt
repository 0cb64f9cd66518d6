use Rattle.abc_heap_values.proofs.Walks.{under_jump}
use Rattle.abc_heap_values.proofs.chain.under.Goals as goal

pub returns-else-here-eq0 : goal.returns-else-here-eq0
returns-else-here-eq0 c = under_jump _ _ _ c.requires.linked c.cell_at-here.ensures c.if-here-eq0.false

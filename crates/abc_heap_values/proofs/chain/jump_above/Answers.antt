use Rattle.abc_heap_values.proofs.Walks.{under_le, under_on}
use Rattle.abc_heap_values.proofs.chain.jump_above.Goals as goal

pub overflow_sub-top_position : goal.overflow_sub-top_position
overflow_sub-top_position c = under_le _ _ _ _ _ c.under-middle.ensures c.cell_at-top_position.ensures c.cell_at-middle_position.ensures

pub overflow_sub-middle_position : goal.overflow_sub-middle_position
overflow_sub-middle_position c = under_le _ _ _ _ _ c.under-bottom.ensures c.cell_at-middle_position.ensures c.cell_at-bottom_position.ensures

pub returns-then-top_position-middle_position : goal.returns-then-top_position-middle_position
returns-then-top_position-middle_position c = under_on _ _ _ _ c.under-middle.ensures c.under-bottom.ensures

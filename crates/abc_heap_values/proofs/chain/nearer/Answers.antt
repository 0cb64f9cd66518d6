use Rattle.std.proofs.Common.{arith}
use Rattle.abc_heap_values.proofs.Walks.{jump_in, nearer_jump, nearer_before}
use Rattle.abc_heap_values.proofs.chain.nearer.Goals as goal

pub cell_at-jump-requires : goal.cell_at-jump-requires
cell_at-jump-requires c = omega (arith, jump_in _ _ _ _ c.requires.linked c.cell_at-here.ensures (c.requires.above _ c.cell_at-here.ensures))

pub returns-then-position-jump : goal.returns-then-position-jump
returns-then-position-jump c = record {
  reached = nearer_jump _ _ _ _ _ c.requires.linked c.cell_at-here.ensures c.cell_at-jump.ensures (c.requires.above _ c.cell_at-here.ensures) c.if-position-jump.true;
  falls = (jump_in _ _ _ _ c.requires.linked c.cell_at-here.ensures (c.requires.above _ c.cell_at-here.ensures)).0;
}

pub returns-else-position-jump : goal.returns-else-position-jump
returns-else-position-jump c = record {
  reached = nearer_before _ _ _ _ c.requires.linked c.cell_at-here.ensures (c.requires.above _ c.cell_at-here.ensures);
  falls = (jump_in _ _ _ _ c.requires.linked c.cell_at-here.ensures (c.requires.above _ c.cell_at-here.ensures)).1;
}

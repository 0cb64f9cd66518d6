use Rattle.std.proofs.Common.{refl, arith}
use Rattle.abc_heap_values.specs.Lanes.{lane_of}
use Rattle.abc_heap_values.proofs.Grows.{next_linked, next_jump}
use Rattle.abc_heap_values.proofs.chain.next_cell.Goals as goal

pub returns-then-chain-eq0-clause-linked : goal.returns-then-chain-eq0-clause-linked
returns-then-chain-eq0-clause-linked c = next_linked _ c.args.owner (lane_of c.args.held) c.args.chain _ c.requires.chain refl refl refl refl (λ p. absurd (omega arith))

pub returns-else-chain-eq0-clause-linked : goal.returns-else-chain-eq0-clause-linked
returns-else-chain-eq0-clause-linked c = next_linked _ c.args.owner (lane_of c.args.held) c.args.chain _ c.requires.chain refl refl refl refl (next_jump _ _ _ _ _ c.requires.chain (λ p. c.jump_above-jump.ensures))

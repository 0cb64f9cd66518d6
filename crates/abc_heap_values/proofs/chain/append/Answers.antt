use Rattle.std.proofs.Common.{refl, ap, arith}
use Rattle.std.proofs.lemmas.List.{length-map}
use Rattle.abc_heap_values.specs.Filling.{Filling}
use Rattle.abc_heap_values.specs.declared.cell.Cell.{Cell}
use Rattle.abc_heap_values.specs.Lanes.{lane_of}
use Rattle.abc_heap_values.specs.Links.{link_of, links}
use Rattle.abc_heap_values.proofs.Grows.{count_le, append_linked, append_chain}
use Rattle.abc_heap_values.proofs.chain.append.Goals as goal

pub overflow_add-count : goal.overflow_add-count
overflow_add-count c = omega (arith, c.len-place.ensures, c.requires.chain.counted, count_le c.args.owner (lane_of c.args.held) (links c.args.cells.now.items), length-map c.args.cells.now.items link_of)

pub next_cell-cell-requires-clause-linked : goal.next_cell-cell-requires-clause-linked
next_cell-cell-requires-clause-linked c = c.requires.linked

pub returns-clause-linked : goal.returns-clause-linked
returns-clause-linked c = append_linked c.args.cells.now.items c.push.new.self.items c.next_cell-cell.result (ap (λ (f : Filling Cell). f.items) c.push.ensures) c.requires.linked c.next_cell-cell.ensures.linked

pub returns-clause-chain : goal.returns-clause-chain
returns-clause-chain c = append_chain c.args.cells.now.items c.push.new.self.items c.next_cell-cell.result c.args.owner c.args.held c.args.chain _ (ap (λ (f : Filling Cell). f.items) c.push.ensures) c.requires.chain c.next_cell-cell.ensures.owner c.next_cell-cell.ensures.held c.next_cell-cell.ensures.position c.len-place.ensures.len refl

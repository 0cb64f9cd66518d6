use Rattle.std.proofs.Common.{◌*◌, arith}
use Rattle.abc_heap_store.proofs.Joins.{joined, same_self}
use Rattle.abc_heap_store.proofs.empties.join.Goals as goal

pub returns-then-half-size : goal.returns-then-half-size
returns-then-half-size c = record { same = same_self c.args.heads.now.items c.args.cells.now c.requires.heads c.requires.gaps; doubled = λ e. absurd cc }

pub returns-then-rest-size : goal.returns-then-rest-size
returns-then-rest-size c = record { same = same_self c.args.heads.now.items c.args.cells.now c.requires.heads c.requires.gaps; doubled = λ e. absurd cc }

pub returns-then-not-are_empty : goal.returns-then-not-are_empty
returns-then-not-are_empty c = record { same = same_self c.args.heads.now.items c.args.cells.now c.requires.heads c.requires.gaps; doubled = λ e. absurd cc }

pub returns : goal.returns
returns c = record {
  same = joined c.args.heads.now.items c.args.cells.now c.hold.new.cells c.property_place-place.result c.args.o c.first_of_pair-first.result (2 * c.args.size) c.requires.heads c.requires.gaps c.requires.inside c.property_place-place.ensures (omega (arith, c.requires.some)) (c.are_empty.ensures c.if-not-are_empty.false) c.hold.ensures;
  doubled = λ e. omega arith;
}

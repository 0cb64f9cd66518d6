use Rattle.std.proofs.Common.{ap, length, arith}
use Rattle.abc_heap_store.specs.Heap.{properties_of}
use Rattle.abc_heap_store.proofs.Joins.{same_self, same_then}
use Rattle.abc_heap_store.proofs.empties.join_around.Goals as goal

pub loop-init : goal.loop-init
loop-init c = (same_self c.args.heads.now.items c.args.cells.now c.requires.heads c.requires.gaps, omega arith)

pub join-requires : goal.join-requires
join-requires c =
    let same = c.loop.invariant.0 in
    record {
      heads = same.heads;
      gaps = same.gaps;
      inside = c.requires.inside;
      property = omega (arith, c.requires.property, ap (λ obs. length (properties_of obs c.args.o)) same.objects);
      some = c.loop.invariant.1;
    }

pub returns-then-not-join : goal.returns-then-not-join
returns-then-not-join c = same_then c.args.heads.now.items c.args.cells.now _ _ c.loop.invariant.0 c.join.ensures.same

pub loop-preserved : goal.loop-preserved
loop-preserved c = (same_then c.args.heads.now.items c.args.cells.now _ _ c.loop.invariant.0 c.join.ensures.same, omega (arith, c.loop.invariant.1))

pub returns : goal.returns
returns c = c.loop.invariant.0

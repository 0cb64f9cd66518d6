use Rattle.std.proofs.Common.{refl}
use Rattle.abc_tidy_refs.specs.Nodes.{new_index}
use Rattle.abc_tidy_refs.specs.Renumbered.{beside, new_file}
use Rattle.abc_tidy_entries.specs.Visited.{roots_of}
use Rattle.abc_tidy_entries.proofs.Once.{once_classed, visited_all}
use Rattle.abc_tidy.proofs.Tidied.{tidied_value, with_numbers}
use Rattle.abc_tidy.proofs.tidying.plan_of.Goals as goal

pub visit_order-requires-clause-valid : goal.visit_order-requires-clause-valid
visit_order-requires-clause-valid c = c.requires.classed.valid

pub visit_order-requires-clause-distinct : goal.visit_order-requires-clause-distinct
visit_order-requires-clause-distinct c = c.requires.classed.distinct

pub visit_order-requires-clause-roots : goal.visit_order-requires-clause-roots
visit_order-requires-clause-roots c = once_classed c.args.classed.now.classes.classes c.args.classed.now.roots (roots_of c.args.abc.now) c.requires.classed.roots_are c.requires.classed.classed

pub numbers_of-requires : goal.numbers_of-requires
numbers_of-requires c = record {
  counts = c.requires.counts;
  heads = c.requires.classed.alike;
  graph = c.requires.classed.graph_is;
  valid = c.requires.classed.valid;
  distinct = c.requires.classed.distinct;
  roots = c.requires.classed.classed;
  classed = c.in_ok-seen.ensures.classed;
  apart = c.in_ok-seen.ensures.apart;
}

pub returns : goal.returns
returns c =
    let k = c.requires.classed in
    tidied_value c.args.abc.now c.in_ok-pools.pools (beside (new_file (new_index (with_numbers c.args.counts c.in_ok-all.all)) c.args.abc.now) c.in_ok-pools.pools) c.args.counts c.args.classed.now.heads c.args.classed.now.graph (roots_of c.args.abc.now) c.in_ok-seen.seen c.in_ok-all.all
    c.requires.counts k.graph_is refl
    c.args.classed.now.classes.keys.keys c.args.classed.now.classes.classes k.alike k.valid k.classed c.in_ok-seen.ensures.classed
    (visited_all c.args.classed.now.heads c.args.classed.now.graph c.args.classed.now.roots (roots_of c.args.abc.now) c.in_ok-seen.seen k.roots_are c.in_ok-seen.ensures.visited) c.in_ok-all.ensures c.in_ok-pools.ensures refl

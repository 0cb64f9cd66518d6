-- The first of those that are left clashes with one of the others, with none, or none is left.
use Rattle.std.proofs.Common.{sym}
use Rattle.abc_link_names.proofs.Paired.{no_pairs, pair_here, pairs_left}
use Rattle.abc_link_names.proofs.pairs.any_pair_of.Goals as goal

pub returns-then-clashes_in : goal.returns-then-clashes_in
returns-then-clashes_in g c = pair_here (g.C.Clash.clash c.args.clash.now) c.loop-parts.left.now c.in-Some.parts.1.now c.in-Some.parts.0.now _ c.loop-parts.invariant c.in-Some.ensures.cases (sym c.if-clashes_in.ensures)

pub loop-parts-preserved : goal.loop-parts-preserved
loop-parts-preserved g c = pairs_left (g.C.Clash.clash c.args.clash.now) c.loop-parts.left.now c.in-Some.parts.1.now c.in-Some.parts.0.now _ c.loop-parts.invariant c.in-Some.ensures.cases (sym c.if-clashes_in.ensures)

pub returns : goal.returns
returns g c = no_pairs (g.C.Clash.clash c.args.clash.now) c.loop-parts.left.now _ c.loop-parts.invariant c.in_default.ensures.cases

use Rattle.abc_base_graphs.specs.Index.{FindsFrom}
use Rattle.abc_base_graphs.proofs.index.index_of.Given as goal

abbrev pub invariant-loop-i : goal.invariant-loop-i
invariant-loop-i g l = FindsFrom g.K.PartialEq.eq l.map l.keys l.i

use Rattle.abc_link_names.specs.Meanings.{MeansBelow}
use Rattle.abc_link_names.proofs.meanings.meanings_of.Given as goal

abbrev pub invariant-loop-name : goal.invariant-loop-name
invariant-loop-name l = MeansBelow l.names.abc.now l.meanings l.name

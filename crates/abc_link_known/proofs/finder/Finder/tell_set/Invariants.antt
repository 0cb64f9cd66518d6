use Rattle.abc_link_names.specs.Meanings.{AreKnown}
use Rattle.abc_link_known.proofs.finder.Finder.tell_set.Given as goal

abbrev pub invariant-loop-name : goal.invariant-loop-name
invariant-loop-name l = AreKnown l.self.names.abc.now l.known

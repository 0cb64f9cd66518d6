use Rattle.std.proofs.Common.{◌≡◌, length}
use Rattle.abc_link_names.specs.Meanings.{AreKnown}
use Rattle.abc_link_known.proofs.finder.Finder.tell_sets.Given as goal

abbrev pub invariant-loop-set : goal.invariant-loop-set
invariant-loop-set l = record { known : AreKnown l.self.names.abc.now l.known; len : length l.slate ≡ length l.fn.slate }

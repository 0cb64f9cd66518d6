use Rattle.std.proofs.Common.{◌≡◌, length}
use Rattle.abc_link_names.specs.Meanings.{AreKnown}
use Rattle.abc_link_known.proofs.finder.Finder.tell_texts.Given as goal

abbrev pub invariant-loop-text : goal.invariant-loop-text
invariant-loop-text l = record { known : AreKnown l.self.names.abc.now l.known; len : length l.slate ≡ length l.fn.slate }

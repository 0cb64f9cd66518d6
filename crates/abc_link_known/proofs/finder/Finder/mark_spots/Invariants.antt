use Rattle.std.proofs.Common.{◌≡◌, length, take}
use Rattle.abc_link_known.specs.Slates.{AreSpotsMarked}
use Rattle.abc_link_known.proofs.finder.Finder.mark_spots.Given as goal

abbrev pub invariant-loop-space : goal.invariant-loop-space
invariant-loop-space l = record { marked : AreSpotsMarked l.self.names.abc.now l.self.names.tables.now.numbers l.slate (take l.space-index l.spaces); len : length l.slate ≡ length l.fn.slate }

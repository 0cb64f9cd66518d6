use Rattle.abc_link_layouts.specs.Files.{linked_file}
use Rattle.abc_link.proofs.Rungs.{AreFirst}
use Rattle.abc_link.proofs.ladder.rungs_of.Given as goal

abbrev pub invariant-loop-layout : goal.invariant-loop-layout
invariant-loop-layout l = AreFirst (linked_file l.abc l.layouts) l.rungs l.layout

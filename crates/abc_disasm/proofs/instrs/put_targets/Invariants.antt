use Rattle.std.proofs.Common.{◌≡◌, ◌++◌, take}
use Rattle.abc_disasm.specs.Texts.{labels}
use Rattle.abc_disasm.proofs.instrs.put_targets.Given as goal

abbrev pub invariant-loop-target : goal.invariant-loop-target
invariant-loop-target l = l.out.items ≡ l.initial.out.items ++ labels (take l.target-index l.targets)

use Rattle.std.proofs.Common.{◌≡◌, ◌++◌, take}
use Rattle.std.specs.List.{flat_map}
use Rattle.abc_text_lines.specs.Answers.{pairs}
use Rattle.abc_disasm.specs.Texts.{entry_text}
use Rattle.abc_disasm.proofs.methods.put_entries.Given as goal

abbrev pub invariant-loop-i : goal.invariant-loop-i
invariant-loop-i l = l.out.items ≡ l.initial.out.items ++ flat_map (entry_text l.abc) (take l.i (pairs l.items))

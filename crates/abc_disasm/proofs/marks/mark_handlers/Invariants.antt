use Rattle.std.proofs.Common.{◌≡◌, ℕ, List, ◌++◌, take, vec_len}
use Rattle.std.specs.List.{flat_map}
use Rattle.abc_disasm.specs.Marks.{AreTargetMarks}
use Rattle.abc_disasm.specs.Texts.{handler_targets}
use Rattle.abc_disasm.proofs.marks.mark_handlers.Given as goal

abbrev pub invariant-loop-handler : goal.invariant-loop-handler
invariant-loop-handler l = record {
  len : vec_len l.marks ≡ vec_len l.initial.marks;
  marked : (named : List ℕ) → AreTargetMarks l.initial.marks.items named → AreTargetMarks l.marks.items (named ++ flat_map handler_targets (take l.handler-index l.handlers));
}

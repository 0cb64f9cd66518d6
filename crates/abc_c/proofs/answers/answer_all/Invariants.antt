use Rattle.std.proofs.Common.{◌≡◌, length, take}
use Rattle.abc_c.specs.Answered.{AreAnswered}
use Rattle.abc_c.proofs.answers.answer_all.Given as goal

abbrev pub invariant-loop-i : goal.invariant-loop-i
invariant-loop-i l = record {
  answered : AreAnswered l.names l.initial.kept.session (take l.i l.calls) (take l.i l.answers) l.initial.out.taken l.kept.session l.out.taken;
  room : length l.answers ≡ length l.initial.answers;
}

use Rattle.std.proofs.Common.{[], inl, inr, refl}
use Rattle.abc_cli_answers.specs.Lines.{write_fault_text}
use Rattle.abc_log.proofs.Digits.{nothing_added}
use Rattle.abc_cli_answers.proofs.ends.give_bytes.Goals as goal

pub returns-in-Ok : goal.returns-in-Ok
returns-in-Ok g c = inl (c.in-Ok.ensures.bytes, λ some. nothing_added (g.E.Sink.written c.args.err.now) [] refl, refl)

pub returns-in-Err : goal.returns-in-Err
unfolding write_fault_text
returns-in-Err g c = inr (c.in-Err.ensures.cause.failed, c.in-Err.ensures.bytes, c.give_line.ensures)

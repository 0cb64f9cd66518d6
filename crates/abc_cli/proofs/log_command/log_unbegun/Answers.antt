use Rattle.std.proofs.Common.{inl, inr}
use Rattle.abc_cli_answers.specs.Lines.{write_fault_text}
use Rattle.abc_cli.proofs.log_command.log_unbegun.Goals as goal

pub returns-in-Ok : goal.returns-in-Ok
returns-in-Ok g c = inl (c.in-Ok.ensures.bytes, c.give_unopened.ensures)

pub returns-in-Err : goal.returns-in-Err
unfolding write_fault_text
returns-in-Err g c = inr (c.in-Err.ensures.cause.failed, c.in-Err.ensures.bytes, c.give_line.ensures)

-- The line is broken or whole.
use Rattle.std.proofs.Common.{List, subst}
use Rattle.std.proofs.lemmas.Result.{err_from_is_err_and}
use Rattle.abc_text_lines.specs.Lineforms.{instruction_operands}
use Rattle.abc_text_operands.specs.Answers.{AnswersOperand}
use Rattle.abc_text_operands.specs.Joined.{line_result}
use Rattle.abc_text_tokens.specs.Walks.{tokens_of}
use Rattle.abc_text_tokens.specs.declared.token.Token.{Token}
use Rattle.abc_text_reader.specs.Reading.{labels_now}
use Rattle.abc_text_reader.proofs.Lone.{broken_reads}
use Rattle.abc_text_reader.proofs.Lined.{instruction_headed, instruction_reads, word_is}
use Rattle.abc_text_reader.proofs.code.read_instruction.Goals as goal

pub returns-in_err-taken-clause-reads : goal.returns-in_err-taken-clause-reads
returns-in_err-taken-clause-reads c =
    let p = err_from_is_err_and c.from_residual.result c.from_residual.ensures.1 in
    rw (p.1, p.2) (broken_reads _ c.args.reader.now c.take.new.self _ instruction_headed c.in_err-taken.ensures.broken)

pub returns-clause-reads : goal.returns-clause-reads
returns-clause-reads c =
    let new = c.take.new.self in
    let taken = c.in_ok-taken.taken in
    let e = c.in_ok-taken.ensures in
    let says = subst (λ (ts : List Token). AnswersOperand c.instruction_line-instr.result (line_result (instruction_operands c.args.op) (labels_now new.body) (tokens_of ts))) c.as_slice.ensures.value (c.instruction_line-instr.ensures (labels_now new.body) e.labels) in
    rw c.made.ensures (instruction_reads c.args.reader.now new taken e.row c.args.op c.instruction_line-instr.result (word_is c.args.reader.now new taken _ c.requires.next e.row) e.once says)

-- A label line, an instruction, another line or none.
use Rattle.std.proofs.Common.{Some, sym, ap, ◌∙◌}
use Rattle.std.proofs.lemmas.Result.{err_from_is_err_and}
use Rattle.abc_text_lines.specs.declared.word.Word.{Word}
use Rattle.abc_text_reader.proofs.Coding.{next_instruction, next_instruction_fails, next_label, next_label_fails}
use Rattle.abc_text_reader.proofs.code.gather_code.Goals as goal

pub loop-word-preserved-in-Continue-1 : goal.loop-word-preserved-in-Continue-1
loop-word-preserved-in-Continue-1 c =
    let e = c.in_ok-read_label-in-Label.ensures in
    record {
      coding = next_label c.args.reader.now c.loop-word.gathering.instrs c.loop-word.reader c.loop-word.invariant.coding c.read_label.new.reader (sym c.word.ensures ∙ c.in-Some.is ∙ ap (λ (w : Word). Some w) c.in-Label.is) e.goes e.reads;
      summed = c.loop-word.invariant.summed;
    }

pub returns-in_err-read_label-in-Label-clause-reads : goal.returns-in_err-read_label-in-Label-clause-reads
returns-in_err-read_label-in-Label-clause-reads c =
    let p = err_from_is_err_and c.from_residual.result c.from_residual.ensures.1 in
    rw (p.1, p.2) (next_label_fails c.args.reader.now c.loop-word.gathering.instrs c.loop-word.reader c.loop-word.invariant.coding c.read_label.new.reader c.in_err-read_label-in-Label.field-0.0 (sym c.word.ensures ∙ c.in-Some.is ∙ ap (λ (w : Word). Some w) c.in-Label.is) c.in_err-read_label-in-Label.ensures.reads)

pub returns-in_err-instr-in-Instruction-clause-reads : goal.returns-in_err-instr-in-Instruction-clause-reads
returns-in_err-instr-in-Instruction-clause-reads c =
    let p = err_from_is_err_and c.from_residual-in_err-instr-in-Instruction.result c.from_residual-in_err-instr-in-Instruction.ensures.1 in
    rw (p.1, p.2) (next_instruction_fails c.args.reader.now c.loop-word.gathering.instrs c.loop-word.reader c.loop-word.invariant.coding c.read_instruction.new.reader c.in-Instruction.op c.in_err-instr-in-Instruction.field-0.0 (sym c.word.ensures ∙ c.in-Some.is ∙ ap (λ (w : Word). Some w) c.in-Instruction.is) c.in_err-instr-in-Instruction.ensures.reads)

pub loop-word-preserved : goal.loop-word-preserved
loop-word-preserved c =
    let e = c.in_ok-instr-in-Instruction.ensures in
    record {
      coding = rw c.in_ok-push-in-Instruction.ensures.instrs (next_instruction c.args.reader.now c.loop-word.gathering.instrs c.loop-word.reader c.loop-word.invariant.coding c.read_instruction.new.reader c.in-Instruction.op c.in_ok-instr-in-Instruction.instr (sym c.word.ensures ∙ c.in-Some.is ∙ ap (λ (w : Word). Some w) c.in-Instruction.is) e.goes e.reads);
      summed = c.in_ok-push-in-Instruction.ensures.summed;
    }

-- One more opcode.
use Rattle.std.proofs.Common.{◌+◌, ◌-◌, ℕ, List, sym, ap, ◌∙◌}
use Rattle.std.specs.Borrow.{Bor}
use Rattle.std.specs.Map.{lookup}
use Rattle.abc_text_tokens.specs.Names.{NameMap, either_of, found_name, is_name_equal, opcode_from}
use Rattle.abc_text_tokens.proofs.Wording.{all_opcodes, opcode_end, opcode_named, opcode_unnamed}
use Rattle.abc_text_tokens.proofs.searching.opcodes_by_name.Goals as goal
use Rattle.abc_text_tokens.proofs.searching.opcodes_by_name.Goals.{in-Some+in_ok-note-in-Some, in-None}

pub loop-op-init : goal.loop-op-init
loop-op-init c name = ap (λ (es : List (Bor (List ℕ) × ℕ)). either_of (lookup (is_name_equal name) es) (opcode_from 256 0 name)) c.new-opcodes.ensures.empty ∙ all_opcodes name

pub loop-op-preserved : goal.loop-op-preserved
loop-op-preserved c =
    let op = c.loop-op.op in
    elim c.match-mnemonic.branch [
      | in-Some+in_ok-note-in-Some w ↦ λ name.
          ap (λ (m : NameMap ℕ). either_of (found_name m name) (opcode_from (256 - (op + 1)) (op + 1) name)) w.opcodes-is
          ∙ opcode_named op name w.in-Some.name.now (found_name c.loop-op.opcodes name) (found_name {V = ℕ} w.note.new.values name) c.loop-op-test.true (sym w.in-Some.ensures) (w.in_ok-note-in-Some.ensures name)
          ∙ c.loop-op.invariant name
      | in-None w ↦ λ name.
          ap (λ (m : NameMap ℕ). either_of (found_name m name) (opcode_from (256 - (op + 1)) (op + 1) name)) w.opcodes-is
          ∙ ap (λ o. either_of (found_name c.loop-op.opcodes name) o) (opcode_unnamed op name c.loop-op-test.true (sym w.in-None.ensures))
          ∙ c.loop-op.invariant name
    ]

pub returns : goal.returns
returns c = λ name. sym (opcode_end c.loop-op.op name (found_name c.loop-op.opcodes name) c.loop-op-test.false) ∙ c.loop-op.invariant name

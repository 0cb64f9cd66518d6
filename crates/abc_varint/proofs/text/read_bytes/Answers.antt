use Rattle.std.proofs.Common.{arith}
use Rattle.abc_varint.proofs.Chunks.{text_taken}
use Rattle.abc_varint.proofs.text.read_bytes.Goals as goal

pub returns-then-is_ready-clause-value : goal.returns-then-is_ready-clause-value
returns-then-is_ready-clause-value g c = (
  text_taken c.args.count _ c.held.result.now _ _ _ (c.is_ready.ensures.ready c.if-is_ready.true) c.held.ensures c.in_ok-bytes.ensures c.go_on.ensures,
  λ e h. absurd (let k = c.requires in cc),
  omega arith,
  λ k h. absurd cc,
  tt,
)
